use Rattle.fitted_orbits.proofs.Windows.{cleared_listed}
use Rattle.fitted_orbits.proofs.work.clear_outputs.Goals as goal

pub returns : goal.returns
returns c =
    λ k lk ls lr. cleared_listed k c.args.outkeys.now _ c.args.outstates.now _ c.args.rms.now _ c.clear_keys.ensures c.clear.ensures
    c.clear-2.ensures lk ls lr
