-- `residuals::work::try_epoch`: the record of an observation, if it is kept, from what the look-ups found. Assumes nothing.
use Rattle.inputs.specs.Lent.{inputs_of}
use Rattle.residuals.proofs.Making.{tried}
use Rattle.residuals.proofs.work.try_epoch.Goals as goal

pub returns : goal.returns
returns c =
    let s = c.args in
    tried (inputs_of s.rows.inputs) s.t s.observed s.good s.base s.w.now _ _ _ c.look-found.ensures
    c.requires.0 c.requires.1 c.try_seen.ensures
