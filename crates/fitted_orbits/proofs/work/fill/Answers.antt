-- `fitted_orbits::work::fill`: the outputs cleared are those of no window, and `fit_each` adds all windows to them, by `filled` of proofs/Windows.antt. Assumes nothing.
use Prim.Native.Nat.{◌-◌}
use lib.ListN.{length}
use Rattle.inputs.specs.Lent.{model_of, keyed_of}
use Rattle.fitted_orbits.specs.Calls.{given, fitted_windows}
use Rattle.fitted_orbits.proofs.Windows.{filled}
use Rattle.fitted_orbits.proofs.work.fill.Goals as goal

pub returns : goal.returns
unfolding fitted_windows
returns c =
    let s = c.args in
    let pre = c.requires in
    filled (length s.nodes.now - 1) (fitted_windows (given (model_of s.model) (keyed_of s.states) s.nodes.now)) _
    _ _ (c.clear_outputs.ensures (length s.nodes.now - 1) pre.2 pre.3 pre.4) c.fit_each.ensures
