-- `fitted_orbits::work::fit_each`: after w pairs of nodes the outputs have gained the windows of these pairs, and no length has changed. Assumes nothing.
use mathlib.Core.Path.{◌≡◌}
use Prim.Native.Nat.{◌+◌, ◌-◌, ◌≤◌}
use lib.ListN.{length, take}
use Rattle.inputs.specs.Lent.{model_of, keyed_of}
use Rattle.fitted_orbits.specs.Orbits.{between}
use Rattle.fitted_orbits.specs.Calls.{outputs, fitted_between}
use Rattle.fitted_orbits.specs.Work.{Adds}
use Rattle.fitted_orbits.proofs.Windows.{start_done}
use Rattle.fitted_orbits.proofs.work.fit_each.Given as goal

abbrev pub invariant-loop-w : goal.invariant-loop-w
invariant-loop-w l =
    (l.w ≤ length l.nodes - 1) × (length l.s ≡ length l.initial.s)
    × Adds (between (fitted_between (model_of l.track.model) (keyed_of l.track.states)) (take (l.w + 1) l.nodes)) l.w start_done l.done
    (outputs l.initial.outkeys l.initial.outstates l.initial.rms) (outputs l.outkeys l.outstates l.rms)

abbrev pub decreases-loop-w : goal.decreases-loop-w
decreases-loop-w l = length l.nodes - 1 - l.w
