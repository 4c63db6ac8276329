-- `windows::kernel::fit_each`: the slots before w hold the states of their windows, and behind a fit's work nothing outside these slots has moved. Assumes nothing.
use Rattle.inputs.specs.Lent.{model_of, keyed_of}
use Rattle.std.proofs.Common.{◌-◌, ◌≤◌, length}
use Rattle.windows.specs.Windows.{states_left, Filled}
use Rattle.windows.proofs.kernel.fit_each.Given as goal

abbrev pub invariant-loop-w : goal.invariant-loop-w
invariant-loop-w l = (l.w ≤ length l.nodes - 1)
    × Filled (states_left (model_of l.track.model) (keyed_of l.track.states)) l.nodes l.w l.initial.s l.s l.track.base l.first

abbrev pub decreases-loop-w : goal.decreases-loop-w
decreases-loop-w l = length l.nodes - 1 - l.w
