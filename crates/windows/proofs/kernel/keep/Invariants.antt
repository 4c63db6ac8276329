-- `windows::kernel::keep`: after k steps the states among them that lie in the window stand in the slot, and n counts them. Assumes nothing.
use Rattle.std.proofs.Common.{◌+◌, ◌-◌, ◌≤◌}
use Rattle.windows.proofs.SlotStates.{SlotSoFar}
use Rattle.windows.proofs.kernel.keep.Given as goal

abbrev pub invariant-loop-k : goal.invariant-loop-k
invariant-loop-k l = (l.k ≤ l.steps + 1) × (l.n ≤ 3500) × SlotSoFar l.t0 l.span.from l.span.to l.initial.s l.s l.base l.at l.k l.n

abbrev pub decreases-loop-k : goal.decreases-loop-k
decreases-loop-k l = l.steps + 1 - l.k
