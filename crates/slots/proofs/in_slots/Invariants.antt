-- `slots::in_slots`: no slot before w has the second, so the first that has it gives the answer. Assumes nothing.
use Rattle.std.proofs.Common.{◌-◌, ◌≤◌}
use Rattle.slots.proofs.Looking.{Empty}
use Rattle.slots.proofs.in_slots.Given as goal

abbrev pub invariant-loop-w : goal.invariant-loop-w
invariant-loop-w l = (l.w ≤ l.windows) × Empty l.s l.first l.windows l.second l.w

abbrev pub decreases-loop-w : goal.decreases-loop-w
decreases-loop-w l = l.windows - l.w
