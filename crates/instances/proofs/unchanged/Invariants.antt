-- No more values are the same than were looked at. Assumes nothing.
use Prim.Native.Nat.{◌≤◌}
use Rattle.instances.proofs.unchanged.Given as goal

abbrev pub invariant-loop-x : goal.invariant-loop-x
invariant-loop-x l = l.same ≤ l.x-index
