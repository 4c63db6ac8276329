-- A row begins near: none has more than 200 numbers. Assumes nothing.
use Prim.Native.Nat.{◌*◌, ◌≤◌}
use Rattle.published.proofs.harmonics.farthest.Given as goal

abbrev pub invariant-loop-n : goal.invariant-loop-n
invariant-loop-n l = l.start ≤ 200 * l.n
