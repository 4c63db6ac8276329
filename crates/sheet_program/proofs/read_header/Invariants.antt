-- What is read of the line ends before the last place or in it. Assumes nothing.
use Prim.Native.Nat.{◌≤◌}
use Rattle.sheet_program.proofs.read_header.Given as goal

abbrev pub invariant-loop : goal.invariant-loop
invariant-loop g l = l.n ≤ l.last
