-- After i rows the array holds the matrix with column c eliminated from these rows. Assumes nothing.
use Rattle.std.proofs.Common.{◌≡◌}
use Prim.Native.Nat.{◌+◌, ◌≤◌}
use Rattle.least_squares.proofs.MatrixLoops.{Holds}
use Rattle.least_squares.specs.Flat.{eliminated_to, view}
use Rattle.least_squares.proofs.equations.Equations.eliminate.Given as goal

abbrev pub invariant-loop-i : goal.invariant-loop-i
invariant-loop-i l =
    (l.i ≤ l.initial.self.p) × Holds l.self.a (eliminated_to l.c l.i (l.initial.self.p + 1) (view l.initial.self.a)) × (l.self.p ≡ l.initial.self.p)
