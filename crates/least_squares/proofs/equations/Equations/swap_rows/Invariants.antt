-- After k columns the array holds the matrix with the two rows swapped in these columns. Assumes nothing.
use mathlib.Core.Path.{◌≡◌}
use Prim.Native.Nat.{◌+◌, ◌≤◌}
use Rattle.least_squares.proofs.MatrixLoops.{Holds}
use Rattle.least_squares.specs.Flat.{swapped_to, view}
use Rattle.least_squares.proofs.equations.Equations.swap_rows.Given as goal

abbrev pub invariant-loop-k : goal.invariant-loop-k
invariant-loop-k l =
    (l.k ≤ l.w) × (l.w ≡ l.initial.self.p + 1) × (l.self.p ≡ l.initial.self.p) × Holds l.self.a (swapped_to l.c l.q l.k (view l.initial.self.a))
