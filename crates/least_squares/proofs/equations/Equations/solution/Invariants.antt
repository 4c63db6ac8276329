-- The first i places hold the first i coefficients. Assumes nothing.
use mathlib.Core.Path.{◌≡◌}
use Prim.Native.Nat.{◌≤◌}
use lib.ListN.{length, take}
use Rattle.laws.specs.Tables.{row}
use Rattle.least_squares.specs.Flat.{view}
use Rattle.least_squares.specs.LeastSquares.{coefficient_at}
use Rattle.least_squares.proofs.equations.Equations.solution.Given as goal

abbrev pub invariant-loop-i : goal.invariant-loop-i
invariant-loop-i l =
    (l.i ≤ l.self.p) × (length l.beta ≡ l.self.p) × (take l.i l.beta ≡ row (coefficient_at (view l.self.a) l.self.p) l.i)
