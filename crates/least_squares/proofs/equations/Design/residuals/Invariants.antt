-- `least_squares::equations::Design::residuals`: the first r places hold the first r residuals of the definition. Assumes nothing.
use mathlib.Core.Path.{◌≡◌}
use Prim.Native.Nat.{◌≤◌}
use lib.ListN.{length, take}
use Rattle.laws.specs.Tables.{row}
use Rattle.least_squares.specs.LeastSquares.{residual_at}
use Rattle.least_squares.proofs.equations.Design.residuals.Given as goal

abbrev pub invariant-loop-r : goal.invariant-loop-r
invariant-loop-r l =
    (l.r ≤ length l.self.y.now) × (length l.residuals ≡ length l.self.y.now) × (take l.r l.residuals ≡ row (residual_at l.self.rows.now l.self.y.now l.self.p l.beta) l.r)
