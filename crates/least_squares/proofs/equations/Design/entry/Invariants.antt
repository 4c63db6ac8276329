-- `least_squares::kernel::entry`, an entry of the normal equations: the sum after r rows is the definition's sum of r products. Assumes nothing.
use mathlib.Core.Path.{◌≡◌}
use Prim.Native.Nat.{ℕ, ◌≤◌}
use lib.ListN.{length}
use Rattle.laws.specs.Floats.{◌⊗◌}
use Rattle.laws.specs.Sums.{sum_to}
use Rattle.least_squares.specs.LeastSquares.{value_at}
use Rattle.least_squares.proofs.equations.Design.entry.Given as goal

abbrev pub invariant-loop-r : goal.invariant-loop-r
invariant-loop-r l =
    (l.r ≤ length l.self.y.now) × (l.s ≡ sum_to (λ (t : ℕ). value_at l.self.rows.now l.self.y.now l.self.p t l.i ⊗ value_at l.self.rows.now l.self.y.now l.self.p t l.j) l.r)
