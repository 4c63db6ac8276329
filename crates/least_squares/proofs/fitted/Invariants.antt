-- `least_squares::fitted`: the sum after j columns is the definition's sum of j products. Assumes nothing.
use Rattle.std.proofs.Common.{◌≡◌, ℕ, ◌≤◌, get_or}
use Rattle.std.specs.Float.{nan}
use Rattle.laws.specs.Floats.{◌⊗◌}
use Rattle.laws.specs.Sums.{sum_to}
use Rattle.least_squares.proofs.fitted.Given as goal

abbrev pub invariant-loop-j : goal.invariant-loop-j
invariant-loop-j l =
    (l.j ≤ l.n) × (l.s ≡ sum_to (λ (t : ℕ). get_or l.row t nan ⊗ get_or l.beta t nan) l.j)
