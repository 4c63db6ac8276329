-- Least squares by the normal equations (document 01, module 4, `ols`). The design's rows lie end to end, p numbers each; the normal equations are
-- summed over the rows in order. Assumes nothing.
use Rattle.std.specs.Prelude.{ℕ, ◌+◌, ◌*◌, Bool, cond, List, ltb, Float, get_or, length, min}
use Rattle.std.specs.Float.{nan}
use Rattle.laws.specs.Floats.{◌⊖◌, ◌⊗◌, ◌⊘◌}
use Rattle.laws.specs.Sums.{sum_to}
use Rattle.laws.specs.Tables.{row}
use Rattle.least_squares.specs.Elimination.{Matrix, stage, fine}

-- column j of row r; column p is the observation
unfoldable pub value_at : List Float → List Float → ℕ → ℕ → ℕ → Float
value_at rows y p r j = cond (ltb j p) (get_or rows (r * p + j) nan) (get_or y r nan)

-- the normal equations, with their right-hand side in column p
unfoldable pub normal_at : List Float → List Float → ℕ → Matrix
normal_at rows y p i j = sum_to (λ (r : ℕ). value_at rows y p r i ⊗ value_at rows y p r j) (length y)

-- every pivot is large enough
unfoldable pub solvable : List Float → List Float → ℕ → Bool
solvable rows y p = fine p (normal_at rows y p) p

-- a coefficient, from the matrix after the last column's turn
unfoldable pub coefficient_at : Matrix → ℕ → ℕ → Float
coefficient_at m p i = m i p ⊘ m i i

unfoldable pub solved : List Float → List Float → ℕ → List Float
solved rows y p = row (coefficient_at (stage p (normal_at rows y p) p) p) p

-- what the coefficients give for a row, as far as both reach
unfoldable pub fitted : List Float → List Float → Float
fitted row beta = sum_to (λ (j : ℕ). get_or row j nan ⊗ get_or beta j nan) (min (length row) (length beta))

-- what the coefficients give for row r
unfoldable pub fitted_at : List Float → List Float → ℕ → ℕ → Float
fitted_at rows beta p r = sum_to (λ (j : ℕ). get_or rows (r * p + j) nan ⊗ get_or beta j nan) p

unfoldable pub residual_at : List Float → List Float → ℕ → List Float → ℕ → Float
residual_at rows y p beta r = get_or y r nan ⊖ fitted_at rows beta p r

unfoldable pub residuals_of : List Float → List Float → ℕ → List Float → List Float
residuals_of rows y p beta = row (residual_at rows y p beta) (length y)
