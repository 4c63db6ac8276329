-- Least squares for callers that test nothing: the coefficients alone. Assumes nothing.
use Rattle.std.specs.Prelude.{ℕ, ◌*◌, Bool, false, cond, ◌&&◌, List, ltb, eqb, Float, length, Option, Some, None}
use Rattle.least_squares.specs.LeastSquares.{solvable, solved}

-- p columns, at most 15, for each of y, and as many places for coefficients
unfoldable pub shape_fits : List Float → List Float → ℕ → ℕ → Bool
shape_fits rows y p places = cond (ltb 15 p) false (cond (eqb (length rows) (length y * p)) (eqb places p) false)

-- the coefficients, and b where there are none
unfoldable pub solved_else : List Float → List Float → ℕ → List Float → List Float
solved_else rows y p b = cond (solvable rows y p) (solved rows y p) b

-- whether the kernel finds coefficients for so many places
unfoldable pub solvable_for : List Float → List Float → ℕ → ℕ → Bool
solvable_for rows y p places = cond (shape_fits rows y p places) (solvable rows y p) false

-- what it leaves in them
unfoldable pub coefficients_of : List Float → List Float → ℕ → List Float → List Float
coefficients_of rows y p b = cond (shape_fits rows y p (length b)) (solved_else rows y p b) b

-- p coefficients, or none
unfoldable pub estimate : List Float → List Float → ℕ → Option (List Float)
estimate rows y p = cond (solvable_for rows y p p) (Some (solved rows y p)) None

-- fifteen numbers a row, and no more rows than the bound
unfoldable pub shaped15 : ℕ → ℕ → Bool
shaped15 rows misfits = cond (ltb 100000 misfits) false (eqb rows (misfits * 15))

-- what the kernel for fifteen columns answers
unfoldable pub estimate15 : List Float → List Float → Option (List Float)
estimate15 rows y = cond (shaped15 (length rows) (length y) && solvable rows y 15) (Some (solved rows y 15)) None
