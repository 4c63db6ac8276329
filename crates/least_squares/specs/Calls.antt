-- The public call `ols` (document 01, "Outcomes" and "Bounds"): 1 to 15 columns, 1 to 100,000 rows; which refusal, the work, what is left. Assumes nothing.
use Rattle.std.specs.Prelude.{ℕ, ◌*◌, Bool, cond, ◌&&◌, List, [], ◌∷◌, leb, eqb, Float, length, Err}
use Rattle.std.specs.Float.Ieee.Scale.{finite}
use Rattle.std.specs.List.{list_all}
use Rattle.slices.specs.Calls.{Verdict, accepted, Left, settled, first_failed}
use Rattle.slices.specs.declared.refusal.Refusal.TheVariants.{Count, Length, Value, Singular}
use Rattle.least_squares.specs.LeastSquares.{solvable, solved, residuals_of}

-- from 1 to n
unfoldable pub up_to : ℕ → ℕ → Bool
up_to n k = leb 1 k && leb k n

-- why the arguments are refused
unfoldable pub refusal : List Float → List Float → ℕ → ℕ → ℕ → Verdict
refusal rows y p places misfits =
    first_failed
    ((up_to 15 p, Count)
    ∷ (up_to 100000 (length y), Count)
    ∷ (eqb (length rows) (length y * p), Length)
    ∷ (eqb places p, Length)
    ∷ (eqb misfits (length y), Length)
    ∷ (list_all finite rows, Value)
    ∷ (list_all finite y, Value)
    ∷ [])

-- refused where a pivot is too small
unfoldable pub failure : List Float → List Float → ℕ → Verdict
failure rows y p = cond (solvable rows y p) accepted (Err Singular)

-- coefficients and residuals, or the refusal
unfoldable pub least_squares_call : List Float → List Float → ℕ → List Float → List Float → Left Verdict
least_squares_call rows y p beta residuals =
    settled (refusal rows y p (length beta) (length residuals)) (failure rows y p)
    (solved rows y p ∷ residuals_of rows y p (solved rows y p) ∷ [])
    (beta ∷ residuals ∷ []) []
