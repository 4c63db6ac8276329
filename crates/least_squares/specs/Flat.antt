-- The elimination as the code holds it: the augmented matrix in a list of 240 numbers, 15 rows of 16, of which the first p rows and p + 1 columns are used.
-- That these numbers are those of the matrices is proved (proofs/Matrices.antt). Assumes nothing.
use Rattle.std.specs.Prelude.{ℕ, zero, suc, ◌+◌, ◌*◌, ◌-◌, ◌/◌, ◌%◌, Bool, true, cond, ◌&&◌, not, List, ltb, eqb, Float, get_or}
use Rattle.std.specs.Float.{nan}
use Rattle.laws.specs.Floats.{◌⊖◌, ◌⊗◌, ◌⊘◌, zero64}
use Rattle.laws.specs.Tables.{row}
use Rattle.least_squares.specs.Elimination.{Matrix, largest, too_small}
use Rattle.least_squares.specs.LeastSquares.{normal_at}

abbrev pub view : List Float → Matrix
view l i j = get_or l (i * 16 + j) nan

unfoldable pub flatten : Matrix → List Float
flatten m = row (λ (k : ℕ). m (k / 16) (k % 16)) 240

-- m in the first p rows and p + 1 columns, +0.0 elsewhere
unfoldable pub augmented : ℕ → Matrix → Matrix
augmented p m i j = cond (ltb i p) (cond (ltb j (p + 1)) (m i j) zero64) zero64

-- the normal equations
unfoldable pub equations : List Float → List Float → ℕ → List Float
equations rows y p = flatten (augmented p (normal_at rows y p))

-- `swapped` in the columns below w
unfoldable pub swapped_to : ℕ → ℕ → ℕ → Matrix → Matrix
swapped_to c q w m i j = cond (ltb j w) (cond (eqb i c) (m q j) (cond (eqb i q) (m c j) (m i j))) (m i j)

-- `eliminated` in row i alone, in the columns below w
unfoldable pub reduced_to : ℕ → ℕ → ℕ → Matrix → Matrix
reduced_to c i w m i' j = cond (eqb i' i) (cond (ltb j w) (m i' j ⊖ m i' c ⊘ m c c ⊗ m c j) (m i' j)) (m i' j)

-- `eliminated` in the rows below n, in the columns below w
unfoldable pub eliminated_to : ℕ → ℕ → ℕ → Matrix → Matrix
eliminated_to c n w m i j = cond (ltb i n) (cond (eqb i c) (m i j) (cond (ltb j w) (m i j ⊖ m i c ⊘ m c c ⊗ m c j) (m i j))) (m i j)

-- `pivot_row`, `turn`, `stage`, `singular` and `fine` of such a list
unfoldable pub pivot_row_in : ℕ → ℕ → List Float → ℕ
pivot_row_in p c l = largest (view l) c (p - (c + 1))

unfoldable pub turn_in : ℕ → ℕ → List Float → List Float
turn_in p c l = flatten (eliminated_to c p (p + 1) (view (flatten (swapped_to c (pivot_row_in p c l) (p + 1) (view l)))))

unfoldable pub stage_in : ℕ → List Float → ℕ → List Float
stage_in p l zero = l
stage_in p l (suc c) = turn_in p c (stage_in p l c)

unfoldable pub singular_in : ℕ → List Float → ℕ → Bool
singular_in p l c = too_small (view (stage_in p l c) (pivot_row_in p c (stage_in p l c)) c)

unfoldable pub fine_in : ℕ → List Float → ℕ → Bool
fine_in p l zero = true
fine_in p l (suc n) = fine_in p l n && not (singular_in p l n)
