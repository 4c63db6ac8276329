-- Gauss–Jordan elimination with partial pivoting, as the source's `ols` does it (document 01, module 4): NaN counts as largest, of equal largest
-- pivots the last row is taken. A matrix of p rows has its right-hand side in column p. Assumes nothing.
use Rattle.std.specs.Prelude.{ℕ, zero, suc, ◌+◌, ◌-◌, Bool, true, false, cond, ◌&&◌, not, eqb, Float}
use Rattle.std.specs.Float.Ieee.{lt, le, ne}
use Rattle.laws.specs.Floats.{◌⊖◌, ◌⊗◌, ◌⊘◌}
use Rattle.numbers.specs.Numbers.{magnitude}
use Rattle.numbers.specs.Constants.{decimal}

abbrev pub Matrix : Type 0
Matrix = ℕ → ℕ → Float

-- rows c and q change places
unfoldable pub swapped : ℕ → ℕ → Matrix → Matrix
swapped c q m i j = cond (eqb i c) (m q j) (cond (eqb i q) (m c j) (m i j))

-- each row but c, less the multiple of row c that clears column c
unfoldable pub eliminated : ℕ → Matrix → Matrix
eliminated c m i j = cond (eqb i c) (m i j) (m i j ⊖ m i c ⊘ m c c ⊗ m c j)

-- x counts as at least as large as y: NaN is the largest
unfoldable pub reaches : Float → Float → Bool
reaches x y = cond (ne x x) true (cond (ne y y) false (le y x))

-- of the rows c .. c + n, the last whose magnitude in column c is the largest
unfoldable pub largest : Matrix → ℕ → ℕ → ℕ
largest m c zero = c
largest m c (suc n) =
    cond (reaches (magnitude (m (c + suc n) c)) (magnitude (m (largest m c n) c))) (c + suc n) (largest m c n)

-- the row of column c's pivot, in a matrix of p rows
unfoldable pub pivot_row : ℕ → ℕ → Matrix → ℕ
pivot_row p c m = largest m c (p - (c + 1))

-- the test that refuses a pivot: its magnitude is below 1e-12. A NaN passes
unfoldable pub too_small : Float → Bool
too_small x = lt (magnitude x) (decimal 1 12)

-- column c's turn: its pivot's row comes to row c, and the column is cleared from the others
unfoldable pub turn : ℕ → ℕ → Matrix → Matrix
turn p c m = eliminated c (swapped c (pivot_row p c m) m)

-- the matrix after the turns of the columns below c
unfoldable pub stage : ℕ → Matrix → ℕ → Matrix
stage p m zero = m
stage p m (suc c) = turn p c (stage p m c)

-- whether column c's pivot is refused
unfoldable pub singular : ℕ → Matrix → ℕ → Bool
singular p m c = too_small (stage p m c (pivot_row p c (stage p m c)) c)

-- whether none of the columns below n has such a pivot
unfoldable pub fine : ℕ → Matrix → ℕ → Bool
fine p m zero = true
fine p m (suc n) = fine p m n && not (singular p m n)
