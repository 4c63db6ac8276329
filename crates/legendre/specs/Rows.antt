-- The Legendre functions row by row, from tables as they are given: a step of the recursion reads its factors from lists, and row n needs
-- rows n − 1 and n − 2 only. That the true tables give the published functions is a theorem (proofs/Series). Assumes nothing.
use Rattle.std.specs.Prelude.{ℕ, zero, suc, ◌+◌, ◌<◌, ◌≡◌, cond, List, ltb, length, get_or, Float}
use Rattle.std.specs.Float.{nan}
use Rattle.laws.specs.Floats.{◌⊖◌, ◌⊗◌, zero64}
use Rattle.laws.specs.Tables.{tri}
use Rattle.legendre.specs.Legendre.{unscale, derived_row}
use Rattle.legendre.specs.Arrays.{from}
use Rattle.legendre.specs.declared.tables.Tables.{Tables as LentTables}

-- the recursion's factors a, b and the derivative's, each by degree and order, and the diagonal by order
pub record Tables : Type 0 where
  pub a : List Float
  pub b : List Float
  pub lower : List Float
  pub upper : List Float
  pub heads : List Float

abbrev pub tables_of : List Float → List Float → List Float → List Float → List Float → Tables
tables_of a b lower upper heads = record { a = a; b = b; lower = lower; upper = upper; heads = heads }

-- lent tables, without where they lie in memory
abbrev pub lent : LentTables → Tables
lent t = tables_of t.a.now t.b.now t.lower.now t.upper.now t.heads.now

-- one step of the recursion within a column, at place k of the tables
abbrev pub step_at : List Float → List Float → Float → ℕ → Float → Float → Float
step_at a b t k q1 q2 = get_or a k nan ⊗ t ⊗ q1 ⊖ get_or b k nan ⊗ q2

-- row n, which begins at place k of the tables, from the rows q1 of n − 1 and q2 of n − 2, up to its diagonal
abbrev pub next_row : ℕ → ℕ → Float → Float → List Float → List Float → (ℕ → Float) → (ℕ → Float) → ℕ → Float
next_row n k t head a b q1 q2 m = cond (ltb m n) (step_at a b t (k + m) (q1 m) (q2 m)) head

-- the same from tables
abbrev pub next_by : Tables → Float → ℕ → (ℕ → Float) → (ℕ → Float) → ℕ → Float
next_by T t n q1 q2 = next_row n (tri n) t (get_or T.heads n nan) T.a T.b q1 q2

-- P̄nm / cosᵐφ, scaled, as row n + 2: two rows of +0.0 stand before the first, and +0.0 past the diagonal
unfoldable pub scaled_row : Tables → Float → ℕ → ℕ → Float
scaled_row T t zero m = zero64
scaled_row T t (suc zero) m = zero64
scaled_row T t (suc (suc n)) m =
    cond (ltb n m) zero64 (next_by T t n (scaled_row T t (suc n)) (scaled_row T t n) m)

-- P̄nm
abbrev pub legendre_by : Tables → Float → Float → ℕ → ℕ → Float
legendre_by T t u n m = scaled_row T t (suc (suc n)) m ⊗ unscale u m

-- its derivative by latitude
abbrev pub derived_by : Tables → Float → Float → ℕ → ℕ → Float
derived_by T t u n = derived_row n (from T.lower (tri n)) (from T.upper (tri n)) (legendre_by T t u n)

-- ---- words of the contracts

-- an array of 184 that holds row j − 2
pub record Holds (T : Tables) (t : Float) (j : ℕ) (w : List Float) : Type 0 where
  pub len : length w ≡ 184
  pub at : (m : ℕ) → m < 184 → get_or w m nan ≡ scaled_row T t j m
