-- A field to another GM and radius (coefficients.rs, `rescaled`; document 01, module 1). A field is one list of 2 + 2·L numbers: GM, radius,
-- C in index order, S in index order. Assumes nothing.
use Rattle.std.specs.Prelude.{ℕ, ◌+◌, cond, ◌&&◌, List, leb, length, get_or, Float}
use Rattle.std.specs.Float.{nan}
use Rattle.laws.specs.Floats.{◌⊗◌, ◌⊘◌, zero64}
use Rattle.laws.specs.Tables.{tri}
use Rattle.numbers.specs.Numbers.{power}

-- (GM/GM')·(R/R')ⁿ for a field's own GM and R
unfoldable pub factor_of : Float → Float → List Float → ℕ → Float
factor_of gm radius field n = get_or field 0 nan ⊘ gm ⊗ power (get_or field 1 nan ⊘ radius) n

-- the kernel's value: +0.0 for a field without GM and radius, or a degree above 180
unfoldable pub factor_with : Float → Float → List Float → ℕ → Float
factor_with gm radius field n = cond (leb 2 (length field) && leb n 180) (factor_of gm radius field n) zero64

-- the coefficient at (n, m) of the list that begins at `start`, rescaled
unfoldable pub rescaled_at : ℕ → Float → Float → List Float → ℕ → ℕ → Float
rescaled_at start gm radius field n m = get_or field (start + (tri n + m)) nan ⊗ factor_of gm radius field n
