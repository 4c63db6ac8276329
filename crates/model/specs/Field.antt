-- Gravity fields as lists of numbers (document 01, module 1; the source's `Coefficients`); `factor_of` and `rescaled_at` of crate `fields` take them to
-- another GM and radius. Assumes nothing.
use Rattle.std.specs.Prelude.{ℕ, ◌+◌, List, get_or, Float}
use Rattle.std.specs.Float.{nan}
use Rattle.laws.specs.Tables.{tri}

-- A field of degree N is one list: GM, the radius, the cosine coefficients in index order, the sine coefficients.
abbrev pub gm : List Float → Float
gm field = get_or field 0 nan

abbrev pub radius : List Float → Float
radius field = get_or field 1 nan

-- where each kind of coefficient begins; how many numbers a field has is `field_size` of crate `inputs`
abbrev pub cosines : ℕ
cosines = 2

abbrev pub sines : ℕ → ℕ
sines N = 2 + tri (N + 1)

-- the coefficient of degree n and order m, of the kind that begins at k
abbrev pub coefficient : ℕ → List Float → ℕ → ℕ → Float
coefficient k field n m = get_or field (k + (tri n + m)) nan
