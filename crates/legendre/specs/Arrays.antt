-- What lists and arrays of 184 numbers hold, by place; words of the contracts inside this crate. Assumes nothing.
use Rattle.std.specs.Prelude.{ℕ, ◌+◌, ◌≤◌, ◌<◌, ◌≡◌, List, length, get_or, Float}
use Rattle.std.specs.Float.{nan}

-- the number at a place
abbrev pub at : List Float → ℕ → Float
at w i = get_or w i nan

-- the numbers from a place on
abbrev pub from : List Float → ℕ → ℕ → Float
from w o i = get_or w (o + i) nan

-- the first j places hold g, and the rest is as it was
pub record Begins (j : ℕ) (g : ℕ → Float) (w₀ w : List Float) : Type 0 where
  pub len : length w ≡ length w₀
  pub set : (i : ℕ) → i < j → get_or w i nan ≡ g i
  pub rest : (i : ℕ) → j ≤ i → get_or w i nan ≡ get_or w₀ i nan

-- an array of 184 whose first j places hold g
pub record Has (j : ℕ) (g : ℕ → Float) (w : List Float) : Type 0 where
  pub len : length w ≡ 184
  pub set : (i : ℕ) → i < j → get_or w i nan ≡ g i
