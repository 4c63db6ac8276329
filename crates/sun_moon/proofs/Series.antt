-- The sum over a table of terms, in the form that the loop has it. Assumes nothing.
use Rattle.std.specs.Prelude.{◌≡◌, List, [], ℕ, ◌+◌, ◌≤◌, ◌<◌, length, drop, get_or, Float}
use Rattle.std.proofs.Common.{add-one, drop_of_length-le, drop-cons}
use Rattle.std.specs.Float.{nan}
use Rattle.laws.specs.Floats.{◌⊕◌, ◌⊗◌}
use Rattle.sun_moon.specs.declared.kernel.Arguments.{Arguments}
use Rattle.sun_moon.specs.SunMoon.{angle, series}

-- one term more, and none left
module _ (wave : Float → Float) (a : Arguments) (s total : Float) (terms : List (List Float)) (i : ℕ) where
  pub series_step : (g v : Float) → g ≡ angle a (get_or terms i []) → v ≡ wave g → i < length terms → series wave a s (drop i terms) ≡ total
      → series wave a (s ⊕ get_or (get_or terms i []) 0 nan ⊗ v) (drop (i + 1) terms) ≡ total
  unfolding series
  series_step g v eg ev h e = rw (ev, eg, add-one) (rw (drop-cons terms i []) at e)

  pub series_end : length terms ≤ i → series wave a s (drop i terms) ≡ total → s ≡ total
  unfolding series
  series_end h e = rw (drop_of_length-le terms h) at e
