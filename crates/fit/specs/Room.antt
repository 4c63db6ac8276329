-- Where the observations of a fit stand in the lent numbers. Assumes nothing.
use Rattle.std.specs.Prelude.{◌≡◌, ℕ, ◌+◌, ◌*◌, ◌/◌, ◌%◌, ◌<◌, List, length, slice_index_or, Float}
use Rattle.std.specs.Float.{nan}
use Rattle.fit.specs.Fit.{Observed, nth}
use Rattle.integrate.specs.Room.{run_size, Holds3}
use Rattle.laws.specs.WholeNumbers.{number}
use Rattle.numbers.specs.Numbers.{count_of}

-- where the parts of a fit's work begin, counted from the states of a run on, which come first: at most 1,061 observed steps, four numbers each; the base
-- positions at them and the misfits, three each; the rows of the design, one for each misfit
abbrev pub observed_part : ℕ
observed_part = run_size

abbrev pub base_part : ℕ
base_part = observed_part + 4 * 1061

abbrev pub misfit_part : ℕ
misfit_part = base_part + 3 * 1061

abbrev pub design_part : ℕ
design_part = misfit_part + 3 * 1061

-- and where they end
abbrev pub work_size : ℕ
work_size = design_part + 15 * (3 * 1061)

-- observations, four numbers each
pub record Observes (s : List Float) (at : ℕ) (obs : List Observed) : Type 0 where
  pub step : (j : ℕ) → j < length obs → slice_index_or s (at + 4 * j) nan ≡ number (nth obs j).step
  pub place : (j : ℕ) → j < length obs → Holds3 s (at + 4 * j + 1) (nth obs j).place

-- a step number that was stored as a float, at most 5302
abbrev pub step_number : Float → ℕ
step_number x = count_of x 5302

-- where row r finds its observed coordinate and its run's, in scratch from b on
unfoldable pub step_at : List Float → ℕ → ℕ → ℕ
step_at s b r = step_number (slice_index_or s (b + observed_part + 4 * (r / 3)) nan)

unfoldable pub place_at : List Float → ℕ → ℕ → Float
place_at s b r = slice_index_or s (b + observed_part + 4 * (r / 3) + 1 + r % 3) nan

unfoldable pub run_at : List Float → ℕ → ℕ → Float
run_at s b r = slice_index_or s (b + 6 * step_at s b r + r % 3) nan
