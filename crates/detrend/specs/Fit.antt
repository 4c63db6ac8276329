-- The fit of one revolution and what is left without it (document 01, module 6; the source's `detrend`): a bias, a trend, and waves of one and two turns a
-- revolution, by least squares. It depends on the revolution's own times, values, start and period alone. Assumes nothing.
use Rattle.std.specs.Prelude.{ℕ, Bool, cond, List, [], ◌∷◌, ◌++◌, Float, length, get_or}
use Rattle.std.specs.Float.{nan}
use Rattle.std.specs.Float.Ieee.{eq}
use Rattle.laws.specs.Floats.{◌⊖◌, ◌⊗◌, ◌⊘◌, zero64, one64, two64}
use Rattle.std.specs.List.{list_all}
use Rattle.laws.specs.Sums.{sum_to}
use Rattle.numbers.specs.Numbers.{sine, cosine}
use Rattle.numbers.specs.Constants.{angle_from}
use Rattle.least_squares.specs.LeastSquares.{solvable, solved}

-- a row of the fit: a bias, a trend, and cosines and sines of one and two turns a revolution
unfoldable pub row_of : Float → Float → Float → List Float
row_of start period t =
    one64
    ∷ ((t ⊖ start) ⊘ period)
    ∷ cosine (angle_from start period t)
    ∷ sine (angle_from start period t)
    ∷ cosine (two64 ⊗ angle_from start period t)
    ∷ sine (two64 ⊗ angle_from start period t)
    ∷ []

-- the rows of a list of times, one after the other
unfoldable pub rows_of : Float → Float → List Float → List Float
rows_of start period [] = []
rows_of start period (t ∷ ts) = row_of start period t ++ rows_of start period ts

-- what the coefficients give for a row
unfoldable pub fitted_by : List Float → List Float → Float
fitted_by coefficients row = sum_to (λ (j : ℕ). get_or row j nan ⊗ get_or coefficients j nan) (length coefficients)

-- each value less what the coefficients give at its time
unfoldable pub less_fit : List Float → Float → Float → List Float → List Float → List Float
less_fit coefficients start period [] vs = []
less_fit coefficients start period (t ∷ ts) [] = []
less_fit coefficients start period (t ∷ ts) (v ∷ vs) = (v ⊖ fitted_by coefficients (row_of start period t)) ∷ less_fit coefficients start period ts vs

-- +0.0 and −0.0 alike
unfoldable pub all_zero : List Float → Bool
all_zero vs = list_all (λ (v : Float). eq v zero64) vs

-- the values of a revolution less their fit; all-zero values and singular fits are passed over
unfoldable pub revolution_of : Float → Float → List Float → List Float → List Float
revolution_of start period ts vs =
    cond (all_zero vs) vs
    (cond (solvable (rows_of start period ts) vs 6) (less_fit (solved (rows_of start period ts) vs 6) start period ts vs) vs)
