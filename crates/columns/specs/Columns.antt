-- The detrended and the passed column of a sheet (document 01, module 8): of the first n entries, +0.0 behind them. Assumes nothing.
use Rattle.std.specs.Prelude.{◌≡◌, Bool, true, false, ◌&&◌, List, [], ◌∷◌, map, ℕ, ◌/◌, leb, eqb, length, take, Float}
use Rattle.std.specs.List.{list_all}
use Rattle.finality.specs.Sheet.{published}
use Rattle.detrend.specs.Revolutions.{removed_of}
use Rattle.filter.specs.Filter.{band_pass}

-- n times at least, the other lists as long as the times, and eight numbers of scratch an entry
unfoldable pub columns_serve : ℕ → ℕ → List ℕ → ℕ → Bool
columns_serve n times others room = leb n times && (list_all (λ (k : ℕ). eqb k times) others && leb n (room / 8))

-- the first n entries detrended, and each of their runs passed
abbrev pub first_detrended : List Float → ℕ → List Float → List Float → List Float
first_detrended nodes n times raws = removed_of nodes (take n times) (take n raws)

abbrev pub first_passed : List Float → ℕ → List Float → List Float → List Float
first_passed nodes n times raws = band_pass (take n times) (first_detrended nodes n times raws)

-- the columns that follow from times and raw values
abbrev pub first_columns : List Float → ℕ → List Float → List Float → List (List Float)
first_columns nodes n times raws = first_detrended nodes n times raws ∷ first_passed nodes n times raws ∷ []

-- they stand in the outputs where the slices serve, and nothing is done otherwise
pub record ColumnsFilled (serves : Bool) (nodes : List Float) (n : ℕ) (times raws : List Float) (outputs outputs' : List (List Float)) (s s' : List Float)
    (answer : Bool) : Type 0 where
  pub says : answer ≡ serves
  pub long : length s' ≡ length s
  pub columns : serves ≡ true → outputs' ≡ map (published (length times)) (first_columns nodes n times raws)
  pub unfit : serves ≡ false → (outputs' ≡ outputs) × (s' ≡ s)
