-- What the loop over the observations has done so far. Assumes nothing.
use Rattle.std.specs.Prelude.{ℕ, ◌+◌, ◌≤◌, ◌≡◌, true, cond, List, [], Float, length, take, set, replicate, Option, Some, None}
use Rattle.inputs.specs.Inputs.{Observed, Inputs}
use Rattle.finality.specs.Sheet.{kept_of}
use Rattle.std.specs.List.{list_all}
use Rattle.laws.specs.Floats.{zero64}
use Rattle.laws.specs.Loops.{cleared}
use Rattle.epoch_record.specs.declared.Epoch.{Epoch}
use Rattle.epoch.specs.Kept.{observations_in}
use Rattle.epoch.specs.Work.{Usable}
use Rattle.residuals.specs.Inputs.{epoch_of}
use Rattle.residuals.specs.Calls.{EpochColumns, epoch_columns, filled_columns, epoch_finite, kept_in}

-- +0.0 in each of the arrays
abbrev pub zeros : ℕ → ℕ → List (List Float)
zeros n width = replicate n (replicate width zero64)

-- the records of the first i observations that are kept
unfoldable pub kept_to : Inputs → Observed → ℕ → List Epoch
kept_to inp obs i = kept_of (epoch_of inp) (take i (observations_in obs))

-- a record stored at place k
abbrev pub stored : ℕ → Epoch → EpochColumns → EpochColumns
stored k e l = epoch_columns (set l.times k e.t) (set l.residuals k e.residual) (set l.terms k e.terms) (set l.mids k e.mid)
    (set l.vels k e.vel)

-- one place in each output for each of m observations
pub record Long (m : ℕ) (l : EpochColumns) : Type 0 where
  pub times : length l.times ≡ m
  pub residuals : length l.residuals ≡ m
  pub terms : length l.terms ≡ m
  pub mids : length l.mids ≡ m
  pub vels : length l.vels ≡ m

-- +0.0 in every place
abbrev pub blank : EpochColumns → EpochColumns
blank l = epoch_columns (cleared l.times) (cleared l.residuals) (zeros (length l.terms) 5) (zeros (length l.mids) 3) (zeros (length l.vels) 3)

-- how many records there are, where all their numbers are finite
abbrev pub counted : List Epoch → Option ℕ
counted es = cond (list_all epoch_finite es) (Some (length es)) None

-- what was made is stored at place k and counted, where it is kept; none are counted where a number of it is not finite
pub record Added (made : Option Epoch) (k : ℕ) (r : Option ℕ) (l l' : EpochColumns) : Type 0 where
  pub put : (e : Epoch) → made ≡ Some e → (r ≡ cond (epoch_finite e) (Some (k + 1)) None) × (epoch_finite e ≡ true → l' ≡ stored k e l)
  pub still : made ≡ None → (r ≡ Some k) × (l' ≡ l)

pub record SoFar (inp : Inputs) (obs : Observed) (base i : ℕ) (r : Option ℕ) (l : EpochColumns) (w : List Float) : Type 0 where
  pub count : r ≡ counted (kept_to inp obs i)
  pub outputs : list_all epoch_finite (kept_to inp obs i) ≡ true → l ≡ filled_columns (length obs.obs_times) (kept_to inp obs i)
  pub room : base ≤ length w
  pub usable : Usable inp.model (take base w)

-- nothing is stored, and the work slice is usable
pub record Begun (inp : Inputs) (obs : Observed) (base : ℕ) (l : EpochColumns) (w : List Float) : Type 0 where
  pub outputs : l ≡ filled_columns (length obs.obs_times) []
  pub room : base ≤ length w
  pub usable : Usable inp.model (take base w)

-- all observations are done
pub record Done (inp : Inputs) (obs : Observed) (r : Option ℕ) (l : EpochColumns) : Type 0 where
  pub count : r ≡ counted (kept_in inp obs)
  pub outputs : list_all epoch_finite (kept_in inp obs) ≡ true → l ≡ filled_columns (length obs.obs_times) (kept_in inp obs)
