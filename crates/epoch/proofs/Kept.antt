-- The observations as one list, the epochs that are kept of the first of them, and lists filled up. Assumes nothing.
use mathlib.Core.Path.{◌≡◌, refl, sym, ap, ◌∙◌}
use Rattle.std.specs.Prelude.{Option}
use mathlib.Core.List.{List, [], ◌∷◌, ◌++◌, map}
use Prim.Native.Nat.{ℕ, ◌+◌, ◌≤◌, ◌<◌}
use native.Mathlib.Numerals.{add-one}
use native.Mathlib.Omega.{arith}
use lib.Ieee.{nan}
use lib.ListN.{length, take, get_or, set, length-map}
use lib.Seq.{take-suc, take_all, length-take-le}
use Rattle.laws.specs.Lists.{map_append}
use Rattle.laws.specs.Loops.{filled_up, filled_length, filled_set}
use Rattle.finality.specs.Sheet.{Observation, obs_time, keep, kept_of}
use Rattle.finality.proofs.Keeping.{kept_append, kept_length}
use Rattle.epoch_record.specs.declared.Epoch.{Epoch}
use Rattle.inputs.specs.Inputs.{Observed}
use Rattle.integrate.proofs.RowsBySecond.{from_length, from_at, from_back}
use Rattle.epoch.specs.Kept.{observation, observations_in}

-- ---- the observations as one list

-- place i of the three lists
abbrev pub observation_at : Observed → ℕ → Observation
observation_at obs i = observation (get_or obs.obs_times i nan) (get_or obs.values i nan) (get_or obs.good i 0)

pub observations_times : (obs : Observed) → map obs_time (observations_in obs) ≡ obs.obs_times
unfolding observations_in
observations_times obs = from_back _ obs_time (λ t i. refl) 0 obs.obs_times

pub observations_length : (obs : Observed) → length (observations_in obs) ≡ length obs.obs_times
unfolding observations_in
observations_length obs = from_length _ 0 obs.obs_times

observations_at : (obs : Observed) (i : ℕ) (d : Observation) → i < length obs.obs_times → get_or (observations_in obs) i d ≡ observation_at obs i
unfolding observations_in
observations_at obs i d h = from_at _ 0 obs.obs_times i i d nan h (omega arith)

-- the records of the first i observations that are kept
abbrev pub kept_up_to : (Observation → Option Epoch) → Observed → ℕ → List Epoch
kept_up_to f obs i = kept_of f (take i (observations_in obs))

module _ (f : Observation → Option Epoch) (obs : Observed) where
  abbrev os : List Observation
  os = observations_in obs

  pub kept_more : (i : ℕ) → i < length obs.obs_times → kept_up_to f obs (i + 1) ≡ kept_up_to f obs i ++ keep (f (observation_at obs i)) []
  unfolding kept_of
  kept_more i h =
      let o : Observation = observation_at obs i in
      let l : length os ≡ length obs.obs_times = observations_length obs in
      let e : take (i + 1) os ≡ take i os ++ (o ∷ []) =
      ap (λ (k : ℕ). take k os) (add-one i) ∙ take-suc os i o (omega arith) ∙ ap (λ (o : Observation). take i os ++ (o ∷ [])) (observations_at obs i o h) in
      ap (kept_of f) e ∙ kept_append f (take i os) (o ∷ [])

  pub kept_few : (i : ℕ) → i ≤ length obs.obs_times → length (kept_up_to f obs i) ≤ i
  kept_few i h =
      let l : length os ≡ length obs.obs_times = observations_length obs in
      omega (arith, kept_length f (take i os), length-take-le i os (omega arith))

  pub kept_all : kept_up_to f obs (length obs.obs_times) ≡ kept_of f (observations_in obs)
  kept_all =
      let l : length os ≡ length obs.obs_times = observations_length obs in
      ap (kept_of f) (take_all (length obs.obs_times) os (omega arith))

  pub kept_none : kept_up_to f obs 0 ≡ []
  unfolding kept_of
  kept_none = refl

-- ---- lists filled up

-- one more record's number at the place after the last
pub set_more : {A : Type 0} (z : A) (g : Epoch → A) (m : ℕ) (es : List Epoch) (e : Epoch) → length es < m →
    set (filled_up z m (map g es)) (length es) (g e) ≡ filled_up z m (map g (es ++ (e ∷ [])))
set_more z g m es e h =
    let l : length (map g es) ≡ length es = length-map es g in
    ap (λ (k : ℕ). set (filled_up z m (map g es)) k (g e)) (sym l)
    ∙ filled_set z (g e) m (length (map g es)) (map g es) refl (omega arith)
    ∙ ap (filled_up z m) (sym (map_append g es (e ∷ [])))

pub filled_records : {A : Type 0} (z : A) (g : Epoch → A) (m : ℕ) (es : List Epoch) → length es ≤ m → length (filled_up z m (map g es)) ≡ m
filled_records z g m es h = filled_length z m (map g es) (omega (arith, length-map es g))
