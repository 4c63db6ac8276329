-- The kept epochs of the whole path (document 01, modules 5 and 8): both satellites' fitted states stand in their slots, and of each epoch that is kept
-- time and residual are listed.
-- Assumes nothing.
use Rattle.std.specs.Prelude.{◌≡◌, Bool, true, false, ◌&&◌, List, map, ℕ, ◌+◌, ◌≤◌, leb, eqb, ℤ, Float, length, take, set}
use Rattle.std.specs.Prelude.{Option, None, Some}
use Rattle.inputs.specs.Inputs.{Model, slot_room, front_size, Pair, Observed}
use Rattle.std.specs.List.{list_all}
use Rattle.laws.specs.Checks.{is_time, rising_seconds}
use Rattle.numbers.specs.Seconds.{whole_second}
use Rattle.finality.specs.Tables.{Table, find}
use Rattle.finality.specs.Sheet.{Observation, published, kept_of}
use Rattle.epoch_record.specs.EpochRecord.{time, residual}
use Rattle.epoch_record.specs.declared.Epoch.{Epoch}
use Rattle.integrate.specs.Room.{Only}
use Rattle.integrate.specs.RowsBySecond.{values_in}
use Rattle.integrate.specs.declared.kernel.State.{State}
use Rattle.windows.specs.Windows.{slot_at}
use Rattle.slots.specs.LookUp.{joined, SlotsHold}
use Rattle.epoch.specs.Kept.{epoch_by, observations_in}
use Rattle.epoch.specs.Work.{sighting_of, Usable}
use Rattle.epoch.specs.declared.Sighting.{Sighting}

-- what is read: the model, the accelerometer values of the satellites C and D, how many windows there are, and the observations
pub record Given : Type 0 where
  pub model : Model
  pub accs : Pair
  pub windows : ℕ
  pub observed : Observed

abbrev pub given : Model → Pair → ℕ → Observed → Given
given M accs windows obs = record { model = M; accs = accs; windows = windows; observed = obs }

-- an epoch with the states of all windows
abbrev pub epoch_in : Given → (ℕ → Table State) → (ℕ → Table State) → Observation → Option Epoch
epoch_in g c d = epoch_by g.model (joined c g.windows) (joined d g.windows) (values_in g.accs.c) (values_in g.accs.d)

-- the epochs that are kept
abbrev pub kept_in : Given → (ℕ → Table State) → (ℕ → Table State) → List Epoch
kept_in g c d = kept_of (epoch_in g c d) (observations_in g.observed)

-- whether the slices serve: room for the field at a time, accelerometer keys that rise, times that are times, one number for each observation and a place
-- in each output
unfoldable pub gather_serves : ℕ → List ℤ → List ℤ → List Float → ℕ → ℕ → ℕ → ℕ → ℕ → Bool
gather_serves N acc_keys_c acc_keys_d times values good outtimes outraws room =
    ((leb N 180 && leb (front_size N) room) && (rising_seconds acc_keys_c && rising_seconds acc_keys_d))
    && (list_all is_time times && ((eqb values (length times) && eqb good (length times)) && (eqb outtimes (length times) && eqb outraws (length times))))

-- the slots of both satellites hold these states
pub record Stand (g : Given) (base : ℕ) (s : List Float) (c d : ℕ → Table State) : Type 0 where
  pub of_c : SlotsHold s (slot_at base 0 0) c g.windows
  pub of_d : SlotsHold s (slot_at base 1 0) d g.windows

-- times and residuals of some epochs in m places, and how many there are
pub record Listed (m : ℕ) (es : List Epoch) (ts rs : List Float) (n : ℕ) : Type 0 where
  pub count : n ≡ length es
  pub times : ts ≡ published m (map time es)
  pub raws : rs ≡ published m (map residual es)

-- `try_gather`: the kept epochs are listed and counted, whatever states the slots hold; no count, and nothing is done, where the slices do not serve
pub record Gathered (g : Given) (serves : Bool) (outtimes outraws s outtimes' outraws' s' : List Float) (r : Option ℕ) : Type 0 where
  pub long : length s' ≡ length s
  pub is : serves ≡ true → (n : ℕ) × (r ≡ Some n) × ((c d : ℕ → Table State) → SlotsHold s (slot_at (front_size g.model.fixed.degree) 0 0) c g.windows
      → SlotsHold s (slot_at (front_size g.model.fixed.degree) 1 0) d g.windows →
      Listed (length g.observed.obs_times) (kept_in g c d) outtimes' outraws' n)
  pub unfit : serves ≡ false → (r ≡ None) × (outtimes' ≡ outtimes) × (outraws' ≡ outraws) × (s' ≡ s)

-- `gather`: the same, with 0 for no count
pub record Counted (g : Given) (serves : Bool) (outtimes outraws s outtimes' outraws' s' : List Float) (n : ℕ) : Type 0 where
  pub long : length s' ≡ length s
  pub is : serves ≡ true → (c d : ℕ → Table State) → SlotsHold s (slot_at (front_size g.model.fixed.degree) 0 0) c g.windows
      → SlotsHold s (slot_at (front_size g.model.fixed.degree) 1 0) d g.windows →
      Listed (length g.observed.obs_times) (kept_in g c d) outtimes' outraws' n
  pub unfit : serves ≡ false → (n ≡ 0) × (outtimes' ≡ outtimes) × (outraws' ≡ outraws) × (s' ≡ s)

-- ---- between the parts of the code

-- both satellites' states and accelerometer values at the whole part of a time; C's first slot stands at a place, D's behind it
pub record Found (first windows : ℕ) (accs : Pair) (s : List Float) (t : Float) (r : Option Sighting) : Type 0 where
  pub is : is_time t ≡ true → (c d : ℕ → Table State) → SlotsHold s first c windows → SlotsHold s (first + slot_room) d windows →
      r ≡ sighting_of (find (whole_second t) (joined c windows)) (find (whole_second t) (joined d windows)) (find (whole_second t) (values_in accs.c))
      (find (whole_second t) (values_in accs.d))

-- what was made is stored and counted, where it is kept
pub record Added (made : Option Epoch) (count r : ℕ) (times raws times' raws' : List Float) : Type 0 where
  pub put : (e : Epoch) → made ≡ Some e → (r ≡ count + 1) × (times' ≡ set times count e.t) × (raws' ≡ set raws count e.residual)
  pub still : made ≡ None → (r ≡ count) × (times' ≡ times) × (raws' ≡ raws)

-- all that a turn needs of the lists and of the work slice
pub record Able (g : Given) (base : ℕ) (ts rs s : List Float) : Type 0 where
  pub acc_c : rising_seconds g.accs.c.keys ≡ true
  pub acc_d : rising_seconds g.accs.d.keys ≡ true
  pub times : list_all is_time g.observed.obs_times ≡ true
  pub values : length g.observed.values ≡ length g.observed.obs_times
  pub good : length g.observed.good ≡ length g.observed.obs_times
  pub outtimes : length ts ≡ length g.observed.obs_times
  pub outraws : length rs ≡ length g.observed.obs_times
  pub small : base ≤ 131768
  pub room : base ≤ length s
  pub usable : Usable g.model (take base s)

-- the first i observations are done; s₀ is the slice as it was before them
pub record SoFar (g : Given) (base i : ℕ) (s₀ outtimes outraws s : List Float) (count : ℕ) : Type 0 where
  pub able : Able g base outtimes outraws s
  pub few : count ≤ i
  pub only : Only 0 base s₀ s
  pub is : (c d : ℕ → Table State) → Stand g base s₀ c d
      → Listed (length g.observed.obs_times)
      (kept_of (epoch_in g c d) (take i (observations_in g.observed))) outtimes outraws count

-- all of them
pub record Done (g : Given) (base : ℕ) (s s' outtimes outraws : List Float) (r : ℕ) : Type 0 where
  pub long : length s' ≡ length s
  pub is : (c d : ℕ → Table State) → Stand g base s c d → Listed (length g.observed.obs_times) (kept_in g c d) outtimes outraws r
