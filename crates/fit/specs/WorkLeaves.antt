-- What the work on the lent numbers leaves. Assumes nothing.
use Rattle.std.specs.Prelude.{◌≡◌, ℕ, ◌+◌, ◌*◌, ◌%◌, ◌<◌, ◌≤◌, Bool, true, false, ◌&&◌, List, ◌++◌, length, get_or, ℤ, ◌==◌, ◌≢◌, nat_le, slice_index_or, cond, Option, Some, None, Ok, Err, Float}
use Rattle.std.specs.Float.{nan}
use Rattle.inputs.specs.Inputs.{front_size}
use Rattle.vectors.specs.declared.Vector.{Vector}
use Rattle.integrate.specs.declared.kernel.State.{State}
use Rattle.integrate.specs.declared.kernel.Arc.{Arc}
use Rattle.slices.specs.declared.refusal.Refusal.TheVariants.{Length}
use Rattle.laws.specs.Checks.{rising_seconds}
use Rattle.fit.specs.Fit.{Fit, Observed, axis, nth, start_of, regular, improved, rms_at, fitted_from, fit_of, orbit_of}
use Rattle.fit.specs.Room.{observed_part, base_part, misfit_part, design_part, work_size, Observes, step_number, step_at, place_at, run_at}
use Rattle.integrate.specs.Force.{run_of}
use Rattle.integrate.specs.Room.{Holds3, Only, Orbit, Run}
use Rattle.laws.specs.Floats.{◌⊖◌}
use Rattle.laws.specs.WholeNumbers.{number}

-- the misfits of the first m rows
pub record Measured (s s' : List Float) (b m : ℕ) : Type 0 where
  pub rows : (r : ℕ) → r < m → slice_index_or s' (b + misfit_part + r) nan ≡ place_at s b r ⊖ run_at s b r
  pub only : Only (b + misfit_part) (b + design_part) s s'

-- the base positions of the first m rows
pub record Based (s s' : List Float) (b m : ℕ) : Type 0 where
  pub rows : (r : ℕ) → r < m → slice_index_or s' (b + base_part + r) nan ≡ run_at s b r
  pub only : Only (b + base_part) (b + misfit_part) s s'

-- column i of the design in the first m rows, and the others as they were
pub record Columned (s s' : List Float) (b m i : ℕ) : Type 0 where
  pub rows : (r : ℕ) → r < m → slice_index_or s' (b + design_part + (15 * r + i)) nan ≡ run_at s b r ⊖ get_or s (b + base_part + r) nan
  pub others : (r j : ℕ) → j < 15 → (j ≢ i) → slice_index_or s' (b + design_part + (15 * r + j)) nan ≡ slice_index_or s (b + design_part + (15 * r + j)) nan
  pub only : Only (b + design_part) (b + work_size) s s'

-- an observation was put at a place
pub record Stored (s s' : List Float) (at k : ℕ) (v : Vector) : Type 0 where
  pub step : get_or s' at nan ≡ number k
  pub place : Holds3 s' (at + 1) v
  pub only : Only at (at + 4) s s'

-- n observations and those of the list, r in all
pub record Noted (s s' : List Float) (b n : ℕ) (more : List Observed) (r : ℕ) : Type 0 where
  pub all : (obs : List Observed) → length obs ≡ n → Observes s (b + observed_part) obs → Observes s' (b + observed_part) (obs ++ more)
  pub counted : r ≡ n + length more
  pub only : Only (b + observed_part) (b + base_part) s s'

-- the observations
pub record Observing (s s' : List Float) (b : ℕ) (obs : List Observed) (r : ℕ) : Type 0 where
  pub all : Observes s' (b + observed_part) obs
  pub counted : r ≡ length obs
  pub only : Only (b + observed_part) (b + base_part) s s'

-- what stands from the observations on stays, but for the design
pub record Apart (s s' : List Float) (b from : ℕ) : Type 0 where
  pub long : length s' ≡ length s
  pub same : (k : ℕ) → b + observed_part ≤ k → (b + from ≤ k → k < b + work_size → ⊥) → slice_index_or s' k nan ≡ slice_index_or s k nan

-- the first k columns of the design, by the runs with a parameter moved
pub record Designed (moved : ℕ → Run) (steps : ℕ) (s s' : List Float) (b m k : ℕ) : Type 0 where
  pub rows : (r i : ℕ) → r < m → i < k → step_at s b r ≤ steps
      → slice_index_or s' (b + design_part + (15 * r + i)) nan ≡ axis (r % 3) (moved i (step_at s b r)).position ⊖ get_or s (b + base_part + r) nan
  pub apart : Apart s s' b design_part

-- misfits and design
pub record Linearised (full base : Run) (moved : ℕ → Run) (steps : ℕ) (s s' : List Float) (b m : ℕ) : Type 0 where
  pub misfits : (r : ℕ) → r < m → step_at s b r ≤ steps → slice_index_or s' (b + misfit_part + r) nan ≡ place_at s b r ⊖ axis (r % 3) (full (step_at s b r)).position
  pub design : (r i : ℕ) → r < m → i < 15 → step_at s b r ≤ steps →
      slice_index_or s' (b + design_part + (15 * r + i)) nan ≡ axis (r % 3) (moved i (step_at s b r)).position ⊖ axis (r % 3) (base (step_at s b r)).position
  pub apart : Apart s s' b base_part

-- the steps of observations, each within the arc and known again from its float
abbrev pub Within : List Observed → ℕ → Type 0
Within obs steps = (j : ℕ) → j < length obs → ((nth obs j).step ≤ steps) × (step_number (number (nth obs j).step) ≡ (nth obs j).step)

-- one round of Gauss-Newton
pub record Rounded (full : Float → Vector → Vector) (arc : Arc) (p : List Float) (s s' : List Float) (b n : ℕ) (e : Option (List Float)) : Type 0 where
  pub said : (obs : List Observed) → length obs ≡ n → Observes s (b + observed_part) obs → Within obs arc.steps
      → e ≡ cond (regular full arc obs p) (Some (improved full arc obs p)) None
  pub apart : Apart s s' b base_part

-- the last run
pub record Finished (full : Float → Vector → Vector) (arc : Arc) (p : List Float) (s s' : List Float) (b n : ℕ) (x : Float) : Type 0 where
  pub said : (obs : List Observed) → length obs ≡ n → Observes s (b + observed_part) obs → Within obs arc.steps → x ≡ rms_at full arc obs p
  pub states : Orbit s' b (run_of full arc p) (arc.steps + 1)
  pub apart : Apart s s' b base_part

-- a fit from a start
pub record FitFrom (full : Float → Vector → Vector) (arc : Arc) (start : State) (s s' : List Float) (b n : ℕ) (answer : Fit) : Type 0 where
  pub said : (obs : List Observed) → length obs ≡ n → Observes s (b + observed_part) obs → Within obs arc.steps → answer ≡ fitted_from full arc obs start
  pub states : (obs : List Observed) → length obs ≡ n → Observes s (b + observed_part) obs → Within obs arc.steps → (x : Float) → answer ≡ Ok x →
      Orbit s' b (run_of full arc (improved full arc obs (improved full arc obs (start_of start)))) (arc.steps + 1)
  pub apart : Apart s s' b base_part

-- the whole fit: the answer, the states, and what lies after the work as it was
pub record Fits (covered : Float → Bool) (full : Float → Vector → Vector) (look : Float → Option State) (arc : Arc) (s s' : List Float) (b : ℕ) (answer : Fit) : Type
    0 where
  pub said : answer ≡ fit_of covered full look arc
  pub states : (x : Float) → answer ≡ Ok x → Orbit s' b (orbit_of full look arc) (arc.steps + 1)
  pub only : Only 0 (b + work_size) s s'

-- ---- the fit for other crates

-- degree and steps within their bounds, a state for each key, room for the work, and keys that rise
unfoldable pub arc_serves : ℕ → ℕ → List ℤ → ℕ → ℕ → Bool
arc_serves N steps keys states room = nat_le N 180 && nat_le steps 5302 && states == 6 * length keys && nat_le (front_size N + work_size) room && rising_seconds keys

-- the guard's answer, and what holds where it is true
pub record Serving (N steps : ℕ) (keys : List ℤ) (states room : ℕ) (r : Bool) : Type 0 where
  pub says : r ≡ arc_serves N steps keys states room
  pub degree : r ≡ true → N ≤ 180
  pub few : r ≡ true → steps ≤ 5302
  pub each : r ≡ true → states ≡ 6 * length keys
  pub enough : r ≡ true → front_size N + work_size ≤ room
  pub rising : r ≡ true → rising_seconds keys ≡ true

-- the fit where the slices serve, and nothing otherwise
pub record ArcFit (serves : Bool) (covered : Float → Bool) (full : Float → Vector → Vector) (look : Float → Option State) (arc : Arc) (s s' : List Float) (base : ℕ)
    (answer : Fit) : Type 0 where
  pub fits : serves ≡ true → Fits covered full look arc s s' base answer
  pub unfit : serves ≡ false → (answer ≡ Err Length) × (s' ≡ s)
