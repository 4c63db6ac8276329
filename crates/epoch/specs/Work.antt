-- What the code hands on between its parts. Assumes nothing.
use Rattle.std.specs.Prelude.{ℕ, ◌≤◌, ◌≡◌, List, Float, length, take}
use Rattle.std.specs.Prelude.{Option}
use Rattle.inputs.specs.Inputs.{Model, front_size}
use Rattle.finality.specs.Sheet.{Observation, where_found}
use Rattle.model.specs.Calls.{at_left}
use Rattle.epoch_record.specs.declared.Epoch.{Epoch}
use Rattle.integrate.specs.Room.{Only}
use Rattle.integrate.specs.Work.{front_at}
use Rattle.integrate.specs.declared.kernel.State.{State}
use Rattle.epoch.specs.declared.Sighting.{Sighting}
use Rattle.epoch.specs.Kept.{seen_by}

-- both states and both accelerometer values, where all are found
abbrev pub sighting_of : Option State → Option State → Option Float → Option Float → Option Sighting
sighting_of x y p q = where_found (λ c d axc axd. record { c = c; d = d; axc = axc; axd = axd }) x y p q

-- ---- the work slice

-- the numbers of the degree are prepared: writing the field at any time makes them those of that time
pub record Usable (M : Model) (front : List Float) : Type 0 where
  pub long : length front ≡ front_size M.fixed.degree
  pub any : (t : Float) → at_left M t front ≡ front_at M t

-- one record was made, in a work slice that stays usable; behind the prepared numbers nothing changed
pub record Recorded (M : Model) (base : ℕ) (w w' : List Float) (value r : Epoch) : Type 0 where
  pub is : Usable M (take base w) → r ≡ value
  pub usable : Usable M (take base w) → Usable M (take base w')
  pub only : Only 0 base w w'

-- the same of an observation for which s was found, where there is room for the prepared numbers
pub record Tried (M : Model) (o : Observation) (base : ℕ) (s : Option Sighting) (w w' : List Float) (r : Option Epoch) : Type 0 where
  pub is : base ≤ length w → Usable M (take base w) → (x y : Option State) (p q : Option Float) → s ≡ sighting_of x y p q → r ≡ seen_by M o x y p q
  pub usable : base ≤ length w → Usable M (take base w) → Usable M (take base w')
  pub only : Only 0 base w w'

pub record Opened (N base : ℕ) (w w' : List Float) : Type 0 where
  pub usable : base ≡ front_size N → base ≤ length w → (M : Model) → M.fixed.degree ≡ N → Usable M (take base w')
  pub only : Only 0 base w w'
