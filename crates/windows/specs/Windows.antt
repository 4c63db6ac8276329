-- The fitted orbits of one satellite (document 01, module 4; the source's `fitted_orbits`): what each window of neighbouring nodes leaves in its slot, in the
-- lent numbers behind those of one fit. The force and the states are functions of the time. Assumes nothing.
use Rattle.std.specs.Prelude.{◌≡◌, ℕ, ◌+◌, ◌-◌, ◌*◌, ◌/◌, ◌<◌, ◌≤◌, Bool, true, false, cond, ◌&&◌, T, List, [], length, ℤ, ◌==◌, nat_le, slice_index_or, Float, Option}
use Rattle.std.specs.Float.{nan}
use Rattle.std.specs.Float.Ieee.{lt}
use Rattle.inputs.specs.Inputs.{Model, Keyed, window_room, slot_room, fit_room, front_size}
use Rattle.laws.specs.Floats.{zero64, ◌⊖◌}
use Rattle.std.specs.List.{list_all}
use Rattle.laws.specs.Checks.{is_time, rising, rising_seconds}
use Rattle.laws.specs.Times.{Time}
use Rattle.finality.specs.Brackets.{covers}
use Rattle.finality.specs.Tables.{Table}
use Rattle.finality.specs.Arcs.{longest, start, steps, arc_of, inside}
use Rattle.vectors.specs.declared.Vector.{Vector}
use Rattle.integrate.specs.declared.kernel.State.{State}
use Rattle.integrate.specs.declared.kernel.Arc.{Arc as ArcStruct}
use Rattle.integrate.specs.Force.{full_force}
use Rattle.fit.specs.Fit.{fit_of, orbit_of, state_for}
use Rattle.windows.specs.Stage.{arc_struct, states_of}
use Rattle.windows.specs.Slots.{entries_room, Entries, Slot}
use Rattle.fit.specs.Room.{work_size}

-- what a window leaves
unfoldable pub window_by : (Float → Bool) → (Float → Vector → Vector) → (Float → Option State) → Float → Float → Table State
window_by covered full look a b =
    cond (lt (b ⊖ a) longest)
    (inside (start a) a b 0 (states_of (fit_of covered full look (arc_struct (arc_of a b))) (orbit_of full look (arc_struct (arc_of a b))) (steps a b)))
    []

-- the same of a model and of the states that are known
abbrev pub states_left : Model → Keyed → Float → Float → Table State
states_left M states = window_by (covers M.fields.field_times) (full_force M) (state_for states)

-- two times, the first before the second, less than 7,000 s apart
unfoldable pub window_fine : Float → Float → Bool
window_fine a b = (is_time a && is_time b) && (lt a b && lt (b ⊖ a) longest)

-- the arc of such a window; else one of no steps
unfoldable pub arc_between : Float → Float → ArcStruct
arc_between a b = cond (window_fine a b) (arc_struct (arc_of a b)) (record { t0 = zero64; steps = 0; node = zero64; period = zero64 })

-- the slot of window w of a satellite, 0 or 1; 24,600 numbers
abbrev pub slot_at : ℕ → ℕ → ℕ → ℕ
slot_at base satellite w = base + fit_room + slot_room * satellite + window_room * w

-- ---- whether the slices serve

-- the degree within its bound, room for a fit and for the slots of all windows
unfoldable pub room_for : ℕ → ℕ → ℕ → Bool
room_for N nodes room = nat_le N 180 && (nat_le (front_size N + fit_room) room && nat_le nodes ((room - (front_size N + fit_room)) / window_room + 1))

-- one of two satellites, a state for each key, keys that rise, nodes that are times and rise
unfoldable pub windows_serve : ℕ → List ℤ → ℕ → List Float → ℕ → ℕ → Bool
windows_serve N keys states nodes satellite room =
    (room_for N (length nodes) room && (nat_le satellite 1 && states == 6 * length keys)) && (rising_seconds keys && (list_all is_time nodes && rising nodes))

-- ---- what the work leaves

-- behind the numbers of one fit only n numbers from a place on changed
pub record Apart (base at n : ℕ) (s s' : List Float) : Type 0 where
  pub long : length s' ≡ length s
  pub same : (k : ℕ) → base + work_size ≤ k → (at ≤ k → k < at + n → ⊥) → slice_index_or s' k nan ≡ slice_index_or s k nan

-- the states of a window from a place on
pub record Leaves (table : Table State) (s s' : List Float) (base at r : ℕ) : Type 0 where
  pub entries : Entries s' at table
  pub counted : r ≡ length table
  pub few : length table ≤ 3500
  pub apart : Apart base at entries_room s s'

-- the slot of a window
pub record Windowed (table : Table State) (s s' : List Float) (base at : ℕ) : Type 0 where
  pub slot : Slot s' at table
  pub few : length table ≤ 3500
  pub apart : Apart base at slot_room s s'

-- two times, the first before the second
pub record Ends (a b : Float) : Type 0 where
  pub from : Time a
  pub to : Time b
  pub order : T (lt a b)

-- the first windows, each in its slot
pub record Filled (window : Float → Float → Table State) (nodes : List Float) (count : ℕ) (s s' : List Float) (base first : ℕ) : Type 0 where
  pub slots : (w : ℕ) → w < count → Slot s' (first + window_room * w) (window (slice_index_or nodes w nan) (slice_index_or nodes (w + 1) nan))
  pub few : (w : ℕ) → w < count → length (window (slice_index_or nodes w nan) (slice_index_or nodes (w + 1) nan)) ≤ 3500
  pub long : length s' ≡ length s
  pub same : (k : ℕ) → base + work_size ≤ k → ((w : ℕ) → w < count → first + window_room * w ≤ k → k < first + window_room * w + slot_room → ⊥)
      → slice_index_or s' k nan ≡ slice_index_or s k nan

-- all windows where the slices serve, and nothing otherwise
pub record WindowsFit (serves : Bool) (window : Float → Float → Table State) (nodes : List Float) (s s' : List Float) (base satellite : ℕ) (answer : Bool) :
    Type 0 where
  pub says : answer ≡ serves
  pub filled : serves ≡ true → Filled window nodes (length nodes - 1) s s' base (slot_at base satellite 0)
  pub unfit : serves ≡ false → s' ≡ s
