-- The slot of a window in the lent numbers: how many states it has, then for each its second, as a float, and six numbers (document 01, module 4). Assumes
-- nothing.
use Rattle.std.specs.Prelude.{◌≡◌, ℕ, ◌+◌, ◌*◌, ◌<◌, Bool, true, false, ◌&&◌, List, [], length, get_or, ℤ, pos, slice_index_or, Float}
use Rattle.std.specs.Float.{nan, fin}
use Rattle.std.specs.Float.Ieee.{le, lt}
use Rattle.laws.specs.WholeNumbers.{number}
use Rattle.laws.specs.Times.{second_time}
use Rattle.laws.specs.Tables.{row}
use Rattle.finality.specs.Tables.{Table}
use Rattle.finality.specs.Arcs.{inside}
use Rattle.integrate.specs.Room.{Run, Only, Holds3, Orbit, state_in}
use Rattle.integrate.specs.declared.kernel.State.{State}

-- a slot without its count
abbrev pub entries_room : ℕ
entries_room = 24599

-- −2^31 and 2^33: between them whole numbers are taken of a number
abbrev pub lowest : Float
lowest = fin true 1 (pos 31)

abbrev pub highest : Float
highest = fin false 1 (pos 33)

-- from ≤ t < to
abbrev pub within : Float → Float → Float → Bool
within from to t = le from t && lt t to

-- a state of a table
abbrev pub nth : Table State → ℕ → ℤ × State
nth table j = slice_index_or table j (pos 0, state_in [] 0)

-- seven numbers at a place
pub record Entry (s : List Float) (at : ℕ) (e : ℤ × State) : Type 0 where
  pub second : get_or s at nan ≡ second_time e.0
  pub position : Holds3 s (at + 1) e.1.position
  pub velocity : Holds3 s (at + 4) e.1.velocity

-- the states of a table, end to end
pub record Entries (s : List Float) (at : ℕ) (table : Table State) : Type 0 where
  pub each : (j : ℕ) → j < length table → Entry s (at + 7 * j) (nth table j)

-- a slot
pub record Slot (s : List Float) (at : ℕ) (table : Table State) : Type 0 where
  pub count : get_or s at nan ≡ number (length table)
  pub entries : Entries s (at + 1) table

-- ---- what the work leaves

-- one state was put at a place
pub record Entered (s s' : List Float) (at : ℕ) (second : ℤ) (state : State) : Type 0 where
  pub entry : Entry s' at (second, state)
  pub only : Only at (at + 7) s s'

-- the states of a run whose times lie inside
pub record Keeps (t0 from to : Float) (steps : ℕ) (s s' : List Float) (base at r : ℕ) : Type 0 where
  pub all : (run : Run) → Orbit s base run (steps + 1) → Entries s' at (inside t0 from to 0 (row run (steps + 1)))
  pub counted : (run : Run) → r ≡ length (inside t0 from to 0 (row run (steps + 1)))
  pub only : Only at (at + entries_room) s s'
