-- The fitted states of both satellites in their slots: those of crate `windows`, one for each window of neighbouring nodes, and the look-up of a whole second
-- over all of them (document 01, module 8: the whole path uses the fitted states). Assumes nothing.
use Rattle.std.specs.Prelude.{◌≡◌, ℕ, zero, suc, ◌+◌, ◌-◌, ◌*◌, ◌<◌, ◌≤◌, Bool, true, T, List, [], ◌++◌, map, length, ℤ, slice_index_or, Float, Option}
use Rattle.std.specs.Float.{nan}
use Rattle.laws.specs.Lists.{All}
use Rattle.laws.specs.Checks.{is_key}
use Rattle.laws.specs.Times.{RisingSeconds, second_time}
use Rattle.finality.specs.Tables.{Table, find, key_of}
use Rattle.integrate.specs.declared.kernel.State.{State}
use Rattle.windows.specs.Slots.{Entries, Slot}
use Rattle.windows.specs.Windows.{slot_at}
use Rattle.inputs.specs.Inputs.{window_room, slot_room}

-- the tables of the windows 0, 1 and so on below n, end to end
unfoldable pub joined : {X : Type 0} → (ℕ → Table X) → ℕ → Table X
joined tables zero = []
joined tables (suc n) = joined tables n ++ tables n

-- what a slot's search needs of its table
pub record Orderly (table : Table State) : Type 0 where
  pub few : length table ≤ 3500
  pub rises : RisingSeconds (map key_of table)
  pub keys : All (λ (e : ℤ × State). T (is_key e.0)) table

-- one satellite's windows, each in its slot, the first slot at a place
pub record SlotsHold (s : List Float) (first : ℕ) (tables : ℕ → Table State) (windows : ℕ) : Type 0 where
  pub room : first + window_room * windows ≤ length s + slot_room
  pub slots : (w : ℕ) → w < windows → Slot s (first + window_room * w) (tables w)
  pub orderly : (w : ℕ) → w < windows → Orderly (tables w)

-- the first state at a second, over all windows
pub record Looked (s : List Float) (first windows : ℕ) (k : ℤ) (r : Option State) : Type 0 where
  pub is : (tables : ℕ → Table State) → is_key k ≡ true → SlotsHold s first tables windows → r ≡ find k (joined tables windows)

-- ---- what the parts of the search give, where t is a second as a float

-- k is sought in a table of n states, end to end from a place on
pub record Sought (s : List Float) (at n : ℕ) (t : Float) (table : Table State) (k : ℤ) : Type 0 where
  pub key : is_key k ≡ true
  pub time : t ≡ second_time k
  pub count : length table ≡ n
  pub orderly : Orderly table
  pub entries : Entries s at table

pub record Searched (s : List Float) (at n : ℕ) (t : Float) (r : Option State) : Type 0 where
  pub is : (table : Table State) (k : ℤ) → Sought s at n t table k → r ≡ find k table

-- in one slot
pub record InSlot (s : List Float) (at : ℕ) (t : Float) (r : Option State) : Type 0 where
  pub is : (table : Table State) (k : ℤ) → is_key k ≡ true → t ≡ second_time k → Orderly table → Slot s at table → r ≡ find k table

-- in all slots
pub record InSlots (s : List Float) (first windows : ℕ) (t : Float) (r : Option State) : Type 0 where
  pub is : (tables : ℕ → Table State) (k : ℤ) → is_key k ≡ true → t ≡ second_time k → SlotsHold s first tables windows
      → r ≡ find k (joined tables windows)

-- ---- the fits

-- the windows of both satellites, C in the even slots and D in the odd ones, where the slices serve both
pub record BothFit (serves : Bool) (window_c window_d : Float → Float → Table State) (nodes s s' : List Float) (base : ℕ) (answer : Bool) : Type 0 where
  pub long : length s' ≡ length s
  pub says : answer ≡ serves
  pub slots_c : serves ≡ true → (w : ℕ) → w < length nodes - 1 → Slot s' (slot_at base 0 w) (window_c (slice_index_or nodes w nan) (slice_index_or nodes (w + 1) nan))
  pub slots_d : serves ≡ true → (w : ℕ) → w < length nodes - 1 → Slot s' (slot_at base 1 w) (window_d (slice_index_or nodes w nan) (slice_index_or nodes (w + 1) nan))
  pub few_c : serves ≡ true → (w : ℕ) → w < length nodes - 1 → length (window_c (slice_index_or nodes w nan) (slice_index_or nodes (w + 1) nan)) ≤ 3500
  pub few_d : serves ≡ true → (w : ℕ) → w < length nodes - 1 → length (window_d (slice_index_or nodes w nan) (slice_index_or nodes (w + 1) nan)) ≤ 3500
