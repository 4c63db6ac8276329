-- What the work on the lent outputs leaves, step by step. Assumes nothing.
use Rattle.std.specs.Prelude.{◌≡◌, true, List, ◌++◌, map, ℕ, ◌+◌, ◌*◌, ◌≤◌, ◌<◌, ℤ, pos, Float, length, set}
use Rattle.inputs.specs.Inputs.{front_size}
use Rattle.laws.specs.Floats.{zero64}
use Rattle.laws.specs.Checks.{rising_seconds}
use Rattle.laws.specs.Loops.{filled_up}
use Rattle.finality.specs.Tables.{Table, key_of}
use Rattle.integrate.specs.Room.{Run, state_in}
use Rattle.integrate.specs.declared.kernel.State.{State}
use Rattle.fitted_orbits.specs.declared.work.Done.{Done}
use Rattle.fitted_orbits.specs.Orbits.{Window, joined, numbers_of}
use Rattle.fitted_orbits.specs.Calls.{Outputs, listed}
use Rattle.fit.specs.Room.{work_size}

-- six numbers stored from a place on
unfoldable pub put_six : List Float → ℕ → State → List Float
put_six o at s =
    set (set (set (set (set (set o at s.position.x) (at + 1) s.position.y) (at + 2) s.position.z) (at + 3) s.velocity.x) (at + 4)
    s.velocity.y) (at + 5) s.velocity.z

-- the states of a run as they stand in the lent numbers
abbrev pub read_run : List Float → ℕ → Run
read_run s base k = state_in s (base + 6 * k)

-- the states of a table from the front, of m places
pub record Tabled (m : ℕ) (table : Table State) (n : ℕ) (keys : List ℤ) (states : List Float) : Type 0 where
  pub counted : n ≡ length table
  pub seconds : keys ≡ filled_up (pos 0) m (map key_of table)
  pub numbers : states ≡ filled_up zero64 (6 * m) (numbers_of table)

-- a table's states were added
pub record Joins (more : Table State) (n r : ℕ) (keys keys' : List ℤ) (states states' : List Float) : Type 0 where
  pub all : (m : ℕ) (table : Table State) → n + 3500 ≤ m → Tabled m table n keys states → Tabled m (table ++ more) r keys' states'
  pub few : r ≤ n + 3500
  pub long_keys : length keys' ≡ length keys
  pub long_states : length states' ≡ length states

-- the windows so far, for k pairs of neighbouring nodes
pub record SoFar (k : ℕ) (ws : List Window) (done : Done) (o : Outputs) : Type 0 where
  pub windows : done.windows ≡ length ws
  pub states : done.states ≡ length (joined ws)
  pub outputs : o ≡ listed k ws

-- room for one more window
pub record Room (done : Done) (o : Outputs) : Type 0 where
  pub keys : done.states + 3500 ≤ length o.keys
  pub states : 6 * (done.states + 3500) ≤ length o.states
  pub rms : done.windows < length o.rms

-- windows were added, at most n
pub record Adds (more : List Window) (n : ℕ) (done r : Done) (o o' : Outputs) : Type 0 where
  pub all : (k : ℕ) (ws : List Window) → done.states + 3500 * n ≤ 3500 * k → done.windows + n ≤ k → SoFar k ws done o → SoFar k (ws ++ more) r o'
  pub states : r.states ≤ done.states + 3500 * n
  pub windows : r.windows ≤ done.windows + n
  pub long_keys : length o'.keys ≡ length o.keys
  pub long_states : length o'.states ≡ length o.states
  pub long_rms : length o'.rms ≡ length o.rms

-- what a window's fit needs of the lent slices
pub record Usable (N : ℕ) (keys : List ℤ) (states room : ℕ) : Type 0 where
  pub degree : N ≤ 180
  pub rises : rising_seconds keys ≡ true
  pub each : states ≡ 6 * length keys
  pub enough : front_size N + work_size ≤ room
