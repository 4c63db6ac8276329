-- What the work on the lent numbers leaves. Assumes nothing.
use Rattle.std.specs.Prelude.{◌≡◌, ℕ, ◌+◌, ◌*◌, ◌<◌, ◌≤◌, Bool, true, false, List, length, take, replicate, slice_index_or, Float}
use Rattle.std.specs.Float.{nan}
use Rattle.inputs.specs.Inputs.{Model, front_size}
use Rattle.laws.specs.Floats.{zero64}
use Rattle.vectors.specs.declared.Vector.{Vector}
use Rattle.legendre.specs.Prepared.{prepared}
use Rattle.model.specs.Calls.{at_left}
use Rattle.forces.specs.Forces.{moment_of}
use Rattle.integrate.specs.declared.kernel.State.{State}
use Rattle.integrate.specs.declared.kernel.Instant.{Instant}
use Rattle.integrate.specs.declared.kernel.Push.{Push}
use Rattle.integrate.specs.declared.kernel.Stepped.{Stepped}
use Rattle.integrate.specs.declared.kernel.Force.{Force}
use Rattle.integrate.specs.declared.kernel.Force.TheVariants.{Full}
use Rattle.integrate.specs.Force.{full_force}
use Rattle.integrate.specs.Room.{run_size, Run, Only, Holds3, Orbit, flat}

-- a time with what the tides take from it
abbrev pub instant_of : Float → Instant
instant_of t = record { time = t; moment = moment_of t }

-- the numbers before the states of a run at time t: the field's coefficients, and the tables that the degree alone gives
unfoldable pub front_at : Model → Float → List Float
front_at M t = at_left M t (prepared M.fixed.degree (replicate (front_size M.fixed.degree) zero64))

-- the numbers before the states are those of an instant, and so are Sun, Moon and tide
pub record Ready (M : Model) (front : List Float) (known : Instant) : Type 0 where
  pub holds : front ≡ front_at M known.time
  pub sky : known.moment ≡ moment_of known.time

-- needed for the full force only
abbrev pub ReadyFor : Force → Model → List Float → Instant → Type 0
ReadyFor force M front known = force ≡ Full → Ready M front known

-- an instant was made that of time t
pub record Refreshed (M : Model) (front front' : List Float) (known : Instant) (t : Float) (r : Instant) : Type 0 where
  pub ready : Ready M front known → Ready M front' r
  pub time : r.time ≡ t
  pub long : length front' ≡ length front

-- the full attraction at t
pub record Pulled (M : Model) (front front' : List Float) (known : Instant) (t : Float) (x : Vector) (r : Push) : Type 0 where
  pub ready : Ready M front known → Ready M front' r.known
  pub pull : Ready M front known → r.pull ≡ full_force M t x
  pub long : length front' ≡ length front

-- an acceleration, by the force chosen
pub record Pushed (force : Force) (M : Model) (front front' : List Float) (known : Instant) (value : Vector) (r : Push) : Type 0 where
  pub ready : ReadyFor force M front known → ReadyFor force M front' r.known
  pub pull : ReadyFor force M front known → r.pull ≡ value
  pub long : length front' ≡ length front

-- one step
pub record Moved (force : Force) (M : Model) (front front' : List Float) (known : Instant) (value : State) (r : Stepped) : Type 0 where
  pub ready : ReadyFor force M front known → ReadyFor force M front' r.known
  pub state : ReadyFor force M front known → r.state ≡ value
  pub long : length front' ≡ length front

-- three numbers were put at a place, if they have room there
pub record Placed (s s' : List Float) (at : ℕ) (v : Vector) : Type 0 where
  pub here : at + 3 ≤ length s → Holds3 s' at v
  pub only : Only at (at + 3) s s'

-- a state was put at a place, if it has room there
pub record Stored (s s' : List Float) (at : ℕ) (state : State) : Type 0 where
  pub position : at + 6 ≤ length s → Holds3 s' at state.position
  pub velocity : at + 6 ≤ length s → Holds3 s' (at + 3) state.velocity
  pub only : Only at (at + 6) s s'

-- one step more, at its place
pub record Advanced (force : Force) (M : Model) (w w' : List Float) (base k : ℕ) (known : Instant) (value : State) (r : Stepped) : Type 0 where
  pub ready : ReadyFor force M (take base w) known → ReadyFor force M (take base w') r.known
  pub state : ReadyFor force M (take base w) known → r.state ≡ value
  pub position : Holds3 w' (base + 6 * (k + 1)) r.state.position
  pub velocity : Holds3 w' (base + 6 * (k + 1) + 3) r.state.velocity
  pub states : (i : ℕ) → base ≤ i → i < base + 6 * (k + 1) → slice_index_or w' i nan ≡ slice_index_or w i nan
  pub only : Only 0 (base + run_size) w w'

-- the first instant of a run
pub record Begun (force : Force) (M : Model) (front front' : List Float) (r : Instant) : Type 0 where
  pub ready : ReadyFor force M front' r
  pub long : length front' ≡ length front

-- a run of so many steps
pub record Flown (w w' : List Float) (base steps : ℕ) (run : Run) : Type 0 where
  pub states : Orbit w' base run (steps + 1)
  pub only : Only 0 (base + run_size) w w'

-- a run where it fits, and nothing otherwise
pub record Ran (fits : Bool) (w w' : List Float) (base steps : ℕ) (run : Run) : Type 0 where
  pub flown : fits ≡ true → Flown w w' base steps run
  pub kept : fits ≡ false → w' ≡ w

-- the states of a run as a list, and scratch as long as before
pub record Listed (run : Run) (n : ℕ) (out scratch scratch' : List Float) : Type 0 where
  pub states : out ≡ flat run n
  pub long : length scratch' ≡ length scratch
