-- What stands where in a list of numbers, place by place. Assumes nothing.
use Rattle.std.specs.Prelude.{◌≡◌, ℕ, zero, suc, ◌+◌, ◌*◌, ◌<◌, ◌≤◌, List, [], ◌∷◌, ◌++◌, length, get_or, slice_index_or, Float}
use Rattle.std.specs.Float.{nan}
use Rattle.vectors.specs.declared.Vector.{Vector}
use Rattle.integrate.specs.declared.kernel.State.{State}

-- the numbers of the longest run: 5,303 states
abbrev pub run_size : ℕ
run_size = 6 * 5303

-- six numbers of a list
unfoldable pub state_in : List Float → ℕ → State
state_in l i = record {
  position = record { x = slice_index_or l i nan; y = slice_index_or l (i + 1) nan; z = slice_index_or l (i + 2) nan };
  velocity = record { x = slice_index_or l (i + 3) nan; y = slice_index_or l (i + 4) nan; z = slice_index_or l (i + 5) nan };
}

-- the states of a run: at each step
abbrev pub Run : Type 0
Run = ℕ → State

-- the list changed at most from place a on, below e
pub record Only (a e : ℕ) (s s' : List Float) : Type 0 where
  pub long : length s' ≡ length s
  pub same : (k : ℕ) → (a ≤ k → k < e → ⊥) → slice_index_or s' k nan ≡ slice_index_or s k nan

-- three numbers at a place
pub record Holds3 (s : List Float) (at : ℕ) (v : Vector) : Type 0 where
  pub x : get_or s at nan ≡ v.x
  pub y : get_or s (at + 1) nan ≡ v.y
  pub z : get_or s (at + 2) nan ≡ v.z

-- the first n states of a run, six numbers each
pub record Orbit (s : List Float) (at : ℕ) (run : Run) (n : ℕ) : Type 0 where
  pub position : (k : ℕ) → k < n → Holds3 s (at + 6 * k) (run k).position
  pub velocity : (k : ℕ) → k < n → Holds3 s (at + 6 * k + 3) (run k).velocity

-- the six numbers of a state, and those of the first n states, end to end
abbrev pub six : State → List Float
six s = s.position.x ∷ s.position.y ∷ s.position.z ∷ s.velocity.x ∷ s.velocity.y ∷ s.velocity.z ∷ []

unfoldable pub flat : Run → ℕ → List Float
flat run zero = []
flat run (suc n) = flat run n ++ six (run n)
