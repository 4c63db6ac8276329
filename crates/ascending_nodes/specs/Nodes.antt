-- Ascending nodes (the source's `ascending_nodes`): where an orbit crosses the equator northward. Its states lie end to end, six numbers a key, of which
-- the third is z. Assumes nothing.
use Rattle.std.specs.Prelude.{◌≡◌, ℕ, zero, suc, ◌+◌, ◌-◌, ◌*◌, Bool, false, cond, List, [], ◌∷◌, ◌++◌, length, ℤ, pos, slice_index_or, Float}
use Rattle.std.specs.Float.{nan}
use Rattle.std.specs.Float.Ieee.{lt, le, eq}
use Rattle.laws.specs.Floats.{◌⊕◌, ◌⊖◌, ◌⊘◌, zero64, one64}
use Rattle.laws.specs.Times.{second_time}
use Rattle.laws.specs.Loops.{filled_up}

-- key k as a time; exact, as keys go up to 2^31
abbrev pub second_at : List ℤ → ℕ → Float
second_at ks k = second_time (slice_index_or ks k (pos 0))

-- from below the equator to it or above it
unfoldable pub rises_of : Float → Float → Bool
rises_of z0 z1 = cond (lt z0 zero64) (le zero64 z1) false

-- z of state k
abbrev pub height_at : List Float → ℕ → Float
height_at st k = slice_index_or st (6 * k + 2) nan

-- whether there is a node between the keys k and k + 1: they are one second apart, and the orbit rises
unfoldable pub crosses_at : List ℤ → List Float → ℕ → Bool
crosses_at ks st k = cond (eq (second_at ks (k + 1) ⊖ second_at ks k) one64) (rises_of (height_at st k) (height_at st (k + 1))) false

-- its time, where z is zero on the line between the two
unfoldable pub crossing_at : List ℤ → List Float → ℕ → Float
crossing_at ks st k = second_at ks k ⊕ height_at st k ⊘ (height_at st k ⊖ height_at st (k + 1))

-- the nodes between the first n pairs of neighbouring keys, in order
unfoldable pub nodes_to : List ℤ → List Float → ℕ → List Float
nodes_to ks st zero = []
nodes_to ks st (suc n) = nodes_to ks st n ++ cond (crosses_at ks st n) (crossing_at ks st n ∷ []) []

unfoldable pub nodes_of : List ℤ → List Float → List Float
nodes_of ks st = nodes_to ks st (length ks - 1)

-- the nodes, +0.0 after the last, and their count
pub record NodesIn (ks : List ℤ) (st : List Float) (count : ℕ) (out : List Float) : Type 0 where
  pub counted : count ≡ length (nodes_of ks st)
  pub held : out ≡ filled_up zero64 (length ks) (nodes_of ks st)
