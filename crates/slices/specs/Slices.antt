-- What the loops over slices compute. Assumes nothing.
use Rattle.std.specs.Prelude.{ℕ, suc, cond, ◌||◌, List, [], ◌∷◌, eqb, ℤ, length, Float, Option, Some, None}
use Rattle.std.specs.Int.Signed.{lt_z}

-- x in the place of o, where it is as long
unfoldable pub copied : List Float → List Float → List Float
copied x o = cond (eqb (length o) (length x)) x o

-- the first place, counted from i, whose key is neither below nor above the one sought
unfoldable pub lookup_from : ℕ → List ℤ → ℤ → Option ℕ
lookup_from i [] key = None
lookup_from i (x ∷ xs) key = cond (lt_z x key || lt_z key x) (lookup_from (suc i) xs key) (Some i)

unfoldable pub lookup : List ℤ → ℤ → Option ℕ
lookup xs key = lookup_from 0 xs key
