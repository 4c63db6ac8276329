-- Ranges inside a list of n samples (document 01, "Bounds"). Assumes nothing.
use Rattle.std.specs.Prelude.{ℕ, Bool, true, false, cond, List, [], ◌∷◌, leb, ltb, length, get_or}

-- each range has first ≤ end ≤ n
unfoldable pub ranges_fit : List ℕ → List ℕ → ℕ → Bool
ranges_fit [] es n = true
ranges_fit (f ∷ fs) [] n = true
ranges_fit (f ∷ fs) (e ∷ es) n = cond (cond (leb f e) (leb e n) false) (ranges_fit fs es n) false

-- range k does so, where there is one
unfoldable pub range_fits : List ℕ → List ℕ → ℕ → ℕ → Bool
range_fits fs es k n = cond (ltb k (length es)) (cond (leb (get_or fs k 0) (get_or es k 0)) (leb (get_or es k 0) n) false) true
