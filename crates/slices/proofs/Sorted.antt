-- What the library's tests and search of neighbours say of a rising list. Assumes nothing.
use mathlib.Core.Path.{◌≡◌, refl, sym}
use mathlib.Core.Bool.{Bool, true, false, and-false}
use mathlib.Core.List.{List, [], ◌∷◌}
use Prim.Native.Nat.{ℕ, zero, suc, ◌+◌, ◌<◌}
use native.Mathlib.Numerals.{add-one}
use native.Mathlib.Omega.{arith}
use lib.ListN.{length}
use Rattle.std.specs.Prelude.{slice_index_or}
use Rattle.std.specs.List.{IsAllAdjacentAnswer}
use Rattle.std.specs.Fn.{Mut, Called, ComputesOnPairs}
use Rattle.std.proofs.lemmas.Fn.{always_returns_same}
use Rattle.std.specs.Borrow.{Bor}
use Rattle.laws.specs.Checks.{ascending}

module _ {A : Type 0} (below : A → A → Bool) where
  each_below : (xs : List A) → ((k : ℕ) (d : A) → k + 1 < length xs → true ≡ below (slice_index_or xs k d) (slice_index_or xs (suc k) d)) → true ≡ ascending below xs
  each_below [] f = refl
  each_below (x ∷ []) f = refl
  each_below (x ∷ y ∷ xs) f = rw (sym (f 0 x (omega arith))) (each_below (y ∷ xs) (λ k d h. f (suc k) d (omega arith)))

  one_not : (xs : List A) (k : ℕ) → k + 1 < length xs → ((d : A) → false ≡ below (slice_index_or xs k d) (slice_index_or xs (suc k) d)) → false ≡ ascending below xs
  one_not [] k h f = absurd (omega arith)
  one_not (x ∷ []) k h f = absurd (omega arith)
  one_not (x ∷ y ∷ xs) zero h f = rw (sym (f x))
  one_not (x ∷ y ∷ xs) (suc k) h f = rw (sym (one_not (y ∷ xs) k (omega arith) f)) (sym (and-false (below x y)))

  ascending_is : (xs : List A) (r : Bool) → IsAllAdjacentAnswer (λ x y b. b ≡ below x y) xs r → r ≡ ascending below xs
  ascending_is xs true h = each_below xs (λ k d l. rw add-one at (h k d l))
  ascending_is xs false h = one_not xs h.0 h.1 (λ d. rw add-one at (h.2 d))

  -- what `is_sorted_by` ensures, at a closure that answers `below`
  pub ascending_tested : {F : Type 0} {g : Mut F (Bor A × (Bor A × Unit {0})) Bool} {f : F} (xs : List A) (r : Bool)
      → ((e : A → A → Bool) → ComputesOnPairs g e f → IsAllAdjacentAnswer (λ x y b. b ≡ e x y) xs r)
      → ((a : Bor A × (Bor A × Unit {0})) (b : Bool) (f' : F) → Called g f a b f' → (b ≡ below a.0.now a.1.0.now) × (f' ≡ f))
      → r ≡ ascending below xs
  ascending_tested {g = g} {f = f} xs r clause h = ascending_is xs r (clause below (always_returns_same g (λ a b. b ≡ below a.0.now a.1.0.now) f h))
