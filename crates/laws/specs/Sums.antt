-- Sums from +0.0 in order, each addition rounded once (document 01, "Sums start at +0.0 and run in list order"). Assumes nothing.
use Rattle.std.specs.Prelude.{◌≡◌, refl, ℕ, zero, suc, ◌+◌, ◌<◌, Float}
use Rattle.std.proofs.Common.{ap₂, ◌∙◌, sym, ap, add-one, arith}
use Rattle.laws.specs.Floats.{◌⊕◌, zero64}

-- f 0 + f 1 + .. + f (n - 1)
unfoldable pub sum_to : (ℕ → Float) → ℕ → Float
sum_to f zero = zero64
sum_to f (suc n) = sum_to f n ⊕ f n

-- one term more
pub sum_more : (f : ℕ → Float) (n : ℕ) (s v : Float) → s ≡ sum_to f n → v ≡ f n → s ⊕ v ≡ sum_to f (n + 1)
unfolding sum_to
sum_more f n s v p q = ap₂ (λ (a b : Float). a ⊕ b) p q ∙ ap (sum_to f) (sym (add-one n))

-- equal terms have equal sums
pub sum_same : {f g : ℕ → Float} (n : ℕ) → ((i : ℕ) → i < n → f i ≡ g i) → sum_to f n ≡ sum_to g n
unfolding sum_to
sum_same zero h = refl
sum_same (suc n) h = ap₂ (λ (a b : Float). a ⊕ b) (sum_same n (λ i l. h i (omega arith))) (h n (omega arith))
