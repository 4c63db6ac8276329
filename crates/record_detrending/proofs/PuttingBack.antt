-- Laws of the putting back of residuals: after i records, i of them have theirs. Assumes nothing.
use mathlib.Core.Path.{◌≡◌, refl, ap, ◌∙◌}
use mathlib.Core.List.{List, [], ◌∷◌}
use Prim.Native.Nat.{ℕ, zero, suc, ◌≤◌}
use native.Mathlib.Omega.{arith}
use lib.Ieee.{Float, nan}
use lib.ListN.{length, get_or, set, length-set}
use Rattle.epoch_record.specs.EpochRecord.{with_residual, put_back}
use Rattle.epoch_record.specs.declared.Epoch.{Epoch}
use Rattle.record_detrending.proofs.Reading.{none}

-- the list at the head of the loop: i records are done
abbrev pub put_upto : List Epoch → List Float → ℕ → List Epoch
put_upto xs vs zero = xs
put_upto xs vs (suc i) = set (put_upto xs vs i) i (with_residual (get_or (put_upto xs vs i) i none) (get_or vs i nan))

pub length_put_upto : (xs : List Epoch) (vs : List Float) (i : ℕ) → length (put_upto xs vs i) ≡ length xs
length_put_upto xs vs zero = refl
length_put_upto xs vs (suc i) = simp length-set (length_put_upto xs vs i)

put_upto_cons : (e : Epoch) (xs : List Epoch) (v : Float) (vs : List Float) (i : ℕ) → put_upto (e ∷ xs) (v ∷ vs) (suc i) ≡ with_residual e v ∷ put_upto xs vs i
put_upto_cons e xs v vs zero = refl
put_upto_cons e xs v vs (suc i) = ap (λ (l : List Epoch). set l (suc i) (with_residual (get_or l (suc i) none) (get_or vs i nan))) (put_upto_cons e xs v vs i)

-- at the end all are
pub put_upto_all : (xs : List Epoch) (vs : List Float) → length xs ≤ length vs → put_upto xs vs (length xs) ≡ put_back xs vs
unfolding put_back
put_upto_all [] vs e = refl
put_upto_all (x ∷ xs) [] e = absurd (omega arith)
put_upto_all (x ∷ xs) (v ∷ vs) e = put_upto_cons x xs v vs (length xs) ∙ ap (λ (l : List Epoch). with_residual x v ∷ l) (put_upto_all xs vs (omega arith))

pub put_upto_done : (xs : List Epoch) (vs : List Float) (i : ℕ) (l : List Epoch) → length xs ≤ length vs → i ≤ length xs → length l ≤ i →
    l ≡ put_upto xs vs i → l ≡ put_back xs vs
put_upto_done xs vs i l h a b e =
    let n : i ≡ length xs = omega (arith, length_put_upto xs vs i, ap length e) in
    e ∙ ap (put_upto xs vs) n ∙ put_upto_all xs vs h
