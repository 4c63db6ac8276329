-- F: it grows with the horizon, epochs at or after the horizon leave it alone, a run ends where it ends, and it is document 01's sum over the runs. Assumes nothing.
use mathlib.Core.Path.{◌≡◌, refl, sym, ap, ◌∙◌, subst}
use mathlib.Core.Logic.{◌⊎◌, inl, inr}
use Prim.Native.Nat.{ℕ, zero, suc, ◌+◌, ◌≤◌, zero-le, suc-le-suc}
use native.Mathlib.Nat.{le_trans, le-suc, suc-ne-zero, suc-add, zero-add}
use native.Mathlib.Omega.{arith}
use mathlib.Core.Bool.{Bool, true, false, not, cond}
use mathlib.Core.List.{List, [], ◌∷◌, ◌++◌}
use lib.Dec.{T, T_not}
use lib.ListN.{length, take, drop, get_or}
use lib.Ieee.{Float, nan, binary64, le, of_bits}
use lib.Ieee.Bits.{is_true, is_false}
use lib.Ieee.Scale.{finite}
use Rattle.laws.specs.Floats.{zero⁺}
use Rattle.laws.specs.Lists.{All, cond_ind, same_bool, decide}
use Rattle.laws.specs.Signed.{finite→real}
use Rattle.laws.specs.Order.{le_rfl, le_tr, lt→le, gap_grows, gap_widens, no_gap}
use Rattle.laws.specs.Times.{Rising}
use Rattle.laws.specs.Runs.{longest_step, splits, ends_at, ends_run, grown, runs_of}
use Rattle.finality.specs.Sheet.{end_of, count, count_runs}

-- ---- a gap stays one when its end moves later or its start earlier; there is none backwards
step_positive : T (le zero⁺ longest_step)
unfolding le of_bits
step_positive = tt

pub splits_later : (x y t : Float) → T (finite x) → T (le y t) → T (splits x y) → T (splits x t)
unfolding splits
splits_later x y t q k h = gap_grows binary64 longest_step y t x q h k

pub splits_earlier : (w x y : Float) → T (finite y) → T (le w x) → T (splits x y) → T (splits w y)
unfolding splits
splits_earlier w x y q k h = gap_widens binary64 longest_step y w x q h k

pub not_splits_back : (x y : Float) → T (finite y) → T (le y x) → T (not (splits x y))
unfolding splits
not_splits_back x y q k = no_gap binary64 longest_step y x q step_positive k

-- ---- the last epoch of a run
pub end_ge : (x : Float) (xs : List Float) → Rising (x ∷ xs) → T (le x (end_of x xs))
unfolding end_of
end_ge x [] r = le_rfl x (finite→real x r.0)
end_ge x (y ∷ ys) r =
    cond_ind (λ (e : Float). T (le x e)) (splits x y) x (end_of y ys) (λ t. le_rfl x (finite→real x r.0)) (λ t. le_tr x y (end_of y ys) (lt→le x y r.1.0) (end_ge y ys r.2))

end_finite : (x : Float) (xs : List Float) → All (λ y. T (finite y)) (x ∷ xs) → T (finite (end_of x xs))
unfolding end_of
end_finite x [] a = a.0
end_finite x (y ∷ ys) a = cond_ind (λ (e : Float). T (finite e)) (splits x y) x (end_of y ys) (λ t. a.0) (λ t. end_finite y ys a.1)

-- an epoch after x is final only if x is
earlier_final : (z x y : Float) (ys : List Float) → T (finite z) → Rising (x ∷ y ∷ ys) → T (splits (end_of y ys) z) → T (splits (end_of x (y ∷ ys)) z)
unfolding end_of
earlier_final z x y ys q r h =
    cond_ind (λ (e : Float). T (splits e z)) (splits x y) x (end_of y ys)
    (λ t. splits_earlier x (end_of y ys) z q (le_tr x y (end_of y ys) (lt→le x y r.1.0) (end_ge y ys r.2)) h) (λ t. h)

count_none : (z x : Float) (xs : List Float) → T (finite z) → Rising (x ∷ xs) → T (not (splits (end_of x xs) z)) → count z xs ≡ 0
unfolding count
count_none z x [] q r h = refl
count_none z x (y ∷ ys) q r h =
    cond_ind (λ (k : ℕ). k ≡ 0) (splits (end_of y ys) z) (suc (count z ys)) (count z ys)
    (λ t. absurd (T_not (splits (end_of x (y ∷ ys)) z) h (earlier_final z x y ys q r t))) (λ t. count_none z y ys q r.2 t)

pub count_le : (z : Float) (xs : List Float) → count z xs ≤ length xs
unfolding count
count_le z [] = zero-le
count_le z (x ∷ xs) =
    cond_ind (λ (k : ℕ). k ≤ suc (length xs)) (splits (end_of x xs) z) (suc (count z xs)) (count z xs) (λ t. suc-le-suc (count_le z xs)) (λ t. le_trans (count_le z xs) (le-suc (length xs)))

-- ---- the count grows with the horizon
pub count_mono : (z z' : Float) (xs : List Float) → T (le z z') → All (λ x. T (finite x)) xs → count z xs ≤ count z' xs
unfolding count
count_mono z z' [] h a = zero-le
count_mono z z' (x ∷ xs) h a = go (splits (end_of x xs) z) (splits (end_of x xs) z') (splits_later (end_of x xs) z z' (end_finite x xs a) h) (count_mono z z' xs h a.1)
  where
    go : (b c : Bool) → (T b → T c) → count z xs ≤ count z' xs → cond b (suc (count z xs)) (count z xs) ≤ cond c (suc (count z' xs)) (count z' xs)
    go true true f k = suc-le-suc k
    go true false f k = absurd (f tt)
    go false true f k = le_trans k (le-suc (count z' xs))
    go false false f k = k

-- ---- epochs at or after the horizon do not change the count
-- such an epoch is in no final run
late : (z x : Float) (xs : List Float) → T (finite z) → T (le z x) → Rising (x ∷ xs) → T (not (splits (end_of x xs) z))
late z x xs q h r = not_splits_back (end_of x xs) z q (le_tr z x (end_of x xs) h (end_ge x xs r))

tail_late : (z : Float) (bs : List Float) → T (finite z) → All (λ b. T (le z b)) bs → Rising bs → count z bs ≡ 0
unfolding count
tail_late z [] q a r = refl
tail_late z (b ∷ bs) q a r =
    cond_ind (λ (k : ℕ). k ≡ 0) (splits (end_of b bs) z) (suc (count z bs)) (count z bs) (λ t. absurd (T_not (splits (end_of b bs) z) (late z b bs q a.0 r) t)) (λ t. tail_late z bs q a.1 r.2)

end_late : (z x : Float) (us bs : List Float) → T (finite z) → All (λ b. T (le z b)) bs → Rising (x ∷ (us ++ bs)) → splits (end_of x (us ++ bs)) z ≡ splits (end_of x us) z
unfolding end_of
end_late z x [] [] q a r = refl
end_late z x [] (b ∷ bs) q a r =
    cond_ind (λ (e : Float). splits e z ≡ splits x z) (splits x b) x (end_of b bs) (λ t. refl)
    (λ t. same_bool (splits (end_of b bs) z) (splits x z) (λ u. absurd (T_not (splits (end_of b bs) z) (late z b bs q a.0 r.2) u))
    (λ u. absurd (T_not (splits x b) t (splits_later x z b r.0 a.0 u))))
end_late z x (y ∷ us) bs q a r = go (splits x y) (end_late z y us bs q a r.2)
  where
    go : (c : Bool) → splits (end_of y (us ++ bs)) z ≡ splits (end_of y us) z → splits (cond c x (end_of y (us ++ bs))) z ≡ splits (cond c x (end_of y us)) z
    go true e = refl
    go false e = e

pub count_late : (z : Float) (us bs : List Float) → T (finite z) → All (λ b. T (le z b)) bs → Rising (us ++ bs) → count z (us ++ bs) ≡ count z us
unfolding count
count_late z [] bs q a r = tail_late z bs q a r
count_late z (x ∷ us) bs q a r =
    ap (λ (c : Bool). cond c (suc (count z (us ++ bs))) (count z (us ++ bs))) (end_late z x us bs q a r)
    ∙ ap (λ (k : ℕ). cond (splits (end_of x us) z) (suc k) k) (count_late z us bs q a r.2)

-- ---- a run ends where the count ends
gap : (z x : Float) (xs : List Float) → T (splits (end_of x xs) z) → count z xs ≡ 0 → T (ends_at x xs)
unfolding end_of count
gap z x [] h e = tt
gap z x (y ∷ ys) h e =
    elim (decide (splits x y)) [
      | inl t ↦ t
      | inr t ↦
          absurd (suc-ne-zero (count z ys)
          (sym (ap (λ (b : Bool). cond b (suc (count z ys)) (count z ys))
          (is_true (splits (end_of y ys) z) (subst (λ (b : Bool). T (splits (cond b x (end_of y ys)) z)) (is_false (splits x y) t) h))) ∙ e))
    ]

abbrev CutAt : ℕ → List Float → Type 0
CutAt k xs = T (ends_run (take k xs) (drop k xs))

cut_next : (x : Float) (k : ℕ) (xs : List Float) → CutAt (suc k) xs → CutAt (suc (suc k)) (x ∷ xs)
cut_next x k [] c = tt
cut_next x k (y ∷ ys) c = c

cut : (z : Float) (xs : List Float) → T (finite z) → Rising xs → CutAt (count z xs) xs
unfolding count
cut z [] q r = tt
cut z (x ∷ xs) q r =
    cond_ind (λ (k : ℕ). CutAt k (x ∷ xs)) (splits (end_of x xs) z) (suc (count z xs)) (count z xs)
    (λ t. one (count z xs) refl t (cut z xs q r.2))
    (λ t. subst (λ (k : ℕ). CutAt k (x ∷ xs)) (sym (count_none z x xs q r t)) tt)
  where
    one : (k : ℕ) → count z xs ≡ k → T (splits (end_of x xs) z) → CutAt k xs → CutAt (suc k) (x ∷ xs)
    one zero e t c = gap z x xs t e
    one (suc k) e t c = cut_next x k xs c

pub count_cut : (z : Float) (xs : List Float) → T (finite z) → Rising xs → ends_run (take (count z xs) xs) (drop (count z xs) xs) ≡ true
count_cut z xs q r = is_true (ends_run (take (count z xs) xs) (drop (count z xs) xs)) (cut z xs q r)

-- ---- F by epochs is F by runs
record Head (x : Float) (xs : List Float) : Type 0 where
  pub k : ℕ
  pub ks : List ℕ
  pub is : runs_of (x ∷ xs) ≡ suc k ∷ ks
  pub last : get_or (x ∷ xs) k nan ≡ end_of x xs

head : (x : Float) (xs : List Float) → Head x xs
unfolding end_of
head x [] = record { k = 0; ks = []; is = refl; last = refl }
head x (y ∷ ys) = go (head y ys) (decide (splits x y))
  where
    go : Head y ys → T (splits x y) ⊎ T (not (splits x y)) → Head x (y ∷ ys)
    go h (inl t) =
        record {
          k = 0;
          ks = runs_of (y ∷ ys);
          is = ap (λ (b : Bool). grown b (runs_of (y ∷ ys))) (is_true (splits x y) t);
          last = sym (ap (λ (b : Bool). cond b x (end_of y ys)) (is_true (splits x y) t));
        }
    go h (inr t) =
        record {
          k = suc h.k;
          ks = h.ks;
          is = ap (λ (b : Bool). grown b (runs_of (y ∷ ys))) (is_false (splits x y) t) ∙ ap (λ (l : List ℕ). grown false l) h.is;
          last = h.last ∙ sym (ap (λ (b : Bool). cond b x (end_of y ys)) (is_false (splits x y) t));
        }

one_more : (b : Bool) (k t c : ℕ) → c ≡ cond b k 0 + t → cond b (suc c) c ≡ cond b (suc k) 0 + t
one_more true k t c e = ap suc e ∙ sym (suc-add k t)
one_more false k t c e = e

alone : (b : Bool) (c : ℕ) → cond b (suc c) c ≡ cond b 1 0 + c
alone true c = omega arith
alone false c = sym (zero-add c)

pub count_runs_law : (z : Float) (xs : List Float) → count z xs ≡ count_runs z (runs_of xs) xs
unfolding count count_runs end_of
count_runs_law z [] = refl
count_runs_law z (x ∷ []) = alone (splits x z) 0
count_runs_law z (x ∷ y ∷ ys) = go (head y ys) (decide (splits x y)) (count_runs_law z (y ∷ ys))
  where
    go : Head y ys → T (splits x y) ⊎ T (not (splits x y)) → count z (y ∷ ys) ≡ count_runs z (runs_of (y ∷ ys)) (y ∷ ys)
        → count z (x ∷ y ∷ ys) ≡ count_runs z (runs_of (x ∷ y ∷ ys)) (x ∷ y ∷ ys)
    go h (inl t) e =
        ap (λ (b : Bool). cond (splits (cond b x (end_of y ys)) z) (suc (count z (y ∷ ys))) (count z (y ∷ ys))) (is_true (splits x y) t)
        ∙ ap (λ (c : ℕ). cond (splits x z) (suc c) c) e
        ∙ alone (splits x z) (count_runs z (runs_of (y ∷ ys)) (y ∷ ys))
        ∙ sym (ap (λ (b : Bool). count_runs z (grown b (runs_of (y ∷ ys))) (x ∷ y ∷ ys)) (is_true (splits x y) t))
    go h (inr t) e =
        let l = h.last in
        let rest = count_runs z h.ks (drop (suc h.k) (y ∷ ys)) in
        ap (λ (b : Bool). cond (splits (cond b x (end_of y ys)) z) (suc (count z (y ∷ ys))) (count z (y ∷ ys))) (is_false (splits x y) t)
        ∙ one_more (splits (end_of y ys) z) (suc h.k) rest (count z (y ∷ ys))
        (e ∙ ap (λ (w : List ℕ). count_runs z w (y ∷ ys)) h.is ∙ ap (λ (u : Float). cond (splits u z) (suc h.k) 0 + rest) l)
        ∙ sym (ap (λ (b : Bool). count_runs z (grown b (runs_of (y ∷ ys))) (x ∷ y ∷ ys)) (is_false (splits x y) t)
        ∙ ap (λ (w : List ℕ). count_runs z (grown false w) (x ∷ y ∷ ys)) h.is
        ∙ ap (λ (u : Float). cond (splits u z) (suc (suc h.k)) 0 + rest) l)
