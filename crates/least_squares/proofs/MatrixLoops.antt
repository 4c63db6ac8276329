-- Laws of matrices in lists, and of one turn of each loop. Assumes nothing.
use mathlib.Core.Path.{◌≡◌, refl, sym, ap, ◌∙◌}
use mathlib.Core.Bool.{Bool, true, false, cond}
use mathlib.Core.List.{List}
use Prim.Native.Nat.{ℕ, zero, suc, ◌+◌, ◌*◌, ◌-◌, ◌/◌, ◌%◌, ◌≤◌, ◌<◌}
use native.Mathlib.Numerals.{add-one}
use native.Mathlib.Nat.{mul-le-mul_right, suc-mul}
use native.Mathlib.Omega.{arith}
use lib.Dec.{ltb, eqb}
use lib.Ieee.{Float, nan}
use lib.ListN.{length, get_or, set, take, length-set, replicate, get_or-replicate}
use lib.Seq.{get_or-set_same, get_or-set_other, ext_get_or, take-suc-set, take_all}
use borrow.Author.Tests.{lt-ltb, le-ltb, eq-eqb, ne_eqb, ltb-true, ltb-false, eqb-true, eqb-false}
use Rattle.laws.specs.Floats.{◌⊖◌, ◌⊗◌, ◌⊘◌, zero64}
use Rattle.laws.specs.Tables.{row, row_at, row_length}
use Rattle.laws.specs.Bools.{by}
use Rattle.least_squares.specs.Elimination.{Matrix, largest, reaches, too_small}
use Rattle.least_squares.specs.Flat.{augmented, eliminated_to, fine_in, flatten, pivot_row_in, reduced_to, singular_in, stage_in, swapped_to, turn_in, view, equations}
use Rattle.least_squares.specs.LeastSquares.{normal_at}
use Rattle.numbers.specs.Numbers.{magnitude}

-- the list l is the matrix m
pub record Holds (l : List Float) (m : Matrix) : Type 0 where
  pub long : length l ≡ 240
  pub at : (i j : ℕ) → i < 15 → j < 16 → get_or l (i * 16 + j) nan ≡ m i j

pub as_it_is : (l : List Float) → length l ≡ 240 → Holds l (view l)
as_it_is l h = record { long = h; at = λ i j a b. refl }

-- a store to one place
pub store : (l : List Float) (m m' : Matrix) (i j : ℕ) (v : Float) → i < 15 → j < 16 → Holds l m → v ≡ m' i j →
    ((i' j' : ℕ) → i' < 15 → j' < 16 → (i' ≡ i → j' ≡ j → ⊥) → m i' j' ≡ m' i' j') → Holds (set l (i * 16 + j) v) m'
store l m m' i j v a b h e o = record {
  long = length-set l (i * 16 + j) v ∙ h.long;
  at = λ i' j' a' b'.
      by (eqb (i' * 16 + j') (i * 16 + j))
      (λ t. let q : i' * 16 + j' ≡ i * 16 + j = eqb-true _ _ t in
      let qi : i' ≡ i = omega arith in
      let qj : j' ≡ j = omega arith in
      ap (λ (n : ℕ). get_or (set l (i * 16 + j) v) n nan) q ∙ get_or-set_same l (i * 16 + j) v nan (omega (arith, h.long)) ∙ e
      ∙ sym (ap (λ (n : ℕ). m' n j') qi ∙ ap (λ (n : ℕ). m' i n) qj))
      (λ t. get_or-set_other l (i * 16 + j) (i' * 16 + j') v nan (eqb-false _ _ t)
      ∙ h.at i' j' a' b'
      ∙ o i' j' a' b' (λ qi qj. eqb-false (i' * 16 + j') (i * 16 + j) t (omega arith)));
}

pub whole : (l : List Float) (m : Matrix) → Holds l m → l ≡ flatten m
unfolding flatten
whole l m h =
    ext_get_or nan l (row (λ (k : ℕ). m (k / 16) (k % 16)) 240) (h.long ∙ sym (row_length _ 240))
    (λ n b. let b' : n < 240 = omega (arith, h.long) in
    ap (λ (k : ℕ). get_or l k nan) (omega arith) ∙ h.at (n / 16) (n % 16) (omega arith) (omega arith)
    ∙ sym (row_at (λ (k : ℕ). m (k / 16) (k % 16)) 240 n b'))

pub flat_holds : (m : Matrix) → Holds (flatten m) m
unfolding flatten
flat_holds m = record {
  long = row_length (λ (k : ℕ). m (k / 16) (k % 16)) 240;
  at = λ i j a b.
      row_at (λ (k : ℕ). m (k / 16) (k % 16)) 240 (i * 16 + j) (omega arith)
      ∙ ap (λ (n : ℕ). m n ((i * 16 + j) % 16)) (omega arith) ∙ ap (λ (n : ℕ). m i n) (omega arith);
}

-- an element of a flat list of n rows of p
pub row_in : (r n p j : ℕ) → r < n → j < p → r * p + j < n * p
row_in r n p j a b = omega (arith, mul-le-mul_right p a, suc-mul r p)

pub ltb_step : (j k : ℕ) → (j ≡ k → ⊥) → ltb j k ≡ ltb j (k + 1)
ltb_step j k h =
    by (ltb j k)
    (λ e. e ∙ sym (lt-ltb j (k + 1) (omega (arith, ltb-true j k e))))
    (λ e. e ∙ sym (le-ltb j (k + 1) (omega (arith, ltb-false j k e))))

pub holds_same : (l : List Float) (m m' : Matrix) → Holds l m → ((i j : ℕ) → i < 15 → j < 16 → m i j ≡ m' i j) → Holds l m'
holds_same l m m' h e = record { long = h.long; at = λ i j a b. h.at i j a b ∙ e i j a b }

-- ---- one row reduced

module _ (c i k : ℕ) (m : Matrix) where
  pub reduced_none : (i' j : ℕ) → m i' j ≡ reduced_to c i 0 m i' j
  unfolding reduced_to
  reduced_none i' j = by (eqb i' i) (λ e. simp (e, le-ltb j 0 (omega arith))) (λ e. simp e)

  pub reduced_more : (i' j : ℕ) → (i' ≡ i → j ≡ k → ⊥) → reduced_to c i k m i' j ≡ reduced_to c i (k + 1) m i' j
  unfolding reduced_to
  reduced_more i' j h = by (eqb i' i) (λ e. simp (e, ltb_step j k (h (eqb-true i' i e)))) (λ e. simp e)

  pub reduced_at : m i k ⊖ m i c ⊘ m c c ⊗ m c k ≡ reduced_to c i (k + 1) m i k
  unfolding reduced_to
  reduced_at = simp (eq-eqb i i refl, lt-ltb k (k + 1) (omega arith))

  pub reduced_col : (i' : ℕ) → reduced_to c i k m i' k ≡ m i' k
  unfolding reduced_to
  reduced_col i' = by (eqb i' i) (λ e. simp (e, le-ltb k k (omega arith))) (λ e. simp e)

-- ---- m with one place changed

abbrev pub put : Matrix → ℕ → ℕ → Float → Matrix
put m i j v i' j' = cond (eqb j' j) (cond (eqb i' i) v (m i' j')) (m i' j')

pub store_put : (l : List Float) (m : Matrix) (i j : ℕ) (v : Float) → i < 15 → j < 16 → Holds l m → Holds (set l (i * 16 + j) v) (put m i j v)
store_put l m i j v a b h =
    store l m (put m i j v) i j v a b h (simp (eq-eqb i i refl, eq-eqb j j refl))
    (λ i' j' _ _ n. by (eqb j' j) (λ e. simp (e, ne_eqb i' i (λ q. n q (eqb-true j' j e)))) (λ e. simp e))

-- ---- two rows change places

module _ (c q k : ℕ) (m : Matrix) where
  pub swapped_none : (i j : ℕ) → m i j ≡ swapped_to c q 0 m i j
  unfolding swapped_to
  swapped_none i j = simp (le-ltb j 0 (omega arith))

  pub swapped_col : (i : ℕ) → swapped_to c q k m i k ≡ m i k
  unfolding swapped_to
  swapped_col i = simp (le-ltb k k (omega arith))

  pub swapped_more : (i j : ℕ) → put (put (swapped_to c q k m) c k (m q k)) q k (m c k) i j ≡ swapped_to c q (k + 1) m i j
  unfolding swapped_to
  swapped_more i j =
      by (eqb j k)
      (λ e. let t = lt-ltb j (k + 1) (omega (arith, eqb-true j k e)) in
      let t' = le-ltb j k (omega (arith, eqb-true j k e)) in
      let jk : j ≡ k = eqb-true j k e in
      by (eqb i q)
      (λ u. by (eqb i c)
      (λ w. simp (e, u, w, t) (ap (λ (n : ℕ). m n k) (sym (eqb-true i c w) ∙ eqb-true i q u) ∙ ap (λ (n : ℕ). m q n) (sym jk)))
      (λ w. simp (e, u, w, t) (ap (λ (n : ℕ). m c n) (sym jk))))
      (λ u. by (eqb i c)
      (λ w. simp (e, u, w, t) (ap (λ (n : ℕ). m q n) (sym jk)))
      (λ w. simp (e, u, w, t, t'))))
      (λ e. simp (e, ltb_step j k (eqb-false j k e)))

-- ---- the rows but one reduced

module _ (c n w : ℕ) (m : Matrix) where
  pub eliminated_none : (i j : ℕ) → m i j ≡ eliminated_to c 0 w m i j
  unfolding eliminated_to
  eliminated_none i j = simp (le-ltb i 0 (omega arith))

  -- row c is passed over
  pub eliminated_skip : n ≡ c → (i j : ℕ) → eliminated_to c n w m i j ≡ eliminated_to c (n + 1) w m i j
  unfolding eliminated_to
  eliminated_skip h i j =
      by (eqb i c)
      (λ e. simp (e, le-ltb i n (omega (arith, eqb-true i c e)), lt-ltb i (n + 1) (omega (arith, eqb-true i c e))))
      (λ e. simp (e, ltb_step i n (λ q. eqb-false i c e (omega arith))))

  pub eliminated_row : (j : ℕ) → eliminated_to c n w m c j ≡ m c j
  unfolding eliminated_to
  eliminated_row j = by (ltb c n) (λ e. simp (e, eq-eqb c c refl)) (λ e. simp e)

  pub eliminated_next : (j : ℕ) → eliminated_to c n w m n j ≡ m n j
  unfolding eliminated_to
  eliminated_next j = simp (le-ltb n n (omega arith))

  pub eliminated_at : (n ≡ c → ⊥) → (j : ℕ) → cond (ltb j w) (m n j ⊖ m n c ⊘ m c c ⊗ m c j) (m n j) ≡ eliminated_to c (n + 1) w m n j
  unfolding eliminated_to
  eliminated_at h j = simp (lt-ltb n (n + 1) (omega arith), ne_eqb n c h)

  pub eliminated_else : (i j : ℕ) → (i ≡ n → ⊥) → eliminated_to c n w m i j ≡ eliminated_to c (n + 1) w m i j
  unfolding eliminated_to
  eliminated_else i j h = simp (ltb_step i n h)

  -- row n is reduced, in a matrix x that is this one
  pub eliminated_more : (x : Matrix) → (n ≡ c → ⊥) → c < 15 → n < 15 → ((i j : ℕ) → i < 15 → j < 16 → x i j ≡ eliminated_to c n w m i j) →
      (i j : ℕ) → i < 15 → j < 16 → reduced_to c n w x i j ≡ eliminated_to c (n + 1) w m i j
  unfolding reduced_to
  eliminated_more x h hc hn e i j a b =
      by (eqb i n)
      (λ t. let q : i ≡ n = eqb-true i n t in
      simp (
        t,
        e i j a b ∙ ap (λ (r : ℕ). eliminated_to c n w m r j) q ∙ eliminated_next j,
        e i c a (omega arith) ∙ ap (λ (r : ℕ). eliminated_to c n w m r c) q ∙ eliminated_next c,
        e c c hc (omega arith) ∙ eliminated_row c,
        e c j hc b ∙ eliminated_row j,
      )
      (eliminated_at h j ∙ ap (λ (r : ℕ). eliminated_to c (n + 1) w m r j) (sym q)))
      (λ t. simp t (e i j a b ∙ eliminated_else i j (eqb-false i n t)))

-- ---- a matrix filled place by place

-- m below row i, and in row i below column j, up to column w; elsewhere m₀
unfoldable pub filled : ℕ → ℕ → ℕ → Matrix → Matrix → Matrix
filled i w j m m₀ i' j' = cond (ltb i' i) (cond (ltb j' w) (m i' j') (m₀ i' j')) (cond (eqb i' i) (cond (ltb j' j) (m i' j') (m₀ i' j')) (m₀ i' j'))

module _ (i w j : ℕ) (m m₀ : Matrix) where
  pub filled_none : (i' j' : ℕ) → m₀ i' j' ≡ filled 0 w 0 m m₀ i' j'
  unfolding filled
  filled_none i' j' = by (eqb i' 0) (λ e. simp (e, le-ltb i' 0 (omega arith), le-ltb j' 0 (omega arith))) (λ e. simp (e, le-ltb i' 0 (omega arith)))

  pub filled_at : m i j ≡ filled i w (j + 1) m m₀ i j
  unfolding filled
  filled_at = simp (le-ltb i i (omega arith), eq-eqb i i refl, lt-ltb j (j + 1) (omega arith))

  pub filled_more : (i' j' : ℕ) → (i' ≡ i → j' ≡ j → ⊥) → filled i w j m m₀ i' j' ≡ filled i w (j + 1) m m₀ i' j'
  unfolding filled
  filled_more i' j' h = by (eqb i' i) (λ e. simp (e, ltb_step j' j (h (eqb-true i' i e)))) (λ e. simp e)

  pub filled_row : (i' j' : ℕ) → filled i w w m m₀ i' j' ≡ filled (i + 1) w 0 m m₀ i' j'
  unfolding filled
  filled_row i' j' =
      by (eqb i' i)
      (λ e. let q : i' ≡ i = eqb-true i' i e in simp (e, le-ltb i' i (omega arith), lt-ltb i' (i + 1) (omega arith)))
      (λ e. by (ltb i' i)
      (λ t. simp (t, lt-ltb i' (i + 1) (omega (arith, ltb-true i' i t))))
      (λ t. let b : i + 1 ≤ i' = omega (arith, ltb-false i' i t, eqb-false i' i e) in
      by (eqb i' (i + 1)) (λ u. simp (e, t, u, le-ltb i' (i + 1) b, le-ltb j' 0 (omega arith))) (λ u. simp (e, t, u, le-ltb i' (i + 1) b))))

-- ---- one row more for the largest

pub largest_none : (m : Matrix) (c : ℕ) → c ≡ largest m c (c + 1 - (c + 1))
unfolding largest
largest_none m c =
    let e : c + 1 - (c + 1) ≡ 0 = omega arith in
    sym (ap (largest m c) e)

pub largest_more : (m : Matrix) (c i : ℕ) → c < i →
    cond (reaches (magnitude (m i c)) (magnitude (m (largest m c (i - (c + 1))) c))) i (largest m c (i - (c + 1))) ≡ largest m c (i + 1 - (c + 1))
unfolding largest
largest_more m c i h =
    let n = i - (c + 1) in
    let e : i + 1 - (c + 1) ≡ suc n = omega arith in
    let e' : c + suc n ≡ i = omega arith in
    sym (ap (largest m c) e ∙ ap (λ (r : ℕ). cond (reaches (magnitude (m r c)) (magnitude (m (largest m c n) c))) r (largest m c n)) e')

-- ---- a list filled from the front

pub row_more : (s : List Float) (f : ℕ → Float) (i : ℕ) (v : Float) → take i s ≡ row f i → i < length s → v ≡ f i → take (i + 1) (set s i v) ≡ row f (i + 1)
unfolding row
row_more s f i v h b e = rw add-one (take-suc-set s i v b ∙ simp (h, e))

pub row_whole : (s : List Float) (f : ℕ → Float) (i n : ℕ) → take i s ≡ row f i → i ≡ n → length s ≡ n → s ≡ row f n
row_whole s f i n h e l = sym (take_all i s (omega arith)) ∙ h ∙ ap (row f) e

-- ---- one column more

module _ (p : ℕ) (l : List Float) (c : ℕ) (a : List Float) (q : ℕ) (ha : a ≡ stage_in p l c) (hq : q ≡ largest (view a) c (p - (c + 1))) where
  row_is : q ≡ pivot_row_in p c (stage_in p l c)
  unfolding pivot_row_in
  row_is = hq ∙ ap (λ (x : List Float). largest (view x) c (p - (c + 1))) ha

  pub stage_more : (s e : List Float) → s ≡ flatten (swapped_to c q (p + 1) (view a)) → e ≡ flatten (eliminated_to c p (p + 1) (view s)) → e ≡ stage_in p l (c + 1)
  unfolding stage_in turn_in
  stage_more s e hs he = rw add-one (he ∙ simp (hs, row_is, ha))

  pub singular_is : (b : Bool) → b ≡ too_small (get_or a (q * 16 + c) nan) → b ≡ singular_in p l c
  unfolding singular_in
  singular_is b hb = hb ∙ simp (row_is, ha)

pub fine_more : (p : ℕ) (l : List Float) (c : ℕ) → fine_in p l c ≡ true → singular_in p l c ≡ false → fine_in p l (c + 1) ≡ true
unfolding fine_in
fine_more p l c f s = rw add-one (simp (f, s))

pub fine_not : (p : ℕ) (l : List Float) (c n : ℕ) → c < n → singular_in p l c ≡ true → fine_in p l n ≡ false
unfolding fine_in
fine_not p l c zero h s = absurd (omega arith)
fine_not p l c (suc n) h s =
    by (eqb c n)
    (λ e. let q : singular_in p l n ≡ true = rw (eqb-true c n e) at s in
    by (fine_in p l n) (λ t. simp (t, q)) (λ t. simp t))
    (λ e. simp (fine_not p l c n (omega (arith, eqb-false c n e)) s))

-- an element of a flat list of n rows of p, and the row's end
pub row_end : (r n p : ℕ) → r < n → r * p + p ≤ n * p
row_end r n p a = omega (arith, mul-le-mul_right p a, suc-mul r p)

-- all places filled, over +0.0
pub filled_all : (rows y : List Float) (p : ℕ) (l l₀ : List Float) → l₀ ≡ replicate 240 zero64 → Holds l (filled p (p + 1) 0 (normal_at rows y p) (view l₀)) → l ≡ equations rows y p
unfolding equations augmented filled
filled_all rows y p l l₀ e h =
    whole l (augmented p (normal_at rows y p)) (holds_same l _ _ h (λ i j a b.
    let z : get_or l₀ (i * 16 + j) nan ≡ zero64 = ap (λ (x : List Float). get_or x (i * 16 + j) nan) e ∙ get_or-replicate 240 (i * 16 + j) zero64 nan (omega arith) in
    by (ltb i p)
    (λ t. by (ltb j (p + 1)) (λ u. simp (t, u)) (λ u. simp (t, u) z))
    (λ t. by (eqb i p) (λ u. simp (t, u, le-ltb j 0 (omega arith)) z) (λ u. simp (t, u) z))))
