-- Laws of the fit of one revolution in a work area. Assumes nothing.
use mathlib.Core.Path.{◌≡◌, refl, sym, ap, ◌∙◌}
use mathlib.Core.List.{List, [], ◌∷◌}
use mathlib.Core.Bool.{Bool, true, false}
use Prim.Native.Nat.{ℕ, zero, suc, ◌+◌, ◌-◌, ◌*◌, ◌<◌, ◌≤◌}
use native.Mathlib.Nat.{zero-add}
use native.Mathlib.Omega.{arith}
use lib.Dec.{leb}
use lib.Ieee.{Float, nan}
use lib.ListN.{length, take, drop, get_or, set}
use lib.Seq.{get_or-drop, get_or-take, drop-drop, take_all}
use borrow.Rule.Slice.PartMut.{mid_of, put_mid, put_same, same_len_mid}
use Rattle.laws.specs.Floats.{◌⊖◌, ◌⊗◌}
use Rattle.laws.specs.Bools.{by}
use Rattle.std.specs.Prelude.{cond, min, Option, Some, None}
use Rattle.laws.specs.Sums.{sum_to}
use Rattle.least_squares.specs.LeastSquares.{solvable, solved, fitted}
use Rattle.least_squares.specs.Kernel.{estimate}
use Rattle.least_squares.proofs.KernelShapes.{estimate_is}
use Rattle.detrend.specs.Fit.{row_of, rows_of, fitted_by, less_fit, all_zero, revolution_of}
use Rattle.detrend.specs.Revolutions.{revolved_of}
use Rattle.detrend.specs.Work.{less_rows, Detrended}
use Rattle.detrend.proofs.PartsInPlace.{take_mid, mid_behind, mid_ahead, mid_mid, mid_same, mid_put_in, put_more, get_after, length_mid}
use Rattle.detrend.proofs.DesignRows.{length_rows}

-- ---- what an estimate says

some_says : {A : Type 0} (b : Bool) (x y : A) → cond b (Some x) None ≡ Some y → (b ≡ true) × (y ≡ x)
some_says true x y e = (refl, cc)
some_says false x y e = cc

none_says : {A : Type 0} (b : Bool) (x : A) → cond b (Some x) None ≡ None → b ≡ false
none_says true x e = cc
none_says false x e = refl

-- ---- values less what their rows give

pub length_less : (b rows vs : List Float) → length (less_rows b rows vs) ≡ length vs
unfolding less_rows
length_less b rows [] = refl
length_less b rows (v ∷ vs) = ap suc (length_less b (drop 6 rows) vs)

less_at : (b rows vs : List Float) (i : ℕ) → i < length vs → get_or (less_rows b rows vs) i nan ≡ get_or vs i nan ⊖ fitted_by b (mid_of (6 * i) 6 rows)
unfolding less_rows
less_at b rows [] i h = absurd (omega arith)
less_at b rows (v ∷ vs) zero h = refl
less_at b rows (v ∷ vs) (suc i) h =
    let z : 6 + 6 * i ≡ 6 * suc i = omega arith in
    less_at b (drop 6 rows) vs i (omega arith)
    ∙ ap (λ (l : List Float). get_or vs i nan ⊖ fitted_by b (take 6 l)) (drop-drop (6 * i) 6 rows ∙ ap (λ (j : ℕ). drop j rows) z)

-- the rows of a list of times give its fit
less_is : (b : List Float) (start period : Float) (ts vs : List Float) → length ts ≡ length vs → less_rows b (rows_of start period ts) vs ≡ less_fit b start period ts vs
unfolding less_rows less_fit rows_of row_of
less_is b start period [] [] h = refl
less_is b start period [] (v ∷ vs) h = absurd (omega arith)
less_is b start period (t ∷ ts) [] h = absurd (omega arith)
less_is b start period (t ∷ ts) (v ∷ vs) h = ap (λ (l : List Float). (v ⊖ fitted_by b (row_of start period t)) ∷ l) (less_is b start period ts vs (omega arith))

-- one row alone
pub row_fitted : (b row : List Float) (v : Float) → length row ≡ length b → v ≡ fitted row b → v ≡ fitted_by b row
unfolding fitted fitted_by
row_fitted b row v l e =
    let n : min (length row) (length b) ≡ length b = omega arith in
    e ∙ ap (sum_to (λ (j : ℕ). get_or row j nan ⊗ get_or b j nan)) n

pub less_turn : (b : List Float) (from count rows i : ℕ) (s s₀ : List Float) (v : Float) → from + count ≤ rows → rows + 6 * count ≤ length s₀ → i < count →
    s ≡ put_mid from i s₀ (take i (less_rows b (mid_of rows (6 * count) s₀) (mid_of from count s₀))) →
    v ≡ fitted_by b (mid_of (rows + 6 * i) (rows + 6 * i + 6 - (rows + 6 * i)) s) →
    set s (from + i) (get_or s (from + i) nan ⊖ v) ≡ put_mid from (i + 1) s₀ (take (i + 1) (less_rows b (mid_of rows (6 * count) s₀) (mid_of from count s₀)))
less_turn b from count rows i s s₀ v h r t inv ev =
    let w : List Float = mid_of rows (6 * count) s₀ in
    let x : List Float = mid_of from count s₀ in
    let l : List Float = less_rows b w x in
    let lx : length x ≡ count = length_mid from count s₀ (omega arith) in
    let ll : length l ≡ count = length_less b w x ∙ lx in
    let lt : length (take i l) ≡ i = length_mid 0 i l (omega arith) in
    let k : rows + 6 * i + 6 - (rows + 6 * i) ≡ 6 = omega arith in
    let row : mid_of (rows + 6 * i) (rows + 6 * i + 6 - (rows + 6 * i)) s ≡ mid_of (6 * i) 6 w =
    ap (λ (j : ℕ). mid_of (rows + 6 * i) j s) k ∙ ap (mid_of (rows + 6 * i) 6) inv
    ∙ mid_behind (rows + 6 * i) 6 from i s₀ (take i l) (omega arith) (omega arith) lt
    ∙ sym (mid_mid rows (6 * count) (6 * i) 6 s₀ (omega arith) r) in
    let old : get_or s (from + i) nan ≡ get_or x i nan =
    ap (λ (y : List Float). get_or y (from + i) nan) inv ∙ get_after from i (from + i) s₀ (take i l) nan (omega arith) (omega arith) lt
    ∙ sym (get_or-take count (drop from s₀) i nan t ∙ get_or-drop from s₀ i nan) in
    let new : get_or s (from + i) nan ⊖ v ≡ get_or l i nan = (λ j. old j ⊖ (ev ∙ ap (fitted_by b) row) j) ∙ sym (less_at b w x i (omega arith)) in
    ap (λ (y : List Float). set y (from + i) (get_or s (from + i) nan ⊖ v)) inv
    ∙ put_more from i s₀ l nan (get_or s (from + i) nan ⊖ v) (omega arith) (omega arith) new

pub less_done : (b : List Float) (from count rows i : ℕ) (s s₀ : List Float) → from + count ≤ rows → rows + 6 * count ≤ length s₀ → i ≤ count → count ≤ i →
    s ≡ put_mid from i s₀ (take i (less_rows b (mid_of rows (6 * count) s₀) (mid_of from count s₀))) →
    s ≡ put_mid from count s₀ (less_rows b (mid_of rows (6 * count) s₀) (mid_of from count s₀))
less_done b from count rows i s s₀ h r t k inv =
    let l : List Float = less_rows b (mid_of rows (6 * count) s₀) (mid_of from count s₀) in
    let e : i ≡ count = omega arith in
    let ll : length l ≡ count = length_less b (mid_of rows (6 * count) s₀) (mid_of from count s₀) ∙ length_mid from count s₀ (omega arith) in
    inv ∙ ap (λ (j : ℕ). put_mid from j s₀ (take j l)) e ∙ ap (put_mid from count s₀) (take_all count l (omega arith))

-- ---- one revolution

module _ (start period : Float) (ts vs : List Float) where
  revolution_zero : all_zero vs ≡ true → revolution_of start period ts vs ≡ vs
  unfolding revolution_of
  revolution_zero e = simp e

  revolution_none : all_zero vs ≡ false → solvable (rows_of start period ts) vs 6 ≡ false → revolution_of start period ts vs ≡ vs
  unfolding revolution_of
  revolution_none e f = simp (e, f)

  revolution_found : all_zero vs ≡ false → solvable (rows_of start period ts) vs 6 ≡ true →
      revolution_of start period ts vs ≡ less_fit (solved (rows_of start period ts) vs 6) start period ts vs
  unfolding revolution_of
  revolution_found e f = simp (e, f)

length_fit : (b : List Float) (start period : Float) (ts vs : List Float) → length ts ≡ length vs → length (less_fit b start period ts vs) ≡ length vs
unfolding less_fit
length_fit b start period [] [] h = refl
length_fit b start period [] (v ∷ vs) h = absurd (omega arith)
length_fit b start period (t ∷ ts) [] h = absurd (omega arith)
length_fit b start period (t ∷ ts) (v ∷ vs) h = ap suc (length_fit b start period ts vs (omega arith))

-- lengths stay
pub length_revolution : (start period : Float) (ts vs : List Float) → length ts ≡ length vs → length (revolution_of start period ts vs) ≡ length vs
length_revolution start period ts vs h =
    by (all_zero vs) (λ e. ap length (revolution_zero start period ts vs e))
    (λ e. by (solvable (rows_of start period ts) vs 6)
    (λ f. ap length (revolution_found start period ts vs e f) ∙ length_fit (solved (rows_of start period ts) vs 6) start period ts vs h)
    (λ f. ap length (revolution_none start period ts vs e f)))

pub length_revolved : (a b : Float) (ts vs : List Float) → length ts ≡ length vs → length (revolved_of a b ts vs) ≡ length vs
unfolding revolved_of
length_revolved a b ts vs h = by (leb 50 (length ts)) (λ e. simp e (length_revolution a (b ⊖ a) ts vs h)) (λ e. simp e)

module _ (n first count : ℕ) (start period : Float) (s : List Float) (h : first + count ≤ n) (b : 8 * n ≤ length s) where
  abbrev Ts : List Float
  Ts = mid_of first count (take n s)

  abbrev Vs : List Float
  Vs = mid_of first count (mid_of n n s)

  times_are : mid_of first count s ≡ Ts
  times_are =
      let z : 0 + first ≡ first = zero-add first in
      sym (mid_mid 0 n first count s h (omega arith) ∙ ap (λ (j : ℕ). mid_of j count s) z)

  values_are : (x : List Float) → x ≡ mid_of (n + first) (n + first + count - (n + first)) s → x ≡ Vs
  values_are x e =
      let k : n + first + count - (n + first) ≡ count = omega arith in
      e ∙ ap (λ (j : ℕ). mid_of (n + first) j s) k ∙ sym (mid_mid n n first count s h (omega arith))

  length_times : length Ts ≡ count
  length_times = sym (ap length times_are) ∙ length_mid first count s (omega arith)

  length_values : length Vs ≡ count
  length_values = ap length (mid_mid n n first count s h (omega arith)) ∙ length_mid (n + first) count s (omega arith)

  zero_is : (z g : Bool) → z ≡ all_zero (mid_of (n + first) (n + first + count - (n + first)) s) → z ≡ g → all_zero Vs ≡ g
  zero_is z g e q = ap all_zero (sym (values_are _ refl)) ∙ sym e ∙ q

  pub part_zero : (z : Bool) → z ≡ all_zero (mid_of (n + first) (n + first + count - (n + first)) s) → z ≡ true → Detrended n first count start period s s
  part_zero z e q = record {
    times = refl;
    values = sym (ap (put_mid first count (mid_of n n s)) (revolution_zero start period Ts Vs (zero_is z true e q)) ∙ put_same first count (mid_of n n s));
  }

  module _ (s1 : List Float) (e1 : s1 ≡ put_mid (n + n) (6 * count) s (rows_of start period (mid_of first count s))) where
    abbrev rows : List Float
    rows = rows_of start period (mid_of first count s)

    length_rows' : length (rows_of start period (mid_of first count s)) ≡ 6 * count
    length_rows' = length_rows start period (mid_of first count s) ∙ ap (λ (j : ℕ). 6 * j) (length_mid first count s (omega arith))

    rows_are : mid_of (n + n) (6 * count) s1 ≡ rows_of start period Ts
    rows_are = ap (mid_of (n + n) (6 * count)) e1 ∙ mid_same (n + n) (6 * count) s rows (omega arith) length_rows' ∙ ap (rows_of start period) times_are

    rows_lent : mid_of (n + n) (n + n + 6 * count - (n + n)) s1 ≡ rows_of start period Ts
    rows_lent =
        let k : n + n + 6 * count - (n + n) ≡ 6 * count = omega arith in
        ap (λ (j : ℕ). mid_of (n + n) j s1) k ∙ rows_are

    values_stay : mid_of (n + first) count s1 ≡ Vs
    values_stay =
        ap (mid_of (n + first) count) e1 ∙ mid_ahead (n + first) count (n + n) (6 * count) s rows (omega arith) (omega arith) length_rows'
        ∙ sym (mid_mid n n first count s h (omega arith))

    values_lent : mid_of (n + first) (n + first + count - (n + first)) s1 ≡ Vs
    values_lent =
        let k : n + first + count - (n + first) ≡ count = omega arith in
        ap (λ (j : ℕ). mid_of (n + first) j s1) k ∙ values_stay

    times_stay : take n s1 ≡ take n s
    times_stay = ap (take n) e1 ∙ take_mid n (n + n) (6 * count) s rows (omega arith) (omega arith)

    all_stay : mid_of n n s1 ≡ mid_of n n s
    all_stay = ap (mid_of n n) e1 ∙ mid_ahead n n (n + n) (6 * count) s rows (omega arith) (omega arith) length_rows'

    module _ (o : Option (List Float)) (eo : o ≡ estimate (mid_of (n + n) (n + n + 6 * count - (n + n)) s1) (mid_of (n + first) (n + first + count - (n + first)) s1) 6) where
      estimated : cond (solvable (rows_of start period Ts) Vs 6) (Some (solved (rows_of start period Ts) Vs 6)) None ≡ o
      estimated =
          sym (estimate_is (rows_of start period Ts) Vs 6 (length_rows start period Ts ∙ omega (arith, length_times, length_values)) (omega arith))
          ∙ sym (λ i. estimate (rows_lent i) (values_lent i) 6) ∙ sym eo

      pub part_none : (z : Bool) → z ≡ all_zero (mid_of (n + first) (n + first + count - (n + first)) s) → z ≡ false → o ≡ None → Detrended n first count start period s s1
      part_none z e q oq = record {
        times = times_stay;
        values = all_stay ∙ sym (ap (put_mid first count (mid_of n n s)) (revolution_none start period Ts Vs (zero_is z false e q) (none_says _ _ (estimated ∙ oq)))
            ∙ put_same first count (mid_of n n s));
      }

      pub part_found : (z : Bool) (b1 s2 : List Float) → z ≡ all_zero (mid_of (n + first) (n + first + count - (n + first)) s) → z ≡ false → o ≡ Some b1 →
          s2 ≡ put_mid (n + first) count s1 (less_rows b1 (mid_of (n + n) (6 * count) s1) (mid_of (n + first) count s1)) → Detrended n first count start period s s2
      part_found z b1 s2 e q oq es =
          let so : solvable (rows_of start period Ts) Vs 6 ≡ true = (some_says _ _ b1 (estimated ∙ oq)).0 in
          let eb1 : b1 ≡ solved (rows_of start period Ts) Vs 6 = (some_says _ _ b1 (estimated ∙ oq)).1 in
          let l : List Float = less_rows b1 (mid_of (n + n) (6 * count) s1) (mid_of (n + first) count s1) in
          let el : l ≡ less_fit (solved (rows_of start period Ts) Vs 6) start period Ts Vs =
          (λ i. less_rows (eb1 i) (rows_are i) (values_stay i)) ∙ less_is (solved (rows_of start period Ts) Vs 6) start period Ts Vs (length_times ∙ sym length_values) in
          let ll : length l ≡ count = length_less b1 (mid_of (n + n) (6 * count) s1) (mid_of (n + first) count s1) ∙ ap length values_stay ∙ length_values in
          let ls : length s1 ≡ length s = ap length e1 ∙ same_len_mid (n + n) (6 * count) s rows (length_rows' ∙ sym (length_mid (n + n) (6 * count) s (omega arith))) in
          record {
            times = ap (take n) es ∙ take_mid n (n + first) count s1 l (omega arith) (omega arith) ∙ times_stay;
            values = ap (mid_of n n) es ∙ mid_put_in n n first count s1 l h (omega arith) ll
                ∙ (λ i. put_mid first count (all_stay i) (el i))
                ∙ sym (ap (put_mid first count (mid_of n n s)) (revolution_found start period Ts Vs (zero_is z false e q) so));
          }
