-- Laws of the detrending by ranges. Assumes nothing.
use mathlib.Core.Path.{◌≡◌, refl, sym, ap, ◌∙◌}
use mathlib.Core.List.{List, [], ◌∷◌}
use mathlib.Core.Bool.{Bool, true, false, cond, not}
use Prim.Native.Nat.{ℕ, ◌+◌, ◌-◌, ◌*◌, ◌/◌, ◌<◌, ◌≤◌}
use native.Mathlib.Omega.{arith}
use lib.Dec.{leb, ltb, eqb}
use borrow.Author.Tests.{eqb-true, leb-true, ltb-true, ltb-false, not-true, not-false}
use borrow.Rule.Slice.PartMut.{mid_of, put_mid, same_len_mid}
use lib.Ieee.{Float, nan}
use lib.ListN.{length, take, drop, get_or, drop_of_length-le}
use Rattle.detrend.specs.Fit.{revolution_of}
use Rattle.detrend.specs.Revolutions.{revolutions_in, detrended_in, detrended_by, detrended_of}
use Rattle.detrend.specs.Work.{Detrended, DetrendedAll}
use Rattle.laws.specs.Loops.{head_at}
use Rattle.slices.specs.Calls.{accepted}
use Rattle.slices.specs.declared.refusal.Refusal.TheVariants.{Count, Length}
use Rattle.laws.specs.Bools.{by}
use Rattle.slices.specs.Slices.{copied}
use Rattle.slices.proofs.Calls.{cond_passes}
use Rattle.slices.proofs.SliceLoops.{copied_all}
use Rattle.detrend.specs.Ranges.{ranges_fit, range_fits}
use Rattle.detrend.specs.Calls.{detrend_refusal}
use Rattle.detrend.proofs.PartsInPlace.{take_mid, mid_same, length_mid}

ranges_end : (fs : List ℕ) (n : ℕ) → ranges_fit fs [] n ≡ true
unfolding ranges_fit
ranges_end [] n = refl
ranges_end (f ∷ fs) n = refl

ranges_are : (f : ℕ) (fs : List ℕ) (e : ℕ) (es : List ℕ) (n : ℕ) → ranges_fit (f ∷ fs) (e ∷ es) n ≡ cond (cond (leb f e) (leb e n) false) (ranges_fit fs es n) false
unfolding ranges_fit
ranges_are f fs e es n = refl

ranges_at : (fs es : List ℕ) (k n : ℕ) → k < length fs → ranges_fit (drop k fs) (drop k es) n ≡ cond (range_fits fs es k n) (ranges_fit (drop (k + 1) fs) (drop (k + 1) es) n) false
unfolding range_fits
ranges_at fs es k n h =
    by (ltb k (length es))
    (λ t. let q : k < length es = ltb-true k (length es) t in
    rw (head_at fs k 0 h, head_at es k 0 q) (ranges_are (get_or fs k 0) (drop (k + 1) fs) (get_or es k 0) (drop (k + 1) es) n ∙ sym (simp t)))
    (λ t. let q : length es ≤ k = ltb-false k (length es) t in
    ap (λ (l : List ℕ). ranges_fit (drop k fs) l n) (drop_of_length-le es q) ∙ ranges_end (drop k fs) n
    ∙ sym (simp t (ap (λ (l : List ℕ). ranges_fit (drop (k + 1) fs) l n) (drop_of_length-le es {i = k + 1} (omega arith)) ∙ ranges_end (drop (k + 1) fs) n)))

pub ranges_go : (fs es : List ℕ) (k n : ℕ) (b g : Bool) → k < length fs → b ≡ range_fits fs es k n → not b ≡ false → ranges_fit (drop k fs) (drop k es) n ≡ g
    → ranges_fit (drop (k + 1) fs) (drop (k + 1) es) n ≡ g
ranges_go fs es k n b g h e f inv = sym (ranges_at fs es k n h ∙ ap (λ (c : Bool). cond c (ranges_fit (drop (k + 1) fs) (drop (k + 1) es) n) false) (sym e ∙ not-false b f)) ∙ inv

pub ranges_stop : (fs es : List ℕ) (k n : ℕ) (b g : Bool) → k < length fs → b ≡ range_fits fs es k n → not b ≡ true → ranges_fit (drop k fs) (drop k es) n ≡ g → false ≡ g
ranges_stop fs es k n b g h e f inv = sym (ranges_at fs es k n h ∙ ap (λ (c : Bool). cond c (ranges_fit (drop (k + 1) fs) (drop (k + 1) es) n) false) (sym e ∙ not-true b f)) ∙ inv

pub ranges_done : (fs es : List ℕ) (k n : ℕ) (g : Bool) → length fs ≤ k → ranges_fit (drop k fs) (drop k es) n ≡ g → true ≡ g
unfolding ranges_fit
ranges_done fs es k n g h inv = sym (ap (λ (l : List ℕ). ranges_fit l (drop k es) n) (drop_of_length-le fs h)) ∙ inv

-- ---- one range

cond_true : (a b : Bool) → cond a b false ≡ true → (a ≡ true) × (b ≡ true)
cond_true true b h = (refl, h)
cond_true false b h = absurd (let z : ◌≡◌ {A = ℕ} 0 1 = cc in omega arith)

module _ (fs es : List ℕ) (k n : ℕ) (h : k < length fs) (l : length es ≡ length fs) (inv : ranges_fit (drop k fs) (drop k es) n ≡ true) where
  range_here : (cond (leb (get_or fs k 0) (get_or es k 0)) (leb (get_or es k 0) n) false ≡ true) × (ranges_fit (drop (k + 1) fs) (drop (k + 1) es) n ≡ true)
  range_here =
      let he : k < length es = omega arith in
      cond_true (cond (leb (get_or fs k 0) (get_or es k 0)) (leb (get_or es k 0) n) false) (ranges_fit (drop (k + 1) fs) (drop (k + 1) es) n)
      (sym (ranges_are (get_or fs k 0) (drop (k + 1) fs) (get_or es k 0) (drop (k + 1) es) n) ∙ sym (λ i. ranges_fit (head_at fs k 0 h i) (head_at es k 0 he i) n) ∙ inv)

  pub range_low : get_or fs k 0 ≤ get_or es k 0
  range_low = leb-true (get_or fs k 0) (get_or es k 0) (cond_true (leb (get_or fs k 0) (get_or es k 0)) (leb (get_or es k 0) n) range_here.0).0

  pub range_high : get_or es k 0 ≤ n
  range_high = leb-true (get_or es k 0) n (cond_true (leb (get_or fs k 0) (get_or es k 0)) (leb (get_or es k 0) n) range_here.0).1

  pub range_sum : get_or fs k 0 + (get_or es k 0 - get_or fs k 0) ≤ n
  range_sum = omega (arith, range_low, range_high)

  pub range_next : ranges_fit (drop (k + 1) fs) (drop (k + 1) es) n ≡ true
  range_next = range_here.1

detrended_are : (f e : ℕ) (fs es : List ℕ) (a p : Float) (ss ps ts vs : List Float) → detrended_of (f ∷ fs) (e ∷ es) (a ∷ ss) (p ∷ ps) ts vs ≡
    detrended_of fs es ss ps ts (put_mid f (e - f) vs (revolution_of a p (mid_of f (e - f) ts) (mid_of f (e - f) vs)))
unfolding detrended_of detrended_by detrended_in revolutions_in
detrended_are f e fs es a p ss ps ts vs = refl

detrended_none : (es : List ℕ) (ss ps ts vs : List Float) → detrended_of [] es ss ps ts vs ≡ vs
unfolding detrended_of detrended_by revolutions_in
detrended_none es ss ps ts vs = refl

pub ranges_turn : (n k : ℕ) (fs es : List ℕ) (ss ps s s₀ s' : List Float) → k < length fs →
    length es ≡ length fs → length ss ≡ length fs → length ps ≡ length fs → take n s ≡ take n s₀ →
    Detrended n (get_or fs k 0) (get_or es k 0 - get_or fs k 0) (get_or ss k nan) (get_or ps k nan) s s' →
    detrended_of (drop k fs) (drop k es) (drop k ss) (drop k ps) (take n s₀) (mid_of n n s) ≡ detrended_of fs es ss ps (take n s₀) (mid_of n n s₀) →
    detrended_of (drop (k + 1) fs) (drop (k + 1) es) (drop (k + 1) ss) (drop (k + 1) ps) (take n s₀) (mid_of n n s') ≡ detrended_of fs es ss ps (take n s₀) (mid_of n n s₀)
ranges_turn n k fs es ss ps s s₀ s' h le ls lp et d inv =
    let f : ℕ = get_or fs k 0 in
    let e : ℕ = get_or es k 0 in
    let a : Float = get_or ss k nan in
    let p : Float = get_or ps k nan in
    let he : drop k es ≡ e ∷ drop (k + 1) es = head_at es k 0 (omega arith) in
    let hs : drop k ss ≡ a ∷ drop (k + 1) ss = head_at ss k nan (omega arith) in
    let hp : drop k ps ≡ p ∷ drop (k + 1) ps = head_at ps k nan (omega arith) in
    ap (detrended_of (drop (k + 1) fs) (drop (k + 1) es) (drop (k + 1) ss) (drop (k + 1) ps) (take n s₀))
    (d.values ∙ ap (λ (t : List Float). put_mid f (e - f) (mid_of n n s) (revolution_of a p (mid_of f (e - f) t) (mid_of f (e - f) (mid_of n n s)))) et)
    ∙ sym (detrended_are f e (drop (k + 1) fs) (drop (k + 1) es) a p (drop (k + 1) ss) (drop (k + 1) ps) (take n s₀) (mid_of n n s))
    ∙ sym (λ i. detrended_of (head_at fs k 0 h i) (he i) (hs i) (hp i) (take n s₀) (mid_of n n s))
    ∙ inv

pub ranges_times : (n f c : ℕ) (a p : Float) (s s' s₀ : List Float) → Detrended n f c a p s s' → take n s ≡ take n s₀ → take n s' ≡ take n s₀
ranges_times n f c a p s s' s₀ d e = d.times ∙ e

pub ranges_all : (n k : ℕ) (fs es : List ℕ) (ss ps s s₀ : List Float) → length fs ≤ k → take n s ≡ take n s₀ →
    detrended_of (drop k fs) (drop k es) (drop k ss) (drop k ps) (take n s₀) (mid_of n n s) ≡ detrended_of fs es ss ps (take n s₀) (mid_of n n s₀) →
    DetrendedAll n fs es ss ps s₀ s
ranges_all n k fs es ss ps s s₀ h et inv = record {
  times = et;
  values =
      sym (ap (λ (l : List ℕ). detrended_of l (drop k es) (drop k ss) (drop k ps) (take n s₀) (mid_of n n s)) (drop_of_length-le fs h)
      ∙ detrended_none (drop k es) (drop k ss) (drop k ps) (take n s₀) (mid_of n n s))
      ∙ inv;
}

-- ---- the call

pub detrended_in_law : (ts vs : List Float) (fs es : List ℕ) (ss ps s c1 c2 s3 v' : List Float) → length ts ≡ length vs → length s ≡ 8 * length ts →
    c1 ≡ copied ts (mid_of 0 (length ts - 0) s) →
    c2 ≡ copied vs (mid_of (length ts) (length ts + length ts - length ts) (put_mid 0 (length ts - 0) s c1)) →
    DetrendedAll (length (put_mid (length ts) (length ts + length ts - length ts) (put_mid 0 (length ts - 0) s c1) c2) / 8) fs es ss ps
    (put_mid (length ts) (length ts + length ts - length ts) (put_mid 0 (length ts - 0) s c1) c2) s3 →
    length s3 ≡ length (put_mid (length ts) (length ts + length ts - length ts) (put_mid 0 (length ts - 0) s c1) c2) →
    v' ≡ copied (mid_of (length ts) (length ts + length ts - length ts) s3) vs → v' ≡ detrended_of fs es ss ps ts vs
detrended_in_law ts vs fs es ss ps s c1 c2 s3 v' h room e1 e2 r' l3 e3 =
    let n : ℕ = length ts in
    let whole : List Float = put_mid n (n + n - n) (put_mid 0 (n - 0) s c1) c2 in
    let z : n - 0 ≡ n = omega arith in
    let zz : n + n - n ≡ n = omega arith in
    let k1 : c1 ≡ ts = e1 ∙ copied_all ts (mid_of 0 (n - 0) s) (ap (λ (j : ℕ). length (mid_of 0 j s)) z ∙ length_mid 0 n s (omega arith)) in
    let s1 : List Float = put_mid 0 n s ts in
    let q1 : put_mid 0 (n - 0) s c1 ≡ s1 = (λ i. put_mid 0 (z i) s (k1 i)) in
    let l1 : length s1 ≡ length s = same_len_mid 0 n s ts (sym (length_mid 0 n s (omega arith))) in
    let k2 : c2 ≡ vs = e2 ∙ (λ i. copied vs (mid_of n (zz i) (q1 i))) ∙ copied_all vs (mid_of n n s1) (length_mid n n s1 (omega arith) ∙ h) in
    let s2 : List Float = put_mid n n s1 vs in
    let q2 : put_mid n (n + n - n) (put_mid 0 (n - 0) s c1) c2 ≡ s2 = (λ i. put_mid n (zz i) (q1 i) (k2 i)) in
    let l2 : length s2 ≡ length s = same_len_mid n n s1 vs (sym h ∙ sym (length_mid n n s1 (omega arith))) ∙ l1 in
    let eighth : length whole / 8 ≡ n = omega (arith, ap length q2) in
    let r : DetrendedAll n fs es ss ps whole s3 = rw eighth at r' in
    let l4 : length s3 ≡ length s = l3 ∙ ap length q2 ∙ l2 in
    let tt' : take n s2 ≡ ts = take_mid n n n s1 vs (omega arith) (omega arith) ∙ mid_same 0 n s ts (omega arith) refl in
    let vv : mid_of n n s2 ≡ vs = mid_same n n s1 vs (omega arith) (sym h) in
    let m : mid_of n n s3 ≡ detrended_of fs es ss ps ts vs = r.values ∙ (λ i. detrended_of fs es ss ps (take n (q2 i)) (mid_of n n (q2 i))) ∙ (λ i. detrended_of fs es ss ps (tt' i) (vv i)) in
    e3 ∙ ap (λ (j : ℕ). copied (mid_of n j s3) vs) zz ∙ copied_all (mid_of n n s3) vs (sym (length_mid n n s3 (omega arith) ∙ h)) ∙ m

-- what the call on the scratch asks for
pub detrend_fine : (ts vs : List Float) (fs es : List ℕ) (ss ps : List Float) (room : ℕ) → detrend_refusal ts vs fs es ss ps room ≡ accepted →
    (length ts ≡ length vs) × (8 * length vs ≤ room) × (length es ≡ length fs) × (length ss ≡ length fs) × (length ps ≡ length fs) × (ranges_fit fs es (length ts) ≡ true)
unfolding detrend_refusal
detrend_fine ts vs fs es ss ps room h =
    let a1 = cond_passes (leb (length ts) 100000) _ Count h in
    let a2 = cond_passes (leb (length ss) 63) _ Count a1.1 in
    let a3 = cond_passes (ranges_fit fs es (length ts)) _ Count a2.1 in
    let a4 = cond_passes (eqb (length vs) (length ts)) _ Length a3.1 in
    let a5 = cond_passes (eqb (length es) (length fs)) _ Length a4.1 in
    let a6 = cond_passes (eqb (length ss) (length fs)) _ Length a5.1 in
    let a7 = cond_passes (eqb (length ps) (length fs)) _ Length a6.1 in
    let a8 = cond_passes (leb (8 * length ts) room) _ Length a7.1 in
    let values : length vs ≡ length ts = eqb-true (length vs) (length ts) a4.0 in
    (sym values, rw values (leb-true (8 * length ts) room a8.0), eqb-true (length es) (length fs) a5.0, eqb-true (length ss) (length fs) a6.0, eqb-true (length ps) (length fs) a7.0, a3.0)
