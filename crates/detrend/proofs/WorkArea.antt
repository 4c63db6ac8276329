-- Laws of the kernel and of the work area. Assumes nothing.
use mathlib.Core.Path.{◌≡◌, refl, sym, ap, ◌∙◌}
use mathlib.Core.List.{List, [], ◌∷◌}
use Prim.Native.Nat.{ℕ, ◌+◌, ◌-◌, ◌*◌, ◌/◌, ◌<◌, ◌≤◌}
use native.Mathlib.Omega.{arith}
use borrow.Rule.Slice.PartMut.{mid_of, put_mid, same_len_mid}
use lib.Ieee.{Float}
use lib.ListN.{length, take, drop, length-drop}
use lib.Seq.{take-take, take-append-le, drop-append-le}
use native.Mathlib.Nat.{zero-add}
use Rattle.slices.specs.Slices.{copied}
use Rattle.slices.proofs.SliceLoops.{copied_all}
use Rattle.detrend.specs.Revolutions.{removed_of}
use Rattle.detrend.specs.Work.{Removed, RemovedWithin}
use Rattle.detrend.proofs.PartsInPlace.{take_mid, mid_same, length_mid, mid_mid}
use Rattle.detrend.proofs.SplitAtNodes.{removed_length}

-- ---- the kernel

-- what is done in the first 8 n numbers is done in the whole
pub within_done : (n : ℕ) (nodes s p' : List Float) → n ≤ length s / 8 → length p' ≡ length (mid_of 0 (8 * n - 0) s) →
    Removed (length (mid_of 0 (8 * n - 0) s) / 8) nodes (mid_of 0 (8 * n - 0) s) p' → RemovedWithin n nodes s (put_mid 0 (8 * n - 0) s p')
within_done n nodes s p' h lp r =
    let k : ℕ = 8 * n - 0 in
    let p : List Float = mid_of 0 k s in
    let d : List Float = drop k s in
    let l : length p ≡ 8 * n = length_mid 0 k s (omega arith) ∙ omega arith in
    let m : length p / 8 ≡ n = omega arith in
    let here : Removed n nodes p p' = rw m at r in
    let front : take n p ≡ take n s = take-take n k s (omega arith) in
    let back : mid_of n n p ≡ mid_of n n s = mid_mid 0 k n n s (omega arith) (omega arith) ∙ ap (λ (j : ℕ). mid_of j n s) (zero-add n) in
    record {
      fits = λ _. record {
        times = take-append-le n p' d (omega arith) ∙ here.times ∙ front;
        values =
            ap (take n) (drop-append-le n p' d (omega arith)) ∙ take-append-le n (drop n p') d (omega (arith, length-drop n p'))
            ∙ here.values ∙ (λ i. removed_of nodes (front i) (back i));
      };
      small = λ k. absurd (omega arith);
    }

removed_none : (nodes ts vs : List Float) → length nodes ≤ 0 → vs ≡ removed_of nodes ts vs
unfolding removed_of
removed_none [] ts vs h = refl
removed_none (a ∷ ns) ts vs h = absurd (omega arith)

pub within_none : (n : ℕ) (nodes s : List Float) → n ≤ length s / 8 → length nodes ≤ 0 → RemovedWithin n nodes s s
within_none n nodes s h k = record {
  fits = λ _. record { times = refl; values = removed_none nodes (take n s) (mid_of n n s) k };
  small = λ _. refl;
}

pub within_small : (n : ℕ) (nodes s : List Float) → length s / 8 < n → RemovedWithin n nodes s s
within_small n nodes s h = record { fits = λ k. absurd (omega arith); small = λ _. refl }

-- ---- times and values go into the scratch, and the values come back

pub removed_in : (ts vs nodes s c1 c2 s3 v' : List Float) → length ts ≡ length vs → 8 * length vs ≤ length s →
    c1 ≡ copied ts (mid_of 0 (length ts - 0) s) →
    c2 ≡ copied vs (mid_of (length ts) (length ts + length ts - length ts) (put_mid 0 (length ts - 0) s c1)) →
    RemovedWithin (length ts) nodes (put_mid (length ts) (length ts + length ts - length ts) (put_mid 0 (length ts - 0) s c1) c2) s3 →
    v' ≡ copied (mid_of (length ts) (length ts + length ts - length ts) s3) vs → v' ≡ removed_of nodes ts vs
removed_in ts vs nodes s c1 c2 s3 v' h room e1 e2 r e3 =
    let n : ℕ = length ts in
    let z : n - 0 ≡ n = omega arith in
    let zz : n + n - n ≡ n = omega arith in
    let k1 : c1 ≡ ts = e1 ∙ copied_all ts (mid_of 0 (n - 0) s) (ap (λ (j : ℕ). length (mid_of 0 j s)) z ∙ length_mid 0 n s (omega arith)) in
    let s1 : List Float = put_mid 0 n s ts in
    let q1 : put_mid 0 (n - 0) s c1 ≡ s1 = (λ i. put_mid 0 (z i) s (k1 i)) in
    let l1 : length s1 ≡ length s = same_len_mid 0 n s ts (sym (length_mid 0 n s (omega arith))) in
    let k2 : c2 ≡ vs = e2 ∙ (λ i. copied vs (mid_of n (zz i) (q1 i))) ∙ copied_all vs (mid_of n n s1) (length_mid n n s1 (omega arith) ∙ h) in
    let s2 : List Float = put_mid n n s1 vs in
    let q2 : put_mid n (n + n - n) (put_mid 0 (n - 0) s c1) c2 ≡ s2 = (λ i. put_mid n (zz i) (q1 i) (k2 i)) in
    let l2 : length s2 ≡ length s = same_len_mid n n s1 vs (sym h ∙ sym (length_mid n n s1 (omega arith))) ∙ l1 in
    let room' : 8 * n ≤ length (put_mid n (n + n - n) (put_mid 0 (n - 0) s c1) c2) = omega (arith, ap length q2) in
    let rr = r.fits room' in
    let tt' : take n s2 ≡ ts = take_mid n n n s1 vs (omega arith) (omega arith) ∙ mid_same 0 n s ts (omega arith) refl in
    let vv : mid_of n n s2 ≡ vs = mid_same n n s1 vs (omega arith) (sym h) in
    let m : mid_of n n s3 ≡ removed_of nodes ts vs = rr.values ∙ (λ i. removed_of nodes (take n (q2 i)) (mid_of n n (q2 i))) ∙ (λ i. removed_of nodes (tt' i) (vv i)) in
    e3 ∙ ap (λ (j : ℕ). copied (mid_of n j s3) vs) zz ∙ copied_all (mid_of n n s3) vs (sym (ap length m ∙ removed_length nodes ts vs h)) ∙ m
