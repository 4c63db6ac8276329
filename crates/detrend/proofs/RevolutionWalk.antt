-- Laws of the walk over the revolutions. Assumes nothing.
use mathlib.Core.Path.{◌≡◌, refl, sym, ap, ◌∙◌}
use mathlib.Core.List.{List, [], ◌∷◌, ◌++◌, append_assoc}
use mathlib.Core.Bool.{true, false}
use Prim.Native.Nat.{ℕ, suc, ◌+◌, ◌-◌, ◌*◌, ◌<◌, ◌≤◌}
use native.Mathlib.Nat.{zero-add}
use native.Mathlib.Omega.{arith}
use lib.Ieee.{Float, nan, lt}
use lib.ListN.{length, take, drop, get_or, drop_of_length-le}
use lib.Dec.{leb}
use borrow.Author.Tests.{le-leb, lt-leb}
use lib.Seq.{drop-drop, take_at}
use lib.ListN.{take-append-drop, length-append}
use lib.Seq.{length-take-le}
use borrow.Rule.Slice.PartMut.{mid_of, put_mid, put_same}
use Rattle.laws.specs.Floats.{◌⊖◌}
use Rattle.laws.specs.Loops.{head_at}
use Rattle.detrend.specs.Revolutions.{count_before, revolved_of, windows_of, removed_of}
use Rattle.detrend.specs.Work.{Detrended, Window, Removed}
use Rattle.detrend.proofs.PartsInPlace.{length_mid, drop_mid}
use Rattle.detrend.proofs.RevolutionFit.{length_revolved}
use Rattle.detrend.proofs.Consecutive.{windows_are}

-- ---- counting

pub count_goes : (ts : List Float) (b : Float) (i : ℕ) → i < length ts → lt (get_or ts i nan) b ≡ true → count_before b (drop i ts) ≡ suc (count_before b (drop (i + 1) ts))
unfolding count_before
count_goes ts b i h e = rw (head_at ts i nan h, e)

pub count_stops : (ts : List Float) (b : Float) (i : ℕ) → i < length ts → lt (get_or ts i nan) b ≡ false → count_before b (drop i ts) ≡ 0
unfolding count_before
count_stops ts b i h e = rw (head_at ts i nan h, e)

pub count_done : (ts : List Float) (b : Float) (i : ℕ) → length ts ≤ i → count_before b (drop i ts) ≡ 0
unfolding count_before
count_done ts b i h = ap (count_before b) (drop_of_length-le ts h)

-- ---- one revolution

module _ (n first : ℕ) (a b : Float) (s : List Float) (r : ℕ) (h : first ≤ n) (room : 8 * n ≤ length s)
    (er : r ≡ first + count_before b (drop first (mid_of 0 (n - 0) s))) (l : first ≤ r) (i : r ≤ length (mid_of 0 (n - 0) s)) where
  whole_is : mid_of 0 (n - 0) s ≡ take n s
  whole_is = let z : n - 0 ≡ n = omega arith in ap (λ (j : ℕ). mid_of 0 j s) z

  length_whole : length (take n s) ≡ n
  length_whole = length_mid 0 n s (omega arith)

  inside_is : r ≤ n
  inside_is = omega (arith, ap length whole_is, length_whole)

  ends_are : r ≡ first + count_before b (drop first (take n s))
  ends_are = er ∙ ap (λ (x : List Float). first + count_before b (drop first x)) whole_is

  epochs_are : length (mid_of first (r - first) (take n s)) ≡ r - first
  epochs_are = length_mid first (r - first) (take n s) (omega (arith, length_whole, inside_is))

  pub window_long : (s' : List Float) → 50 ≤ r - first → Detrended n first (r - first) a (b ⊖ a) s s' → Window n first a b s r s'
  unfolding revolved_of
  window_long s' q d =
      let e : leb 50 (length (mid_of first (r - first) (take n s))) ≡ true = le-leb 50 (length (mid_of first (r - first) (take n s))) (rw epochs_are q) in
      record {
        ends = ends_are;
        later = l;
        inside = inside_is;
        times = d.times;
        values = simp e d.values;
      }

  pub window_short : r - first < 50 → Window n first a b s r s
  unfolding revolved_of
  window_short q =
      let e : leb 50 (length (mid_of first (r - first) (take n s))) ≡ false = lt-leb 50 (length (mid_of first (r - first) (take n s))) (rw epochs_are q) in
      record {
        ends = ends_are;
        later = l;
        inside = inside_is;
        times = refl;
        values = simp e (sym (put_same first (r - first) (mid_of n n s)));
      }

-- ---- all of them

pub removed_starts : (n first : ℕ) (nodes s : List Float) → 0 < length nodes → first ≡ 0 + count_before (get_or nodes 0 nan) (drop 0 (mid_of 0 (n - 0) s)) →
    take first (mid_of n n s) ++ windows_of (get_or nodes (1 - 1) nan) (drop 1 nodes) (drop first (take n s)) (drop first (mid_of n n s)) ≡ removed_of nodes (take n s) (mid_of n n s)
unfolding removed_of
removed_starts n first [] s h e = absurd (omega arith)
removed_starts n first (a ∷ ns) s h e =
    let z : n - 0 ≡ n = omega arith in
    let q : first ≡ count_before a (take n s) = e ∙ ap (λ (j : ℕ). 0 + count_before a (take j s)) z ∙ zero-add (count_before a (take n s)) in
    ap (λ (j : ℕ). take j (mid_of n n s) ++ windows_of a ns (drop j (take n s)) (drop j (mid_of n n s))) q

pub removed_turn : (n first k r : ℕ) (nodes s s₀ s' : List Float) → k < length nodes → 8 * n ≤ length s₀ → first ≤ n → length s ≡ length s₀ → take n s ≡ take n s₀ →
    Window n first (get_or nodes (k - 1) nan) (get_or nodes k nan) s r s' →
    take first (mid_of n n s) ++ windows_of (get_or nodes (k - 1) nan) (drop k nodes) (drop first (take n s₀)) (drop first (mid_of n n s)) ≡ removed_of nodes (take n s₀) (mid_of n n s₀) →
    take r (mid_of n n s') ++ windows_of (get_or nodes (k + 1 - 1) nan) (drop (k + 1) nodes) (drop r (take n s₀)) (drop r (mid_of n n s')) ≡ removed_of nodes (take n s₀) (mid_of n n s₀)
removed_turn n first k r nodes s s₀ s' hk room hf ls et w inv =
    let a : Float = get_or nodes (k - 1) nan in
    let b : Float = get_or nodes k nan in
    let ns : List Float = drop (k + 1) nodes in
    let ts : List Float = take n s in
    let vs : List Float = mid_of n n s in
    let c : ℕ = r - first in
    let x : List Float = revolved_of a b (mid_of first c ts) (mid_of first c vs) in
    let lts : length ts ≡ n = length_mid 0 n s (omega arith) in
    let lvs : length vs ≡ n = length_mid n n s (omega arith) in
    let lr : first ≤ r = w.later in
    let lc : first + c ≤ n = omega (arith, w.inside, w.later) in
    let lx : length x ≡ c =
    length_revolved a b (mid_of first c ts) (mid_of first c vs) (length_mid first c ts (omega arith) ∙ sym (length_mid first c vs (omega arith))) ∙ length_mid first c vs (omega arith) in
    let ec : c ≡ count_before b (drop first ts) = omega (arith, w.ends) in
    let er : first + c ≡ r = omega arith in
    let z : k + 1 - 1 ≡ k = omega arith in
    let v' : mid_of n n s' ≡ put_mid first c vs x = w.values in
    let front : length (take first vs ++ x) ≡ r = length-append (take first vs) x ∙ rw (length-take-le first vs (omega arith), lx) er in
    let done : take r (mid_of n n s') ≡ take first vs ++ x =
    ap (take r) (v' ∙ sym (append_assoc (take first vs) x (drop c (drop first vs)))) ∙ take_at (take first vs ++ x) (drop c (drop first vs)) r front in
    let left : drop r (mid_of n n s') ≡ drop r vs = ap (drop r) v' ∙ drop_mid r first c vs x (omega arith) (omega arith) lx in
    let goes : windows_of a (drop k nodes) (drop first ts) (drop first vs) ≡ x ++ windows_of b ns (drop r ts) (drop r vs) =
    ap (λ (y : List Float). windows_of a y (drop first ts) (drop first vs)) (head_at nodes k nan hk)
    ∙ windows_are a b ns (drop first ts) (drop first vs) c ec
    ∙ ap (λ (y : List Float). x ++ windows_of b ns y (drop c (drop first vs))) (drop-drop c first ts ∙ ap (λ (j : ℕ). drop j ts) er)
    ∙ ap (λ (y : List Float). x ++ windows_of b ns (drop r ts) y) (drop-drop c first vs ∙ ap (λ (j : ℕ). drop j vs) er) in
    ap (λ (j : ℕ). take r (mid_of n n s') ++ windows_of (get_or nodes j nan) ns (drop r (take n s₀)) (drop r (mid_of n n s'))) z
    ∙ (λ i. done i ++ windows_of b ns (drop r (sym et i)) (left i))
    ∙ append_assoc (take first vs) x (windows_of b ns (drop r ts) (drop r vs))
    ∙ ap (λ (y : List Float). take first vs ++ y) (sym goes)
    ∙ ap (λ (y : List Float). take first vs ++ windows_of a (drop k nodes) (drop first y) (drop first vs)) et
    ∙ inv

windows_end : (a : Float) (ts vs : List Float) → windows_of a [] ts vs ≡ vs
unfolding windows_of
windows_end a ts vs = refl

pub removed_done : (n first k : ℕ) (nodes s s₀ : List Float) → length nodes ≤ k → take n s ≡ take n s₀ →
    take first (mid_of n n s) ++ windows_of (get_or nodes (k - 1) nan) (drop k nodes) (drop first (take n s₀)) (drop first (mid_of n n s)) ≡ removed_of nodes (take n s₀) (mid_of n n s₀) →
    Removed n nodes s₀ s
removed_done n first k nodes s s₀ hk et inv =
    let vs : List Float = mid_of n n s in
    record {
      times = et;
      values =
          sym (ap (λ (y : List Float). take first vs ++ windows_of (get_or nodes (k - 1) nan) y (drop first (take n s₀)) (drop first vs)) (drop_of_length-le nodes hk)
          ∙ ap (λ (y : List Float). take first vs ++ y) (windows_end (get_or nodes (k - 1) nan) (drop first (take n s₀)) (drop first vs))
          ∙ take-append-drop first vs)
          ∙ inv;
    }

pub starts_inside : (n first : ℕ) (s : List Float) → 8 * n ≤ length s → first ≤ length (mid_of 0 (n - 0) s) → first ≤ n
starts_inside n first s room h =
    let z : n - 0 ≡ n = omega arith in
    omega (arith, ap (λ (j : ℕ). length (take j s)) z, length_mid 0 n s (omega arith))
