-- Laws of the listing of revolutions in lent lists. Assumes nothing.
use mathlib.Core.Path.{◌≡◌, refl, sym, ap, ◌∙◌, subst}
use mathlib.Core.List.{List, [], ◌∷◌, ◌++◌, map, append_assoc, append-nil}
use mathlib.Core.Bool.{Bool, true, false, cond}
use Prim.Native.Nat.{ℕ, zero, suc, ◌+◌, ◌-◌, ◌<◌, ◌≤◌}
use native.Mathlib.Numerals.{add-one}
use native.Mathlib.Omega.{arith}
use lib.Dec.{T, leb, eqb}
use lib.Ieee.{Float, nan, lt}
use lib.Ieee.Bits.{is_true}
use lib.ListN.{length, take, drop, get_or, set, replicate, length-set, length-map, take-append-drop}
use lib.Seq.{drop-set-lt, length-take-le}
use borrow.Author.Tests.{le-leb, lt-leb, eqb-true}
use Rattle.std.specs.List.{list_all}
use Rattle.laws.specs.Checks.{is_time, rising}
use Rattle.laws.specs.Floats.{◌⊖◌, zero64}
use Rattle.laws.specs.Loops.{head_at, take_set, filled_up}
use Rattle.laws.specs.Order.{lt_tr}
use Rattle.laws.specs.Bools.{left_true, right_true}
use Rattle.slices.proofs.Calls.{cond_passes}
use Rattle.std.specs.List.Sorted.{IsPartitionedBy, IsPartitionPoint}
use Rattle.laws.specs.Signed.{lt_or_ge}
use Rattle.std.proofs.lemmas.List.{get_or_default}
use Rattle.std.proofs.Common.{inl, inr, ◌⊎◌}
use Rattle.slices.specs.Calls.{accepted}
use Rattle.slices.specs.declared.refusal.Refusal.TheVariants.{Count, Length, Value, Order}
use Rattle.detrend.proofs.Consecutive.{count_le}
use Rattle.detrend.specs.Revolutions.{count_before, Revolution, revolutions_of}
use Rattle.detrend.specs.Calls.{revolutions_refusal, Listed}

-- ---- counting the times before b of a rising list, by halving

head_before : (b t : Float) (ts : List Float) (m : ℕ) → m < count_before b (t ∷ ts) → T (lt t b)
unfolding count_before
head_before b t ts m h = go (lt t b) h
  where
    go : (c : Bool) → m < cond c (suc (count_before b ts)) 0 → T c
    go true h = tt
    go false h = absurd (omega arith)

count_more : (b t : Float) (ts : List Float) → T (lt t b) → count_before b (t ∷ ts) ≡ suc (count_before b ts)
unfolding count_before
count_more b t ts h = ap (λ (c : Bool). cond c (suc (count_before b ts)) 0) (is_true (lt t b) h)

-- a time before b counts, and so do all before it
count_past : (b : Float) (ts : List Float) (m : ℕ) → m < length ts → rising ts ≡ true → lt (get_or ts m nan) b ≡ true → m < count_before b ts
count_past b [] m h r e = absurd (omega arith)
count_past b (t ∷ ts) zero h r e = omega (arith, count_more b t ts (subst T (sym e) tt))
count_past b (t ∷ []) (suc m) h r e = absurd (omega arith)
count_past b (t ∷ u ∷ ts) (suc m) h r e =
    let later : m < count_before b (u ∷ ts) = count_past b (u ∷ ts) m (omega arith) (right_true (lt t u) (rising (u ∷ ts)) r) e in
    let tu : T (lt t u) = subst T (sym (left_true (lt t u) (rising (u ∷ ts)) r)) tt in
    omega (arith, later, count_more b t (u ∷ ts) (lt_tr t u b tu (head_before b u ts m later)))

-- a time from b on ends the count
count_short : (b : Float) (ts : List Float) (m : ℕ) → m < length ts → lt (get_or ts m nan) b ≡ false → count_before b ts ≤ m
unfolding count_before
count_short b [] m h e = absurd (omega arith)
count_short b (t ∷ ts) zero h e = go (lt t b) e
  where
    go : (c : Bool) → c ≡ false → cond c (suc (count_before b ts)) 0 ≤ 0
    go true q = absurd (let z : ◌≡◌ {A = ℕ} 0 1 = cc in omega arith)
    go false q = omega arith
count_short b (t ∷ ts) (suc m) h e = go (lt t b) (count_short b ts m (omega arith) e)
  where
    go : (c : Bool) → count_before b ts ≤ m → cond c (suc (count_before b ts)) 0 ≤ suc m
    go true q = omega arith
    go false q = omega arith

-- each that counts lies before b
counted : (b : Float) (ts : List Float) (m : ℕ) (d : Float) → m < count_before b ts → lt (get_or ts m d) b ≡ true
counted b [] m d h = absurd (omega (arith, count_le b []))
counted b (t ∷ ts) zero d h = is_true (lt t b) (head_before b t ts zero h)
counted b (t ∷ ts) (suc m) d h = counted b ts m d (omega (arith, count_more b t ts (head_before b t ts (suc m) h)))

-- the times before b stand in front
pub in_front : (b : Float) (ts : List Float) → rising ts ≡ true → IsPartitionedBy (λ (t : Float). lt t b) ts
in_front b ts r i j d h l e = counted b ts i d (omega (arith, count_past b ts j l r (ap (λ (t : Float). lt t b) (get_or_default ts j nan d l) ∙ e)))

pub divided : (b : Float) (ts : List Float) (m : ℕ) → rising ts ≡ true → m ≤ length ts → IsPartitionPoint (λ (t : Float). lt t b ≡ true) (λ (t : Float). lt t b ≡ false) ts m
    → m ≡ count_before b ts
divided b ts m r h (front, back) = squeezed (least m h front) (most (lt_or_ge m (length ts)))
  where
    squeezed : m ≤ count_before b ts → count_before b ts ≤ m → m ≡ count_before b ts
    squeezed l k = omega arith

    least : (n : ℕ) → n ≤ length ts → ((k : ℕ) (d : Float) → 0 ≤ k → k < n → lt (get_or ts k d) b ≡ true) → n ≤ count_before b ts
    least zero l f = omega arith
    least (suc n) l f = omega (arith, count_past b ts n (omega arith) r (f n nan (omega arith) (omega arith)))

    most : (m < length ts) ⊎ (length ts ≤ m) → count_before b ts ≤ m
    most (inr l) = omega (arith, count_le b ts)
    most (inl l) = count_short b ts m l (back m nan (omega arith) l)

-- ---- a list filled from its front: count places hold what was written, `rest` is to come, and nothing else stands behind

pub record Filled {A : Type 0} (nil : A) (count : ℕ) (rest goal out : List A) : Type 0 where
  pub front : take count out ++ rest ≡ goal
  pub back : drop count out ≡ replicate (length out - count) nil

pub filled_none : {A : Type 0} (nil : A) (places : ℕ) (goal out : List A) → out ≡ replicate places nil → length out ≡ places → Filled nil 0 goal goal out
filled_none {A = A} nil places goal out e l =
    let z : length out - 0 ≡ places = omega arith in
    record { front = refl; back = e ∙ sym (ap (λ (k : ℕ). replicate k nil) z) }

pub filled_turn : {A : Type 0} (nil x : A) (count : ℕ) (rest goal out : List A) → count < length out → Filled nil count (x ∷ rest) goal out →
    Filled nil (count + 1) rest goal (set out count x)
filled_turn {A = A} nil x count rest goal out h f =
    let z : length out - count ≡ suc (length out - (count + 1)) = omega arith in
    let back' : nil ∷ replicate (length out - (count + 1)) nil ≡ get_or out count nil ∷ drop (count + 1) out =
    sym (ap (λ (k : ℕ). replicate k nil) z) ∙ sym f.back ∙ head_at out count nil h in
    record {
      front = ap (λ (l : List A). l ++ rest) (take_set out count x h) ∙ append_assoc (take count out) (x ∷ []) rest ∙ f.front;
      back =
          ap (λ (k : ℕ). drop k (set out count x)) (add-one count) ∙ drop-set-lt (suc count) out count x (omega arith)
          ∙ ap (λ (k : ℕ). drop k out) (sym (add-one count))
          ∙ sym (ap tail back') ∙ sym (ap (λ (k : ℕ). replicate (k - (count + 1)) nil) (length-set out count x));
    }
  where
    tail : List A → List A
    tail [] = []
    tail (y ∷ ys) = ys

pub filled_all : {A : Type 0} (nil : A) (count places : ℕ) (goal out : List A) → length out ≡ places → count ≤ places → Filled nil count [] goal out →
    (count ≡ length goal) × (out ≡ filled_up nil places goal)
filled_all {A = A} nil count places goal out l h f =
    let g : take count out ≡ goal = sym (append-nil (take count out)) ∙ f.front in
    let e : count ≡ length goal = sym (length-take-le count out (omega arith)) ∙ ap length g in
    (e, sym (take-append-drop count out) ∙ (λ i. g i ++ (f.back ∙ (λ j. replicate (l j - e j) nil)) i))

-- ---- one pair of nodes

module _ (ts ns : List Float) (k : ℕ) (h : k + 1 < length ns) where
  abbrev Here : Float
  Here = get_or ns k nan

  abbrev Next : Float
  Next = get_or ns (k + 1) nan

  pair_is : revolutions_of ts (drop k ns) ≡
      cond (leb 50 (count_before Next ts - count_before Here ts))
      (record { first = count_before Here ts; end = count_before Next ts; start = Here; period = Next ⊖ Here } ∷ revolutions_of ts (drop (k + 1) ns))
      (revolutions_of ts (drop (k + 1) ns))
  unfolding revolutions_of
  pair_is =
      let later : drop (k + 1) ns ≡ Next ∷ drop (k + 1 + 1) ns = head_at ns (k + 1) nan h in
      rw (head_at ns k nan (omega arith), later)

  module _ (first end : ℕ) (ef : first ≡ count_before Here ts) (ee : end ≡ count_before Next ts) where
    pub pair_long : first + 50 ≤ end →
        revolutions_of ts (drop k ns) ≡ record { first = first; end = end; start = Here; period = Next ⊖ Here } ∷ revolutions_of ts (drop (k + 1) ns)
    pair_long q =
        let e : leb 50 (count_before Next ts - count_before Here ts) ≡ true = le-leb 50 (count_before Next ts - count_before Here ts) (omega arith) in
        pair_is ∙ rw e (λ i. record { first = sym ef i; end = sym ee i; start = Here; period = Next ⊖ Here } ∷ revolutions_of ts (drop (k + 1) ns))

    pub pair_short : end < first + 50 → revolutions_of ts (drop k ns) ≡ revolutions_of ts (drop (k + 1) ns)
    pair_short q =
        let e : leb 50 (count_before Next ts - count_before Here ts) ≡ false = lt-leb 50 (count_before Next ts - count_before Here ts) (omega arith) in
        pair_is ∙ rw e

-- ---- the four lists

-- of the nodes from k on, the revolutions are still to come
pub record Listing (ts ns : List Float) (k count : ℕ) (fs es : List ℕ) (ss ps : List Float) : Type 0 where
  pub firsts : Filled 0 count (map (λ (r : Revolution). r.first) (revolutions_of ts (drop k ns))) (map (λ (r : Revolution). r.first) (revolutions_of ts ns)) fs
  pub ends : Filled 0 count (map (λ (r : Revolution). r.end) (revolutions_of ts (drop k ns))) (map (λ (r : Revolution). r.end) (revolutions_of ts ns)) es
  pub starts : Filled zero64 count (map (λ (r : Revolution). r.start) (revolutions_of ts (drop k ns))) (map (λ (r : Revolution). r.start) (revolutions_of ts ns)) ss
  pub periods : Filled zero64 count (map (λ (r : Revolution). r.period) (revolutions_of ts (drop k ns))) (map (λ (r : Revolution). r.period) (revolutions_of ts ns)) ps
  pub few : count ≤ k
  pub firsts_are : length fs ≡ length ns - 1
  pub ends_are : length es ≡ length ns - 1
  pub starts_are : length ss ≡ length ns - 1
  pub periods_are : length ps ≡ length ns - 1

retold : {A : Type 0} (nil : A) (count : ℕ) (rest rest' goal out : List A) → rest ≡ rest' → Filled nil count rest goal out → Filled nil count rest' goal out
retold {A = A} nil count rest rest' goal out e f = record { front = ap (λ (l : List A). take count out ++ l) (sym e) ∙ f.front; back = f.back }

pub listing_long : (ts ns : List Float) (k count first end : ℕ) (fs es : List ℕ) (ss ps : List Float) → k + 1 < length ns → Listing ts ns k count fs es ss ps →
    first ≡ count_before (get_or ns k nan) ts → end ≡ count_before (get_or ns (k + 1) nan) ts → first + 50 ≤ end →
    Listing ts ns (k + 1) (count + 1) (set fs count first) (set es count end) (set ss count (get_or ns k nan)) (set ps count (get_or ns (k + 1) nan ⊖ get_or ns k nan))
listing_long ts ns k count first end fs es ss ps h l ef ee q =
    let e = pair_long ts ns k h first end ef ee q in
    let few' : count ≤ k = l.few in
    record {
      firsts = filled_turn 0 first count _ _ fs (omega (arith, l.firsts_are)) (retold 0 count _ _ _ fs (ap (map (λ (r : Revolution). r.first)) e) l.firsts);
      ends = filled_turn 0 end count _ _ es (omega (arith, l.ends_are)) (retold 0 count _ _ _ es (ap (map (λ (r : Revolution). r.end)) e) l.ends);
      starts = filled_turn zero64 (get_or ns k nan) count _ _ ss (omega (arith, l.starts_are)) (retold zero64 count _ _ _ ss (ap (map (λ (r : Revolution). r.start)) e) l.starts);
      periods = filled_turn zero64 (get_or ns (k + 1) nan ⊖ get_or ns k nan) count _ _ ps (omega (arith, l.periods_are))
          (retold zero64 count _ _ _ ps (ap (map (λ (r : Revolution). r.period)) e) l.periods);
      few = omega arith;
      firsts_are = length-set fs count first ∙ l.firsts_are;
      ends_are = length-set es count end ∙ l.ends_are;
      starts_are = length-set ss count (get_or ns k nan) ∙ l.starts_are;
      periods_are = length-set ps count (get_or ns (k + 1) nan ⊖ get_or ns k nan) ∙ l.periods_are;
    }

pub listing_short : (ts ns : List Float) (k count first end : ℕ) (fs es : List ℕ) (ss ps : List Float) → k + 1 < length ns → Listing ts ns k count fs es ss ps →
    first ≡ count_before (get_or ns k nan) ts → end ≡ count_before (get_or ns (k + 1) nan) ts → end < first + 50 → Listing ts ns (k + 1) count fs es ss ps
listing_short ts ns k count first end fs es ss ps h l ef ee q =
    let e = pair_short ts ns k h first end ef ee q in
    let few' : count ≤ k = l.few in
    record {
      firsts = retold 0 count _ _ _ fs (ap (map (λ (r : Revolution). r.first)) e) l.firsts;
      ends = retold 0 count _ _ _ es (ap (map (λ (r : Revolution). r.end)) e) l.ends;
      starts = retold zero64 count _ _ _ ss (ap (map (λ (r : Revolution). r.start)) e) l.starts;
      periods = retold zero64 count _ _ _ ps (ap (map (λ (r : Revolution). r.period)) e) l.periods;
      few = omega arith;
      firsts_are = l.firsts_are;
      ends_are = l.ends_are;
      starts_are = l.starts_are;
      periods_are = l.periods_are;
    }

none_left : (ts ns : List Float) (k : ℕ) → length ns ≤ k + 1 → revolutions_of ts (drop k ns) ≡ []
unfolding revolutions_of
none_left ts [] zero h = refl
none_left ts [] (suc k) h = refl
none_left ts (a ∷ []) zero h = refl
none_left ts (a ∷ b ∷ ns) zero h = absurd (omega arith)
none_left ts (a ∷ ns) (suc k) h = none_left ts ns k (omega arith)

pub listing_done : (ts ns : List Float) (k count : ℕ) (fs es : List ℕ) (ss ps : List Float) → length ns ≤ k + 1 → k ≤ length ns - 1 →
    Listing ts ns k count fs es ss ps → Listed ts ns count fs es ss ps
listing_done ts ns k count fs es ss ps h q l =
    let e = none_left ts ns k h in
    let few' : count ≤ length ns - 1 = omega (arith, l.few) in
    let f = filled_all 0 count (length ns - 1) _ fs l.firsts_are few' (retold 0 count _ _ _ fs (ap (map (λ (r : Revolution). r.first)) e) l.firsts) in
    record {
      counted = f.0 ∙ length-map (revolutions_of ts ns) (λ (r : Revolution). r.first);
      firsts = f.1;
      ends = (filled_all 0 count (length ns - 1) _ es l.ends_are few' (retold 0 count _ _ _ es (ap (map (λ (r : Revolution). r.end)) e) l.ends)).1;
      starts = (filled_all zero64 count (length ns - 1) _ ss l.starts_are few' (retold zero64 count _ _ _ ss (ap (map (λ (r : Revolution). r.start)) e) l.starts)).1;
      periods = (filled_all zero64 count (length ns - 1) _ ps l.periods_are few' (retold zero64 count _ _ _ ps (ap (map (λ (r : Revolution). r.period)) e) l.periods)).1;
    }

-- ---- the call

module _ (ts ns : List Float) (f e s p : ℕ) (h : revolutions_refusal ts ns f e s p ≡ accepted) where
  -- what the listing asks for
  pub revolutions_fine : (rising ts ≡ true) × (f ≡ length ns - 1) × (e ≡ length ns - 1) × (s ≡ length ns - 1) × (p ≡ length ns - 1)
  unfolding revolutions_refusal
  revolutions_fine =
      let a1 = cond_passes (leb (length ts) 100000) _ Count h in
      let a2 = cond_passes (leb (length ns) 64) _ Count a1.1 in
      let a3 = cond_passes (eqb f (length ns - 1)) _ Length a2.1 in
      let a4 = cond_passes (eqb e (length ns - 1)) _ Length a3.1 in
      let a5 = cond_passes (eqb s (length ns - 1)) _ Length a4.1 in
      let a6 = cond_passes (eqb p (length ns - 1)) _ Length a5.1 in
      let a7 = cond_passes (list_all is_time ts) _ Value a6.1 in
      let a8 = cond_passes (list_all is_time ns) _ Value a7.1 in
      let a9 = cond_passes (rising ts) _ Order a8.1 in
      (a9.0, eqb-true f (length ns - 1) a3.0, eqb-true e (length ns - 1) a4.0, eqb-true s (length ns - 1) a5.0, eqb-true p (length ns - 1) a6.0)
