-- The bracket holds t, and the weight lies between 0 and 1, both included, at every covered t: from monotone rounding. Assumes nothing.
use mathlib.Core.Path.{◌≡◌, refl, sym, subst}
use mathlib.Core.List.{List, [], ◌∷◌}
use mathlib.Core.Bool.{Bool, true, false, cond, not, ◌&&◌}
use Prim.Native.Nat.{ℕ, zero, suc, ◌+◌, ◌-◌, ◌<◌, ◌≤◌}
use native.Mathlib.Numerals.{add-one}
use native.Mathlib.Nat.{le_of_suc-le-suc}
use native.Mathlib.Omega.{arith}
use lib.Dec.{T, not_T}
use lib.ListN.{length, get_or}
use lib.Ieee.{Float, nan, binary64, lt, le, fits, of_bits, of_fields}
use lib.Ieee.Fits.{and_l, and_r, and_i}
use lib.Ieee.Bits.{is_false}
use Rattle.laws.specs.Floats.{◌⊖◌, ◌⊘◌, zero64, one64, zero⁺, zero_bits}
use Rattle.laws.specs.Signed.{real}
use Rattle.laws.specs.Order.{le_real_r, lt→le, lt→nle, le_tr, lt_tr, nle→lt}
use Rattle.laws.specs.WholeNumbers.{between}
use Rattle.laws.specs.Times.{Time, bound}
use Rattle.laws.specs.Quotient.{unit}
use Rattle.laws.specs.Weight.{weight_between}
use Rattle.std.specs.List.{list_all}
use Rattle.laws.specs.Checks.{is_time, rising, time_says}
use Rattle.finality.specs.Brackets.{covers}
use Rattle.model.specs.Model.{bracket, weight}
use Rattle.model.proofs.Times.{covers_is, bracket_room, weight_last}
use Rattle.model.specs.Calls.{Weighed}

-- ---- rising lists

rising_tail : (a : Float) (l : List Float) → T (rising (a ∷ l)) → T (rising l)
rising_tail a [] h = tt
rising_tail a (b ∷ l) h = and_r (lt a b) (rising (b ∷ l)) h

rising_up : (a : Float) (l : List Float) (k : ℕ) → T (rising (a ∷ l)) → k < length l → T (lt a (get_or l k nan))
rising_up a [] k h g = absurd (omega arith)
rising_up a (b ∷ l) zero h g = and_l (lt a b) (rising (b ∷ l)) h
rising_up a (b ∷ l) (suc k) h g =
    lt_tr a b (get_or l k nan) (and_l (lt a b) (rising (b ∷ l)) h) (rising_up b l k (and_r (lt a b) (rising (b ∷ l)) h) (le_of_suc-le-suc g))

-- each time is before every later one
pub rising_lt : (l : List Float) (i k : ℕ) → T (rising l) → i < k → k < length l → T (lt (get_or l i nan) (get_or l k nan))
rising_lt [] i k h g m = absurd (omega arith)
rising_lt (a ∷ l) i zero h g m = absurd (omega arith)
rising_lt (a ∷ l) zero (suc k) h g m = rising_up a l k h (le_of_suc-le-suc m)
rising_lt (a ∷ l) (suc i) (suc k) h g m = rising_lt l i k (rising_tail a l h) (le_of_suc-le-suc g) (le_of_suc-le-suc m)

pub all_at : (p : Float → Bool) (l : List Float) (i : ℕ) → T (list_all p l) → i < length l → T (p (get_or l i nan))
all_at p [] i h g = absurd (omega arith)
all_at p (a ∷ l) zero h g = and_l (p a) (list_all p l) h
all_at p (a ∷ l) (suc i) h g = all_at p l i (and_r (p a) (list_all p l) h) (le_of_suc-le-suc g)

-- ---- the bracket

pub lt→le_false : (x y : Float) → T (lt x y) → le y x ≡ false
lt→le_false x y h = is_false (le y x) (not_T (le y x) (λ (g : T (le y x)). lt→nle x y h g))

pub bracket_below : (ts : List Float) (t : Float) → T (le (get_or ts 0 nan) t) → T (le (get_or ts (bracket ts t) nan) t)
unfolding bracket
bracket_below [] t h = h
bracket_below (a ∷ []) t h = h
bracket_below (a ∷ b ∷ []) t h = h
bracket_below (a ∷ b ∷ c ∷ ts) t h = go (le b t) (bracket_below (b ∷ c ∷ ts) t)
  where
    go : (x : Bool) → (T x → T (le (get_or (b ∷ c ∷ ts) (bracket (b ∷ c ∷ ts) t) nan) t)) → T (le (get_or (a ∷ b ∷ c ∷ ts) (cond x (suc (bracket (b ∷ c ∷ ts) t)) 0) nan) t)
    go true g = g tt
    go false g = h

pub bracket_above : (ts : List Float) (t : Float) (k : ℕ) → k + 1 ≡ length ts → 2 ≤ length ts → T (list_all real ts) → T (real t) → T (lt t (get_or ts k nan)) → T (lt t (get_or ts (suc (bracket ts t)) nan))
unfolding bracket
bracket_above [] t k e m r q h = absurd (omega arith)
bracket_above (a ∷ []) t k e m r q h = absurd (omega arith)
bracket_above (a ∷ b ∷ []) t k e m r q h = let f : k ≡ 1 = omega arith in subst (λ (i : ℕ). T (lt t (get_or (a ∷ b ∷ []) i nan))) f h
bracket_above (a ∷ b ∷ c ∷ ts) t zero e m r q h = absurd (omega arith)
bracket_above (a ∷ b ∷ c ∷ ts) t (suc k) e m r q h = go (le b t) refl (bracket_above (b ∷ c ∷ ts) t k (omega arith) (omega arith) (and_r (real a) (list_all real (b ∷ c ∷ ts)) r) q h)
  where
    go : (x : Bool) → le b t ≡ x → T (lt t (get_or (b ∷ c ∷ ts) (suc (bracket (b ∷ c ∷ ts) t)) nan)) → T (lt t (get_or (a ∷ b ∷ c ∷ ts) (suc (cond x (suc (bracket (b ∷ c ∷ ts) t)) 0)) nan))
    go true f g = g
    go false f g = nle→lt b t (and_l (real b) (list_all real (c ∷ ts)) (and_r (real a) (list_all real (b ∷ c ∷ ts)) r)) q (subst (λ (x : Bool). T (not x)) (sym f) tt)

-- ---- the weight

time_real : (l : List Float) → T (list_all is_time l) → T (list_all real l)
time_real [] h = tt
time_real (a ∷ l) h =
    and_i (real a) (list_all real l) (le_real_r zero⁺ a (time_says a (and_l (is_time a) (list_all is_time l) h)).from_zero) (time_real l (and_r (is_time a) (list_all is_time l) h))

one_same : one64 ≡ unit
unfolding of_bits of_fields
one_same = refl

-- a covered time has two fields around it
covered_some : (ts : List Float) (t : Float) → T (covers ts t) → 0 < length ts
unfolding covers
covered_some [] t h = absurd h
covered_some (a ∷ ts) t h = omega arith

ends : (ts : List Float) (t : Float) → T (covers ts t) → T (le (get_or ts 0 nan) t) × T (lt t (get_or ts (length ts - 1) nan))
ends ts t h =
    let g : T (le (get_or ts 0 nan) t && lt t (get_or ts (length ts - 1) nan)) = subst T (covers_is ts t (covered_some ts t h)) h in
    (and_l (le (get_or ts 0 nan) t) (lt t (get_or ts (length ts - 1) nan)) g, and_r (le (get_or ts 0 nan) t) (lt t (get_or ts (length ts - 1) nan)) g)

pub covered_two : (ts : List Float) (t : Float) → T (covers ts t) → 2 ≤ length ts
covered_two [] t h = absurd (let z = covered_some [] t h in omega arith)
covered_two (a ∷ []) t h = absurd (lt→nle t a (ends (a ∷ []) t h).1 (ends (a ∷ []) t h).0)
covered_two (a ∷ b ∷ ts) t h = omega arith

-- what lies between two times is a time
time_between : (a t b : Float) → Time a → Time b → T (le a t) → T (le t b) → Time t
time_between a t b ta tb h k = record {
  is_finite = between a t b ta.is_finite tb.is_finite h k;
  from_zero = le_tr zero⁺ a t ta.from_zero h;
  to_bound = le_tr t b bound k tb.to_bound;
}

-- at a covered t; a slice's numbers all fit binary64
pub weight_within : (ts : List Float) (t : Float) → T (rising ts) → T (list_all is_time ts) → ((i : ℕ) → i < length ts → T (fits binary64 (get_or ts i nan))) → T (covers ts t) →
    T (le zero64 (weight ts t (bracket ts t))) × T (le (weight ts t (bracket ts t)) one64)
unfolding weight
weight_within ts t r y f h =
    let j : ℕ = bracket ts t in
    let two = covered_two ts t h in
    let room = bracket_room ts t two in
    let first : T (le (get_or ts 0 nan) t) = (ends ts t h).0 in
    let below : T (le (get_or ts j nan) t) = bracket_below ts t first in
    let above : T (lt t (get_or ts (suc j) nan)) = bracket_above ts t (length ts - 1) (omega arith) two (time_real ts y) (le_real_r (get_or ts 0 nan) t first) (ends ts t h).1 in
    let e : suc j ≡ j + 1 = sym (add-one j) in
    let above' : T (lt t (get_or ts (j + 1) nan)) = subst (λ (i : ℕ). T (lt t (get_or ts i nan))) e above in
    let a : Float = get_or ts j nan in
    let b : Float = get_or ts (j + 1) nan in
    let ta : Time a = time_says a (all_at is_time ts j y (omega arith)) in
    let tb : Time b = time_says b (all_at is_time ts (j + 1) y (omega arith)) in
    let w = weight_between a t b ta (time_between a t b ta tb below (lt→le t b above')) tb (f j (omega arith)) (f (j + 1) (omega arith)) below (lt→le t b above')
    (rising_lt ts j (j + 1) r (omega arith) (omega arith)) in
    (subst (λ (z : Float). T (le z ((t ⊖ a) ⊘ (b ⊖ a)))) (sym zero_bits) w.0, subst (λ (z : Float). T (le ((t ⊖ a) ⊘ (b ⊖ a)) z)) (sym one_same) w.1)

-- ---- the kernel's contract

-- field j or the next is missing, so that j is no bracket of a covered t
pub weighed_last : (ts : List Float) (t : Float) (j : ℕ) → length ts ≤ j + 1 → Weighed ts t j (of_bits binary64 0x7ff8000000000000)
weighed_last ts t j h = record {
  is = weight_last ts t j h;
  within = λ r y k e. absurd (let room = bracket_room ts t (covered_two ts t k) in omega arith);
}

pub weighed_out : (ts : List Float) (t : Float) (j : ℕ) → length ts ≤ j → Weighed ts t j (of_bits binary64 0x7ff8000000000000)
weighed_out ts t j h = weighed_last ts t j (omega arith)

pub weighed : (ts : List Float) (t : Float) (j : ℕ) → ((i : ℕ) → i < length ts → T (fits binary64 (get_or ts i nan))) → Weighed ts t j (weight ts t j)
weighed ts t j f = record {
  is = refl;
  within = λ r y k e. subst (λ (i : ℕ). T (le zero64 (weight ts t i)) × T (le (weight ts t i) one64)) (sym e) (weight_within ts t r y f k);
}

-- ---- the bracket in document 01's words: of the fields but the last, none after the bracket is at or before t
pub bracket_last : (ts : List Float) (t : Float) (i : ℕ) → T (rising ts) → i + 2 ≤ length ts → T (le (get_or ts i nan) t) → i ≤ bracket ts t
unfolding bracket
bracket_last [] t i r m h = absurd (omega arith)
bracket_last (a ∷ []) t i r m h = absurd (omega arith)
bracket_last (a ∷ b ∷ []) t i r m h = omega arith
bracket_last (a ∷ b ∷ c ∷ ts) t zero r m h = omega arith
bracket_last (a ∷ b ∷ c ∷ ts) t (suc i) r m h =
    go (le b t) (next i (omega arith) h) (bracket_last (b ∷ c ∷ ts) t i (rising_tail a (b ∷ c ∷ ts) r) (omega arith) h)
  where
    next : (i : ℕ) → i < length (b ∷ c ∷ ts) → T (le (get_or (b ∷ c ∷ ts) i nan) t) → T (le b t)
    next zero l h = h
    next (suc i) l h =
        le_tr b (get_or (c ∷ ts) i nan) t (lt→le b (get_or (c ∷ ts) i nan) (rising_up b (c ∷ ts) i (rising_tail a (b ∷ c ∷ ts) r) (le_of_suc-le-suc l))) h

    go : (x : Bool) → T x → i ≤ bracket (b ∷ c ∷ ts) t → suc i ≤ cond x (suc (bracket (b ∷ c ∷ ts) t)) 0
    go true u g = omega arith
    go false u g = absurd u
