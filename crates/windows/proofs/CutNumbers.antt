-- The code's way to the whole number above or below a number: cut, and one more where the cut number lies below. Assumes nothing.
use Rattle.std.proofs.Common.{◌≡◌, ℕ, suc, ◌+◌, ◌-◌, ◌*◌, ◌/◌, ◌^◌, ◌<◌, ◌≤◌, min, Bool, true, false, not, ◌||◌, T, eqb, ltb, ℤ, pos, sym, refl, ap, ◌∙◌, subst, inl, inr, zero-le, le_of_suc-le-suc, suc-mul, div-lt_iff_lt-mul, add-mul, le_antisymm, lt_of_mul-lt-mul_right, le-div_iff_mul-le, mul_right_comm, div-mul-le_self, arith, ltb→lt, nltb→le}
use mathlib.Core.Bool.{beq}
use native.Mathlib.Nat.{min-eq_left, min-eq_right}
use native.Mathlib.Nat.{lt-div-mul-add}
use lib.Ieee.{Float, nan, inf, fin, binary64, up, down, neg, mul, round, of_int, of_bits, to_unsigned, le, lt, eq}
use lib.Ieee.Fits.{down_pos}
use lib.Ieee.Scale.{finite, round_same}
use Rattle.laws.specs.Floats.{zero64, ◌⊗◌}
use Rattle.laws.specs.Lists.{decide}
use Rattle.laws.specs.Signed.{p, n, d, d_pos, finite→real, order_of_le, le_of_order, strict_of_lt}
use Rattle.laws.specs.Order.{le_real_l, le_tr, le_lt_tr, lt_le_tr, lt→le, nlt→le, le_antisym, neg_le}
use Rattle.laws.specs.WholeNumbers.{Is, number, number_is, ceil, floor, ceil_le, between, under_div}
use Rattle.windows.specs.Slots.{lowest, highest}

-- ---- whole numbers

ceil_div_is : (a c k : ℕ) → 0 < c → k * c < a + c → a ≤ k * c → (a + (c - 1)) / c ≡ k
ceil_div_is a c k C h l =
    le_antisymm (le_of_suc-le-suc ((div-lt_iff_lt-mul {k = c} {x = a + (c - 1)} {y = suc k} C).1 (omega (arith, suc-mul k c))))
    ((le-div_iff_mul-le C).1 (omega arith))

min_small : (c m j : ℕ) → min c m ≤ j → j < m → min c m ≡ c
min_small c m j h l =
    elim (decide (ltb m c)) [
      | inl t ↦ absurd (let q : m < c = ltb→lt m c t in let e : min c m ≡ m = min-eq_right (omega arith) in omega arith)
      | inr t ↦ min-eq_left (nltb→le m c t)
    ]

-- ---- in terms of ±m / c

highest_is : Is highest 8589934592 0
highest_is = record { is_finite = tt; value = refl }

zero_finite : T (finite zero64)
unfolding of_bits
zero_finite = tt

at_most : (y : Float) (m : ℕ) (e : ℤ) (k : ℕ) → T (le (fin false m e) y) → Is y k 0 → m * up e ≤ k * down e
at_most y m e k h i =
    let o = order_of_le (fin false m e) y tt i.is_finite h in
    let pv : p y ≡ k * d y + n y = omega (arith, i.value) in
    let v : p y * down e ≡ k * down e * d y + n y * down e = ap (λ (j : ℕ). j * down e) pv ∙ add-mul (k * d y) (n y) (down e) ∙ ap (λ (j : ℕ). j + n y * down e) (mul_right_comm k (d y) (down e)) in
    native.Mathlib.Nat.le_of_mul-le-mul_right {k = d y} (omega (arith, o, v)) (d_pos y)

more_than : (y : Float) (m : ℕ) (e : ℤ) (k : ℕ) → T (lt y (fin false m e)) → Is y k 0 → k * down e < m * up e
more_than y m e k h i =
    let o = strict_of_lt y (fin false m e) i.is_finite tt h in
    let pv : p y ≡ k * d y + n y = omega (arith, i.value) in
    let v : p y * down e ≡ k * down e * d y + n y * down e = ap (λ (j : ℕ). j * down e) pv ∙ add-mul (k * d y) (n y) (down e) ∙ ap (λ (j : ℕ). j + n y * down e) (mul_right_comm k (d y) (down e)) in
    lt_of_mul-lt-mul_right (d y) (omega (arith, o, v))

-- nothing negative lies above 0
not_above : (m : ℕ) (e : ℤ) → T (lt (number 0) (fin true m e)) → ⊥
not_above m e h =
    let i = number_is 0 (omega arith) in
    let o = strict_of_lt (number 0) (fin true m e) i.is_finite tt h in
    let pn : p (number 0) ≡ n (number 0) = omega (arith, i.value) in
    let v : p (number 0) * down e ≡ n (number 0) * down e = ap (λ (j : ℕ). j * down e) pn in
    omega (arith, o, v)

-- ---- the cut number of a number from 0 to 2^33

cut_small : (m : ℕ) (e : ℤ) → T (le (fin false m e) highest) → m * up e / down e ≤ 8589934592
cut_small m e k = under_div (m * up e) (down e) 8589934592 (down_pos e) (at_most highest m e 8589934592 k highest_is)

cut_is : (m : ℕ) (e : ℤ) → T (le (fin false m e) highest) → min (m * up e / down e) (2 ^ 64 - 1) ≡ m * up e / down e
cut_is m e k = min-eq_left (let h = cut_small m e k in omega arith)

ceil_small : (m : ℕ) (e : ℤ) → T (le (fin false m e) highest) → min ((m * up e + (down e - 1)) / down e) (2 ^ 64 - 1) ≡ (m * up e + (down e - 1)) / down e
unfolding ceil
ceil_small m e k = min_small ((m * up e + (down e - 1)) / down e) (2 ^ 64 - 1) 8589934592 (ceil_le (fin false m e) highest 8589934592 tt k highest_is) (omega arith)

minus_one : T (lt (fin true 1 (pos 0)) zero64)
unfolding lt of_bits
minus_one = tt

highest_below : T (lt highest (fin false 1 (pos 64)))
unfolding lt
highest_below = tt

pub cut_bound : (x : Float) → T (le zero64 x) → T (le x highest) → to_unsigned 64 x ≤ 8589934592
unfolding to_unsigned
cut_bound nan h k = absurd (between zero64 nan highest zero_finite tt h k)
cut_bound (inf s) h k = absurd (between zero64 (inf s) highest zero_finite tt h k)
cut_bound (fin true m e) h k = zero-le
cut_bound (fin false m e) h k = rw (cut_is m e k) (cut_small m e k)

-- the code may cut it

pub above_cut : (x : Float) → T (le zero64 x) → T (lt (fin true 1 (pos 0)) x)
above_cut x h = lt_le_tr (fin true 1 (pos 0)) zero64 x minus_one h

pub below_cut : (x : Float) → T (le x highest) → T (lt x (fin false 1 (pos 64)))
below_cut x h = le_lt_tr x highest (fin false 1 (pos 64)) h highest_below

pub not_below : (x : Float) → T (le x highest) → T (not (lt x zero64)) → T (le zero64 x)
not_below x h l = nlt→le x zero64 (le_real_l x highest h) (finite→real zero64 zero_finite) l

-- ---- ceil

pub ceil_next : (x : Float) → T (le zero64 x) → T (le x highest) → T (lt (number (to_unsigned 64 x)) x) → to_unsigned 64 x + 1 ≡ ceil x
unfolding to_unsigned ceil
ceil_next nan h k l = absurd (between zero64 nan highest zero_finite tt h k)
ceil_next (inf s) h k l = absurd (between zero64 (inf s) highest zero_finite tt h k)
ceil_next (fin true m e) h k l = absurd (not_above m e l)
ceil_next (fin false m e) h k l =
    let q = m * up e / down e in
    let cut = cut_is m e k in
    let small = cut_small m e k in
    let l' : T (lt (number q) (fin false m e)) = subst (λ (j : ℕ). T (lt (number j) (fin false m e))) cut l in
    let low : q * down e < m * up e = more_than (number q) m e q l' (number_is q (omega arith)) in
    let high : m * up e < q * down e + down e = lt-div-mul-add (down_pos e) in
    let next : (m * up e + (down e - 1)) / down e ≡ q + 1 = ceil_div_is (m * up e) (down e) (q + 1) (down_pos e) (omega (arith, add-mul q 1 (down e))) (omega (arith, add-mul q 1 (down e))) in
    ap (λ (j : ℕ). j + 1) cut ∙ sym next ∙ sym (ceil_small m e k)

pub ceil_same : (x : Float) → T (le zero64 x) → T (le x highest) → T (not (lt (number (to_unsigned 64 x)) x)) → to_unsigned 64 x ≡ ceil x
unfolding to_unsigned ceil
ceil_same nan h k l = absurd (between zero64 nan highest zero_finite tt h k)
ceil_same (inf s) h k l = absurd (between zero64 (inf s) highest zero_finite tt h k)
ceil_same (fin true m e) h k l = refl
ceil_same (fin false m e) h k l =
    let q = m * up e / down e in
    let cut = cut_is m e k in
    let small = cut_small m e k in
    let i : Is (number q) q 0 = number_is q (omega arith) in
    let l' : T (not (lt (number q) (fin false m e))) = subst (λ (j : ℕ). T (not (lt (number j) (fin false m e)))) cut l in
    let high : m * up e ≤ q * down e = at_most (number q) m e q (nlt→le (number q) (fin false m e) (finite→real (number q) i.is_finite) tt l') i in
    let low : q * down e ≤ m * up e = div-mul-le_self (m * up e) (down e) in
    let same : (m * up e + (down e - 1)) / down e ≡ q = ceil_div_is (m * up e) (down e) q (down_pos e) (let c = down_pos e in omega arith) high in
    cut ∙ sym same ∙ sym (ceil_small m e k)

-- ---- floor

zero_round : neg (number 0) ≡ round binary64 true 0 1
unfolding neg number of_int round
zero_round = refl

zero_number : number 0 ≡ round binary64 false 0 1
unfolding number of_int
zero_number = refl

zero_value : (m : ℕ) (e : ℤ) (s : Bool) → T (eq (fin s m e) zero64) → m * up e ≡ 0
unfolding eq of_bits
zero_value m e s h =
    let g : m * up e * 1 ≡ 0 * up (pos 0) * down e = lib.Dec.eqb→eq (m * up e * 1) (0 * up (pos 0) * down e)
    (lib.Ieee.Fits.and_l (eqb (m * up e * 1) (0 * up (pos 0) * down e)) (beq s false || eqb (m * up e * 1) 0) h) in
    omega (arith, g)

rounds_zero : (s : Bool) (a c : ℕ) → a ≡ 0 → 0 < c → round binary64 s (0 * up (pos 0) * a) (down (pos 0) * c) ≡ round binary64 s 0 1
rounds_zero s a c z h =
    let e : 0 * up (pos 0) * a * 1 ≡ 0 * (down (pos 0) * c) = omega arith in
    let pos_c : 0 < down (pos 0) * c = omega arith in
    round_same binary64 s (0 * up (pos 0) * a) (down (pos 0) * c) 0 1 pos_c (omega arith) e

pub floor_zero : (x : Float) → T (eq x zero64) → zero64 ⊗ x ≡ floor x
unfolding mul of_bits floor
floor_zero nan h = absurd (unfold eq in h)
floor_zero (inf s) h = absurd (unfold eq in h)
floor_zero (fin true m e) h =
    let z : m * up e ≡ 0 = zero_value m e true h in
    let c = down_pos e in
    let up0 : (m * up e + (down e - 1)) / down e ≡ 0 = ceil_div_is (m * up e) (down e) 0 c (omega arith) (omega arith) in
    rounds_zero true (m * up e) (down e) z c ∙ sym zero_round ∙ ap (λ (k : ℕ). neg (number k)) (sym up0)
floor_zero (fin false m e) h =
    let z : m * up e ≡ 0 = zero_value m e false h in
    let c = down_pos e in
    let low : m * up e / down e ≡ 0 = rw z (native.Mathlib.Nat.zero-div (down e)) in
    rounds_zero false (m * up e) (down e) z c ∙ sym zero_number ∙ ap number (sym low)

-- the cut of −x
below_highest : T (le (neg lowest) highest)
unfolding neg le lt eq
below_highest = tt

pub under_highest : (x : Float) → T (le lowest x) → T (le (neg x) highest)
under_highest x h = le_tr (neg x) (neg lowest) highest (neg_le lowest x h) below_highest

zeros : T (le zero64 (neg zero64))
unfolding neg of_bits le lt eq
zeros = tt

pub over_zero : (x : Float) → T (lt x zero64) → T (le zero64 (neg x))
over_zero x h = le_tr zero64 (neg zero64) (neg x) zeros (neg_le x zero64 (lt→le x zero64 h))

pub floor_below : (x : Float) → T (le lowest x) → T (lt x zero64) → neg (number (ceil (neg x))) ≡ floor x
unfolding ceil floor neg
floor_below nan h l = absurd (unfold lt in l)
floor_below (inf s) h l = absurd (between lowest (inf s) zero64 tt zero_finite h (lt→le (inf s) zero64 l))
floor_below (fin true m e) h l = ap (λ (k : ℕ). neg (number k)) (ceil_small m e (under_highest (fin true m e) h))
floor_below (fin false m e) h l = absurd (unfold of_bits in let o = strict_of_lt (fin false m e) zero64 tt zero_finite l in omega arith)

not_both : (b : Bool) → T (not b) → T b → ⊥
not_both true f t = f
not_both false f t = t

negative_under : (m : ℕ) (e : ℤ) → T (le (fin true m e) zero64)
unfolding of_bits
negative_under m e = le_of_order (fin true m e) zero64 tt tt (omega arith)

pub floor_above : (x : Float) → T (le lowest x) → T (le x highest) → T (not (eq x zero64)) → T (not (lt x zero64)) → number (to_unsigned 64 x) ≡ floor x
unfolding to_unsigned floor
floor_above nan h k e l = absurd (between lowest nan highest tt tt h k)
floor_above (inf s) h k e l = absurd (between lowest (inf s) highest tt tt h k)
floor_above (fin false m i) h k e l = ap number (cut_is m i k)
floor_above (fin true m i) h k e l =
    absurd (not_both (eq (fin true m i) zero64) e (le_antisym (fin true m i) zero64 (negative_under m i) (nlt→le (fin true m i) zero64 tt (finite→real zero64 zero_finite) l)))
