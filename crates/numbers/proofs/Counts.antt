-- A count is found again in its float. Assumes nothing.
use Rattle.std.proofs.Common.{◌≡◌, ℕ, ◌-◌, ◌*◌, ◌/◌, ◌^◌, ◌≤◌, min, leb, leb-true, Bool, cond, true, false, refl, ap, ◌∙◌, le_of_mul-le-mul_right, mul-div_cancel, arith, le-leb}
use lib.Ieee.{Float, nan, inf, fin, up, down, to_unsigned}
use lib.Ieee.Fits.{down_pos}
use Rattle.laws.specs.WholeNumbers.{Is, number, number_is}
use Rattle.numbers.specs.Numbers.{count_of}

-- a whole number is its own whole part
cut_is : (x : Float) (n : ℕ) → n ≤ 9007199254740992 → Is x n 0 → to_unsigned 64 x ≡ n
unfolding to_unsigned
cut_is nan n h i = absurd i.is_finite
cut_is (inf s) n h i = absurd i.is_finite
cut_is (fin true m e) n h i =
    let z : n * down e ≤ 0 * down e = omega (arith, i.value) in
    let l : n ≤ 0 = le_of_mul-le-mul_right {k = down e} z (down_pos e) in
    omega arith
cut_is (fin false m e) n h i =
    let v : m * up e ≡ n * down e = omega (arith, i.value) in
    let q : m * up e / down e ≡ n = ap (λ (w : ℕ). w / down e) v ∙ mul-div_cancel n (down_pos e) in
    ap (λ (w : ℕ). min w (2 ^ 64 - 1)) q ∙ small n h
  where
    small : (n : ℕ) → n ≤ 9007199254740992 → min n (2 ^ 64 - 1) ≡ n
    small n h = omega arith

pub counted : (n most : ℕ) → n ≤ most → n ≤ 9007199254740992 → count_of (number n) most ≡ n
unfolding count_of
counted n most h k =
    let e : to_unsigned 64 (number n) ≡ n = cut_is (number n) n k (number_is n (omega arith)) in
    ap (λ (w : ℕ). cond (leb w most) w 0) e ∙ simp (le-leb n most h)

pub count_bound : (x : Float) (most : ℕ) → count_of x most ≤ most
unfolding count_of
count_bound x most = by (leb (to_unsigned 64 x) most) (leb-true (to_unsigned 64 x) most)
  where
    by : (b : Bool) → (b ≡ true → to_unsigned 64 x ≤ most) → cond b (to_unsigned 64 x) 0 ≤ most
    by true h = h refl
    by false h = omega arith
