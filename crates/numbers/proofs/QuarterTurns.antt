-- x / (pi / 2) for a magnitude of x that does not exceed 2^20: the quotient does not exceed it either, and twice the quotient is exact.
-- So the whole part of twice the quotient, with one added, halves to the nearest whole number, a half away from zero. Assumes nothing.
use Rattle.std.proofs.Common.{◌≡◌, ℕ, zero, suc, ◌+◌, ◌-◌, ◌*◌, ◌/◌, ◌%◌, ◌^◌, ◌<◌, ◌≤◌, Bool, true, false, cond, not, ◌&&◌, ◌||◌, T, eqb, ltb, leb, ℤ, pos, negsuc, neg_ℤ, sym, refl, ap, ◌∙◌, subst, true≢false, le_trans, le_of_eq, lt_of_le_of_lt, le_of_lt, mul-le-mul_right, mul_assoc, mul_comm, add-mul, mul-pos, one-mul, mul-one, mul_right_comm, le_of_mul-le-mul_right, mul_left_comm, arith, lit<, eqb→eq, ltb→lt, lt→ltb, leb→le, nltb→le, pow_pos, pow-add}
use native.Mathlib.Nat.{add-div_right, div-div-eq-div-mul, min-eq_left, div-le_of_le-mul}
use lib.Pow.{pow-lt}
use lib.Signed.{mag}
use lib.Ieee.{Float, nan, inf, fin, binary64, prec, emax, low, up, down, round, units, add, div, neg, lt, le, eq, of_bits, fits, to_signed}
use lib.Ieee.Exact.{HasValue, units_val, round_exact}
use lib.Ieee.Fits.{round_is, round-fits, up_pos, down_pos, and_l, and_r}
use lib.Ieee.Nearest.{div_same}
use lib.Ieee.Order.{round_mono, kept, drop}
use lib.Ieee.Scale.{grid, overflow, round_val}
use Rattle.numbers.proofs.SignedHalves.{mag_neg}
use Rattle.laws.specs.Floats.{◌⊕◌, ◌⊘◌}
use Rattle.laws.specs.Lists.{or_l}
use Rattle.laws.specs.SameBits.{same_sign}
use Rattle.numbers.specs.Numbers.{near, half_pi, half_up, rounded, halved}

-- ---- what a comparison says of the fractions

or_le : (p r c : Bool) {a b : ℕ} → (T p → a < b) → (T r → a ≡ b) → T (p || (r && c)) → a ≤ b
or_le true r c f g t = le_of_lt (f tt)
or_le false true c f g t = le_of_eq (g tt)
or_le false false c f g t = absurd t

above_le : (p r c : Bool) {a b : ℕ} → (T p → a < b) → (T r → b ≡ a) → T (p || (r && c)) → a ≤ b
above_le true r c f g t = le_of_lt (f tt)
above_le false true c f g t = le_of_eq (sym (g tt))
above_le false false c f g t = absurd t

drop_one : (x y : ℕ) → x * 1 ≤ y → x ≤ y
drop_one x y h = omega arith

under : (m : ℕ) (e : ℤ) → T (le (fin false m e) (fin false 1 (pos 20))) → m * up e ≤ 1048576 * down e
unfolding le lt eq
under m e t =
    let a = m * up e * 1 in
    let b = 1048576 * down e in
    drop_one (m * up e) b (or_le (ltb a b) (eqb a b) true (ltb→lt a b) (eqb→eq a b) t)

over : (m : ℕ) (e : ℤ) → T (le (fin true 1 (pos 20)) (fin true m e)) → m * up e ≤ 1048576 * down e
unfolding le lt eq
over m e t =
    let a = m * up e * 1 in
    let b = 1048576 * down e in
    drop_one (m * up e) b (above_le (ltb a b) (eqb b a) true (ltb→lt a b) (eqb→eq b a) t)

near_fin : (s : Bool) (m : ℕ) (e : ℤ) → T (near (fin s m e)) → m * up e ≤ 1048576 * down e
unfolding near of_bits neg
near_fin false m e t = under m e (and_r (le (fin true 1 (pos 20)) (fin false m e)) (le (fin false m e) (fin false 1 (pos 20))) t)
near_fin true m e t = over m e (and_l (le (fin true 1 (pos 20)) (fin true m e)) (le (fin true m e) (fin false 1 (pos 20))) t)

-- ---- a fraction that does not exceed 2 ^ 20 rounds to a value that does not, with either sign

value_le : (y : Float) (g l : ℕ) → HasValue y false g l → T (le y (fin false 1 (pos 20))) → g ≤ 1048576 * l
value_le nan g l v t = absurd v
value_le (inf s) g l v t = absurd v
value_le (fin true m e) g l v t = absurd (true≢false v.0)
value_le (fin false m e) g l v t =
    le_of_mul-le-mul_right
    (le_trans (le_of_eq (sym v.1)) (le_trans (mul-le-mul_right l (under m e t)) (le_of_eq (mul_right_comm 1048576 (down e) l))))
    (down_pos e)

inside : (b : Bool) (z : Float) → T (le (cond b z (inf false)) (fin false 1 (pos 20))) → T b
unfolding le lt eq
inside true z t = tt
inside false z t = absurd t

units_inside : (q k : ℕ) → T (le (units binary64 false q k) (fin false 1 (pos 20))) → q * 2 ^ k < overflow binary64
unfolding units
units_inside q k t = ltb→lt (q * 2 ^ k) (overflow binary64) (inside (ltb (q * 2 ^ k) (overflow binary64)) _ t)

record Rounds (s : Bool) (a c : ℕ) : Type 0 where
  value : HasValue (round binary64 s a c) s (grid binary64 a c) (2 ^ low binary64)
  small : grid binary64 a c ≤ 1048576 * 2 ^ low binary64

rounds : (s : Bool) (a c : ℕ) → 0 < c → a ≤ 1048576 * c → Rounds s a c
rounds s a c C h =
    let f = binary64 in
    let t : T (le (round f false a c) (fin false 1 (pos 20))) = unfold round in round_mono f a c 1048576 1 C (pow_pos 0) (omega arith) in
    let q = kept (prec f) (a * 2 ^ low f) c in
    let k = drop (prec f) (a * 2 ^ low f) c in
    let u : q * 2 ^ k < overflow f = units_inside q k (subst (λ (z : Float). T (le z (fin false 1 (pos 20)))) (round_is f false a c) t) in
    record {
      value = subst (λ (z : Float). HasValue z s (grid f a c) (2 ^ low f)) (sym (round_is f s a c)) (units_val f s q k u);
      small = value_le (round f false a c) (grid f a c) (2 ^ low f) (round_val f a c u) t;
    }

-- ---- a value that fits is a number of no more digits than the format keeps, times a power of two, in units of the format's smallest value

pow_back : (k l : ℕ) → 2 ^ k ≤ 2 ^ l → k ≤ l
pow_back k l h = go (ltb l k) (ltb→lt l k) (nltb→le l k)
  where
    go : (b : Bool) → (T b → l < k) → (T (not b) → k ≤ l) → k ≤ l
    go true f g = let z : 2 ^ l < 2 ^ k = pow-lt (f tt) in omega arith
    go false f g = g tt

record Units (l m : ℕ) (e : ℤ) : Type 0 where
  shift : ℕ
  same : m * up e * 2 ^ l ≡ m * 2 ^ shift * down e

in_units : (l m : ℕ) (e : ℤ) → down e ≤ 2 ^ l → Units l m e
in_units l m (pos k) h = record { shift = k + l; same = mul_assoc m (2 ^ k) (2 ^ l) ∙ ap (λ (x : ℕ). m * x) (sym (pow-add 2 k l)) ∙ sym (mul-one (m * 2 ^ (k + l))) }
in_units l m (negsuc k) h =
    let s : suc k ≤ l = pow_back (suc k) l h in
    record {
      shift = l - suc k;
      same =
          ap (λ (x : ℕ). x * 2 ^ l) (mul-one m)
          ∙ ap (λ (n : ℕ). m * 2 ^ n) (back l (suc k) s)
          ∙ ap (λ (x : ℕ). m * x) (pow-add 2 (l - suc k) (suc k))
          ∙ sym (mul_assoc m (2 ^ (l - suc k)) (2 ^ suc k));
    }
  where
    back : (a b : ℕ) → b ≤ a → a ≡ a - b + b
    back a b h = omega arith

fits_small : (s : Bool) (m : ℕ) (e : ℤ) → T (fits binary64 (fin s m e)) → m < 2 ^ 53
unfolding fits
fits_small s zero e t = pow_pos 53
fits_small s (suc m) e t =
    let a = eqb (suc m % 2) 1 in
    let b = ltb (suc m) (2 ^ 53) in
    let c = leb (down e) (2 ^ low binary64) in
    let d = ltb (suc m * up e) (2 ^ suc (emax binary64) * down e) in
    ltb→lt (suc m) (2 ^ 53) (and_r a b (and_l (a && b) c (and_l (a && b && c) d t)))

flat : (u d l : ℕ) → 0 < l → 0 < u → u * d ≡ 1 → d ≤ l
flat zero d l L U e = absurd (not_zero U)
  where
    not_zero : 0 < 0 → ⊥
    not_zero h = omega arith
flat (suc u) d l L U e = le_trans (le_trans (le_of_eq (sym (one-mul d))) (mul-le-mul_right d one_le)) (le_trans (le_of_eq e) L)
  where
    one_le : 1 ≤ suc u
    one_le = omega arith

fits_low : (s : Bool) (m : ℕ) (e : ℤ) → T (fits binary64 (fin s m e)) → down e ≤ 2 ^ low binary64
unfolding fits
fits_low s zero e t = flat (up e) (down e) (2 ^ low binary64) (pow_pos (low binary64)) (up_pos e) (eqb→eq (up e * down e) 1 t)
fits_low s (suc m) e t =
    let a = eqb (suc m % 2) 1 in
    let b = ltb (suc m) (2 ^ 53) in
    let c = leb (down e) (2 ^ low binary64) in
    let d = ltb (suc m * up e) (2 ^ suc (emax binary64) * down e) in
    leb→le (down e) (2 ^ low binary64) (and_r (a && b) c (and_l (a && b && c) d t))

-- ---- twice a value is exact

doubled : (s : Bool) (m : ℕ) (e : ℤ) → fin s m e ⊕ fin s m e ≡ round binary64 s (m * up e * down e + m * up e * down e) (down e * down e)
unfolding add
doubled s m e = rw (same_sign s)

-- in units: with M * L = m * J * D, the fraction (M * D + M * D) / (D * D) times L is m * (J * 2) * (D * D) over D * D
regroup : (M L m J D : ℕ) → M * L ≡ m * J * D → (M * D + M * D) * L ≡ m * (J * 2) * (D * D)
regroup M L m J D h =
    let a : M * D * L ≡ m * J * D * D = mul_right_comm M D L ∙ ap (λ (x : ℕ). x * D) h in
    add-mul (M * D) (M * D) L ∙ ap (λ (x : ℕ). x + x) a ∙ twice (m * J * D * D) ∙ simp (mul_assoc, mul_comm, mul_left_comm)
  where
    twice : (x : ℕ) → x + x ≡ x * 2
    twice x = omega arith

room : (M L m J D : ℕ) → 0 < D → M * L ≡ m * J * D → M ≤ 1048576 * D → m * (J * 2) ≤ 2 ^ 21 * L
room M L m J D P h b = le_of_mul-le-mul_right (le_trans (le_of_eq e1) (le_trans (mul-le-mul_right 2 (mul-le-mul_right L b)) (le_of_eq e2))) P
  where
    e1 : m * (J * 2) * D ≡ M * L * 2
    e1 = simp (mul_assoc, mul_comm, mul_left_comm) (ap (λ (x : ℕ). 2 * x) (sym (h ∙ mul_assoc m J D)))

    e2 : 1048576 * D * L * 2 ≡ 2 ^ 21 * L * D
    e2 = simp (mul_assoc, mul_comm, mul_left_comm) (omega arith)

twice : (s : Bool) (m : ℕ) (e : ℤ) → T (fits binary64 (fin s m e)) → m * up e ≤ 1048576 * down e
    → HasValue (fin s m e ⊕ fin s m e) s (m * up e * down e + m * up e * down e) (down e * down e)
twice s m e t b =
    let l = low binary64 in
    let u = in_units l m e (fits_low s m e t) in
    let j = u.shift in
    let p : 2 ^ j * 2 ≡ 2 ^ (j + 1) = sym (pow-add 2 j 1) in
    let r : m * (2 ^ j * 2) ≤ 2 ^ 21 * 2 ^ l = room (m * up e) (2 ^ l) m (2 ^ j) (down e) (down_pos e) u.same b in
    let q : 2 ^ 21 * 2 ^ l < overflow binary64 = lit< tt in
    subst (λ (z : Float). HasValue z s (m * up e * down e + m * up e * down e) (down e * down e)) (sym (doubled s m e))
    (round_exact binary64 s (m * up e * down e + m * up e * down e) (down e * down e) m (j + 1) (mul-pos (down_pos e) (down_pos e)) (fits_small s m e t)
    (subst (λ (x : ℕ). m * x < overflow binary64) p (lt_of_le_of_lt r q))
    (regroup (m * up e) (2 ^ l) m (2 ^ j) (down e) u.same ∙ ap (λ (x : ℕ). m * x * (down e * down e)) p))

-- ---- a value by its fraction: its whole part, and its bounds

whole_part : (y : Float) (s : Bool) (a c : ℕ) → 0 < c → a ≤ 2097152 * c → HasValue y s a c → to_signed 63 y ≡ cond s (neg_ℤ (pos (a / c))) (pos (a / c))
unfolding to_signed
whole_part nan s a c C b v = absurd v
whole_part (inf t) s a c C b v = absurd v
whole_part (fin true m e) false a c C b v = absurd (true≢false v.0)
whole_part (fin false m e) true a c C b v = absurd (true≢false (sym v.0))
whole_part (fin true m e) true a c C b v =
    let n : a / c ≤ 2097152 = div-le_of_le-mul c (le_trans b (le_of_eq (mul_comm 2097152 c))) in
    let k : a / c ≤ 2 ^ 63 = omega arith in
    rw (div_same (m * up e) (down e) a c (down_pos e) C v.1, min-eq_left k)
whole_part (fin false m e) false a c C b v =
    let n : a / c ≤ 2097152 = div-le_of_le-mul c (le_trans b (le_of_eq (mul_comm 2097152 c))) in
    let k : a / c ≤ 2 ^ 63 - 1 = omega arith in
    rw (div_same (m * up e) (down e) a c (down_pos e) C v.1, min-eq_left k)

cancel : (M D a c : ℕ) → 0 < c → M * c ≡ a * D → a ≤ 2097152 * c → M ≤ 2097152 * D
cancel M D a c C h b =
    le_of_mul-le-mul_right (le_trans (le_of_eq h) (le_trans (mul-le-mul_right D b) (le_of_eq (mul_right_comm 2097152 c D)))) C

pub record In (y : Float) : Type 0 where
  pub low_end : T (le (fin true 1 (pos 63)) y)
  pub high_end : T (lt y (fin false 1 (pos 63)))

ends : (y : Float) (s : Bool) (a c : ℕ) → 0 < c → a ≤ 2097152 * c → HasValue y s a c → In y
unfolding le lt
ends nan s a c C b v = absurd v
ends (inf t) s a c C b v = absurd v
ends (fin true m e) s a c C b v =
    let M = m * up e in
    let D = down e in
    let h : M ≤ 2097152 * D = cancel M D a c C v.1 b in
    let d : 0 < D = down_pos e in
    let x : M * 1 < 2 ^ 63 * D = omega arith in
    let y : 0 < M * 1 + 2 ^ 63 * D = omega arith in
    record { low_end = or_l (ltb (M * 1) (2 ^ 63 * D)) _ (lt→ltb (M * 1) (2 ^ 63 * D) x); high_end = lt→ltb 0 (M * 1 + 2 ^ 63 * D) y }
ends (fin false m e) s a c C b v =
    let M = m * up e in
    let D = down e in
    let h : M ≤ 2097152 * D = cancel M D a c C v.1 b in
    let d : 0 < D = down_pos e in
    let x : M * 1 < 2 ^ 63 * D = omega arith in
    let y : 0 < 2 ^ 63 * D + M * 1 = omega arith in
    record { low_end = or_l (ltb 0 (2 ^ 63 * D + M * 1)) _ (lt→ltb 0 (2 ^ 63 * D + M * 1) y); high_end = lt→ltb (M * 1) (2 ^ 63 * D) x }

-- ---- the whole part of twice the value, with one added, halves to the nearest whole number

half : (M D : ℕ) → 0 < D → ((M * D + M * D) / (D * D) + 1) / 2 ≡ (M * 2 + D) / (D * 2)
half M D P =
    ap (λ (n : ℕ). (n + 1) / 2) (div_same (M * D + M * D) (D * D) (M * 2) D (mul-pos P P) P e)
    ∙ ap (λ (n : ℕ). n / 2) (sym (add-div_right (M * 2) P))
    ∙ div-div-eq-div-mul (M * 2 + D) D 2
  where
    two_times : (x : ℕ) → x + x ≡ 2 * x
    two_times x = omega arith

    e : (M * D + M * D) * D ≡ M * 2 * (D * D)
    e = ap (λ (x : ℕ). x * D) (two_times (M * D)) ∙ simp (mul_assoc, mul_comm)

halved_neg : (n : ℕ) → halved (neg_ℤ (pos n)) ≡ neg_ℤ (pos ((n + 1) / 2))
unfolding halved
halved_neg zero = refl
halved_neg (suc n) = refl

pub record Halves (q : Float) : Type 0 where
  pub ends_in_law : In (q ⊕ q)
  pub small : mag (to_signed 63 (q ⊕ q)) ≤ 4194304
  pub right : halved (to_signed 63 (q ⊕ q)) ≡ rounded q

double_small : (M D : ℕ) → M ≤ 1048576 * D → M * D + M * D ≤ 2097152 * (D * D)
double_small M D h = let z : M * D ≤ 1048576 * (D * D) = le_trans (mul-le-mul_right D h) (le_of_eq (mul_assoc 1048576 D D)) in omega arith

halves : (s : Bool) (m : ℕ) (e : ℤ) → T (fits binary64 (fin s m e)) → m * up e ≤ 1048576 * down e → Halves (fin s m e)
unfolding rounded halved
halves s m e t b =
    let M = m * up e in
    let D = down e in
    let v = twice s m e t b in
    let C : 0 < D * D = mul-pos (down_pos e) (down_pos e) in
    let d : M * D + M * D ≤ 2097152 * (D * D) = double_small M D b in
    let y = fin s m e ⊕ fin s m e in
    let n = (M * D + M * D) / (D * D) in
    let w : to_signed 63 y ≡ cond s (neg_ℤ (pos n)) (pos n) = whole_part y s (M * D + M * D) (D * D) C d v in
    let k : n ≤ 2097152 = div-le_of_le-mul (D * D) (le_trans d (le_of_eq (mul_comm 2097152 (D * D)))) in
    record {
      ends_in_law = ends y s (M * D + M * D) (D * D) C d v;
      small = subst (λ (z : ℤ). mag z ≤ 4194304) (sym w) (size s n k);
      right = ap halved w ∙ by s n (half_up m e) (half M D (down_pos e));
    }
  where
    size : (s : Bool) (n : ℕ) → n ≤ 2097152 → mag (cond s (neg_ℤ (pos n)) (pos n)) ≤ 4194304
    size true n k = let z : mag (neg_ℤ (pos n)) ≤ n = mag_neg n in omega arith
    size false n k = omega arith

    by : (s : Bool) (n h : ℕ) → (n + 1) / 2 ≡ h → halved (cond s (neg_ℤ (pos n)) (pos n)) ≡ cond s (neg_ℤ (pos h)) (pos h)
    by true n h g = halved_neg n ∙ ap (λ (k : ℕ). neg_ℤ (pos k)) g
    by false n h g = ap pos g

-- ---- the quotient

quotient : (s : Bool) (m : ℕ) (e : ℤ) → fin s m e ⊘ half_pi ≡ round binary64 s (m * up e * 2 ^ 49) (884279719003555 * 1 * down e)
unfolding div of_bits
quotient true m e = refl
quotient false m e = refl

of_value : (q : Float) (s : Bool) (g l : ℕ) → 0 < l → T (fits binary64 q) → HasValue q s g l → g ≤ 1048576 * l → Halves q
of_value nan s g l L t v b = absurd v
of_value (inf r) s g l L t v b = absurd v
of_value (fin r m e) s g l L t v b =
    halves r m e t (le_of_mul-le-mul_right (le_trans (le_of_eq v.1) (le_trans (mul-le-mul_right (down e) b) (le_of_eq (mul_right_comm 1048576 l (down e))))) L)

near_quotient : (s : Bool) (m : ℕ) (e : ℤ) → m * up e ≤ 1048576 * down e → Halves (fin s m e ⊘ half_pi)
near_quotient s m e b =
    let a = m * up e * 2 ^ 49 in
    let c = 884279719003555 * 1 * down e in
    let P : 0 < down e = down_pos e in
    let C : 0 < c = omega arith in
    let h : a ≤ 1048576 * c = omega arith in
    let r = rounds s a c C h in
    subst Halves (sym (quotient s m e))
    (of_value (round binary64 s a c) s (grid binary64 a c) (2 ^ low binary64) (pow_pos (low binary64)) (round-fits binary64 s a c) r.value r.small)

pub near_halves : (x : Float) → T (near x) → Halves (x ⊘ half_pi)
unfolding near le lt eq of_bits neg
near_halves nan t = absurd t
near_halves (inf true) t = absurd t
near_halves (inf false) t = absurd t
near_halves (fin s m e) t = near_quotient s m e (near_fin s m e t)
