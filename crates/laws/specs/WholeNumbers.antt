-- Whole numbers in floats: sums, differences, doubles and halves of whole numbers up to 2 ^ 53 are exact, and `ceil` and `floor` lie where they should.
-- With monotone rounding (Order) this bounds a rounded expression without error terms: squeeze it between whole numbers. Assumes nothing.
use Rattle.std.specs.Prelude.{◌≡◌, refl, Bool, true, false, cond, T, ℤ, pos, Float}
use Rattle.std.proofs.Common.{sym, ap, ◌∙◌, subst, arith, true≢false}
use Prim.Native.Nat.{ℕ, suc, ◌+◌, ◌-◌, ◌*◌, ◌/◌, ◌^◌, ◌≤◌, ◌<◌, min}
use native.Mathlib.Nat.{le_trans, add-mul, mul-add, mul-one, one-mul, mul_comm, mul_assoc, mul_left_comm, mul_right_comm, mul-pos, mul-le-mul_right}
use native.Mathlib.Nat.{le_of_suc-le-suc, div-lt_iff_lt-mul}
use Rattle.std.specs.Float.{nan, inf, fin, binary64}
use Rattle.std.specs.Float.Ieee.{up, down, round, neg, add, sub, mul, div, of_int, of_bits, le, lt}
use Rattle.std.specs.Float.Ieee.Fits.{down_pos}
use Rattle.std.specs.Float.Ieee.Exact.{HasValue}
use Rattle.std.specs.Float.Ieee.Back.{round_whole}
use Rattle.std.specs.Float.Ieee.Scale.{round_same, finite}
use Rattle.laws.specs.Floats.{two64}
use Rattle.laws.specs.Signed.{plus, minus, p, n, d, d_pos, order_of_le, le_of_order, lt_of_strict}
use Rattle.laws.specs.Order.{add_is, round_signed, neg_finite, neg_p, neg_n, neg_d, no_bottom, le_real_r}

-- ---- a natural number as a float
unfoldable pub number : ℕ → Float
number k = of_int binary64 (pos k)

-- ---- x is the whole number P - N
pub record Is (x : Float) (P N : ℕ) : Type 0 where
  pub is_finite : T (finite x)
  pub value : p x + N * d x ≡ P * d x + n x

pub is_le : (x y : Float) (P N Q M : ℕ) → Is x P N → Is y Q M → P + M ≤ Q + N → T (le x y)
is_le x y P N Q M i j h =
    let a : p x * d y + N * d x * d y ≡ P * d x * d y + n x * d y = simp (mul_assoc, mul_comm, mul_left_comm)
    (simp (add-mul, mul_assoc, mul_comm, mul_left_comm) at (ap (λ (k : ℕ). k * d y) i.value)) in
    let b : p y * d x + M * d x * d y ≡ Q * d x * d y + n y * d x = simp (mul_assoc, mul_comm, mul_left_comm)
    (simp (add-mul, mul_assoc, mul_comm, mul_left_comm) at (ap (λ (k : ℕ). k * d x) j.value)) in
    let c : P * d x * d y + M * d x * d y ≤ Q * d x * d y + N * d x * d y = simp (mul_assoc, mul_comm, mul_left_comm)
    (simp (add-mul, mul_assoc, mul_comm, mul_left_comm) at (mul-le-mul_right (d x * d y) h)) in
    le_of_order x y i.is_finite j.is_finite (omega arith)

pub is_lt : (x y : Float) (P N Q M : ℕ) → Is x P N → Is y Q M → P + M < Q + N → T (lt x y)
is_lt x y P N Q M i j h =
    let a : p x * d y + N * d x * d y ≡ P * d x * d y + n x * d y = simp (mul_assoc, mul_comm, mul_left_comm)
    (simp (add-mul, mul_assoc, mul_comm, mul_left_comm) at (ap (λ (k : ℕ). k * d y) i.value)) in
    let b : p y * d x + M * d x * d y ≡ Q * d x * d y + n y * d x = simp (mul_assoc, mul_comm, mul_left_comm)
    (simp (add-mul, mul_assoc, mul_comm, mul_left_comm) at (ap (λ (k : ℕ). k * d x) j.value)) in
    let c : P * d x * d y + M * d x * d y < Q * d x * d y + N * d x * d y =
    simp (mul_assoc, mul_comm, mul_left_comm)
    (simp (add-mul, mul_assoc, mul_comm, mul_left_comm) at (native.Mathlib.Nat.mul-lt-mul_of_pos_right {k = d x * d y} h (mul-pos (d_pos x) (d_pos y))))
    in
    lt_of_strict x y i.is_finite j.is_finite (omega arith)

-- ---- what `round` gives for a whole number
pub whole_is : (x : Float) (s : Bool) (k : ℕ) → HasValue x s k 1 → Is x (plus s k) (minus s k)
whole_is nan s k h = absurd h
whole_is (inf t) s k h = absurd h
whole_is (fin true m e) true k h = record { is_finite = tt; value = omega (arith, h.1) }
whole_is (fin false m e) false k h = record { is_finite = tt; value = omega (arith, h.1) }
whole_is (fin true m e) false k h = absurd (true≢false h.0)
whole_is (fin false m e) true k h = absurd (true≢false (sym h.0))

pub is_shift : (x : Float) (P N Q M : ℕ) → P + M ≡ Q + N → Is x P N → Is x Q M
is_shift x P N Q M e i =
    let a : P * d x + M * d x ≡ Q * d x + N * d x = sym (add-mul P M (d x)) ∙ ap (λ (k : ℕ). k * d x) e ∙ add-mul Q N (d x) in
    let b = i.value in
    record { is_finite = i.is_finite; value = omega (arith, a, b) }

pub number_is : (k : ℕ) → k ≤ 2 ^ 53 → Is (number k) k 0
unfolding number of_int
number_is k h = whole_is (round binary64 false k 1) false k (round_whole binary64 false k h)

low_part : (k c P N : ℕ) → 0 < c → k + P * c ≡ N * c → P ≤ N
low_part k c P N C h = native.Mathlib.Nat.le_of_mul-le-mul_right {k = c} (omega arith) C

cancel : (k c P N : ℕ) → 0 < c → k + P * c ≡ N * c → k ≡ (N - P) * c
cancel k c P N C h =
    let g : (N - P) * c ≡ N * c - P * c =
    mul_comm (N - P) c ∙ native.Mathlib.Nat.mul-sub c N P ∙ ap (λ (i : ℕ). i - c * P) (mul_comm c N) ∙ ap (λ (i : ℕ). N * c - i) (mul_comm c P) in
    omega arith

-- a fraction ±k / c that is the whole number P - N
round_int : (s : Bool) (k c P N : ℕ) → 0 < c → plus s k + N * c ≡ minus s k + P * c → P ≤ 2 ^ 53 + N → N ≤ 2 ^ 53 + P → Is (round binary64 s k c) P N
round_int true k c P N C h a b =
    let K = N - P in
    let e : k * 1 ≡ K * c = mul-one k ∙ cancel k c P N C (omega arith) in
    subst (λ (x : Float). Is x P N) (sym (round_same binary64 true k c K 1 C (omega arith) e))
    (is_shift (round binary64 true K 1) 0 K P N (omega (arith, low_part k c P N C (omega arith)))
    (whole_is (round binary64 true K 1) true K (round_whole binary64 true K (omega arith))))
round_int false k c P N C h a b =
    let K = P - N in
    let e : k * 1 ≡ K * c = mul-one k ∙ cancel k c N P C (omega arith) in
    subst (λ (x : Float). Is x P N) (sym (round_same binary64 false k c K 1 C (omega arith) e))
    (is_shift (round binary64 false K 1) K 0 P N (omega (arith, low_part k c N P C (omega arith)))
    (whole_is (round binary64 false K 1) false K (round_whole binary64 false K (omega arith))))

-- ---- sums and differences of whole numbers
pub add_int : (x y : Float) (P N Q M : ℕ) → Is x P N → Is y Q M → P + Q ≤ 2 ^ 53 + (N + M) → N + M ≤ 2 ^ 53 + (P + Q) → Is (add binary64 x y) (P + Q) (N + M)
add_int x y P N Q M i j h k =
    let g = add_is binary64 x y i.is_finite j.is_finite in
    let a : p x * d y + N * (d x * d y) ≡ P * (d x * d y) + n x * d y = simp (mul_assoc, mul_comm, mul_left_comm)
    (simp (add-mul, mul_assoc, mul_comm, mul_left_comm) at (ap (λ (v : ℕ). v * d y) i.value)) in
    let b : p y * d x + M * (d x * d y) ≡ Q * (d x * d y) + n y * d x = simp (mul_assoc, mul_comm, mul_left_comm)
    (simp (add-mul, mul_assoc, mul_comm, mul_left_comm) at (ap (λ (v : ℕ). v * d x) j.value)) in
    let c1 = add-mul P Q (d x * d y) in
    let c2 = add-mul N M (d x * d y) in
    subst (λ (w : Float). Is w (P + Q) (N + M)) (sym g.2)
    (round_int g.0 g.1 (d x * d y) (P + Q) (N + M) (mul-pos (d_pos x) (d_pos y)) (omega (arith, g.3, a, b, c1, c2)) h k)

pub neg_int : (x : Float) (P N : ℕ) → Is x P N → Is (neg x) N P
neg_int x P N i = record { is_finite = neg_finite x i.is_finite; value = simp (neg_p, neg_n, neg_d) (omega (arith, i.value)) }

pub sub_int : (x y : Float) (P N Q M : ℕ) → Is x P N → Is y Q M → P + M ≤ 2 ^ 53 + (N + Q) → N + Q ≤ 2 ^ 53 + (P + M) → Is (sub binary64 x y) (P + M) (N + Q)
unfolding sub
sub_int x y P N Q M i j h k = add_int x (neg y) P N M Q i (neg_int y Q M j) h k

-- ---- twice and half
twice : (a c : ℕ) → a * (1 * 2 * c) ≡ a * c + a * c
twice a c = ap (λ (v : ℕ). a * v) (w c) ∙ mul-add a c c
  where
    w : (c : ℕ) → 1 * 2 * c ≡ c + c
    w c = omega arith

pub mul_two : (x : Float) (P N : ℕ) → Is x P N → P + P ≤ 2 ^ 53 → N + N ≤ 2 ^ 53 → Is (mul binary64 x two64) (P + P) (N + N)
unfolding mul of_bits
mul_two nan P N i h k = absurd i.is_finite
mul_two (inf s) P N i h k = absurd i.is_finite
mul_two (fin true m e) P N i h k =
    round_int true (m * up e * (1 * 2)) (down e * 1) (P + P) (N + N) (mul-pos (down_pos e) (omega arith))
    (rw (mul-one (down e)) (omega (arith, i.value, add-mul P P (down e), add-mul N N (down e)))) (omega arith) (omega arith)
mul_two (fin false m e) P N i h k =
    round_int false (m * up e * (1 * 2)) (down e * 1) (P + P) (N + N) (mul-pos (down_pos e) (omega arith))
    (rw (mul-one (down e)) (omega (arith, i.value, add-mul P P (down e), add-mul N N (down e)))) (omega arith) (omega arith)

pub two_mul_int : (x : Float) (P N : ℕ) → Is x P N → P + P ≤ 2 ^ 53 → N + N ≤ 2 ^ 53 → Is (mul binary64 two64 x) (P + P) (N + N)
unfolding mul of_bits
two_mul_int nan P N i h k = absurd i.is_finite
two_mul_int (inf s) P N i h k = absurd i.is_finite
two_mul_int (fin true m e) P N i h k =
    round_int true (1 * 2 * (m * up e)) (1 * down e) (P + P) (N + N) (mul-pos {m = 1} (omega arith) (down_pos e))
    (rw (one-mul (down e)) (omega (arith, i.value, add-mul P P (down e), add-mul N N (down e)))) (omega arith) (omega arith)
two_mul_int (fin false m e) P N i h k =
    round_int false (1 * 2 * (m * up e)) (1 * down e) (P + P) (N + N) (mul-pos {m = 1} (omega arith) (down_pos e))
    (rw (one-mul (down e)) (omega (arith, i.value, add-mul P P (down e), add-mul N N (down e)))) (omega arith) (omega arith)

pub half_int : (x : Float) (P N : ℕ) → Is x (P + P) (N + N) → P ≤ 2 ^ 53 → N ≤ 2 ^ 53 → Is (div binary64 x two64) P N
unfolding div of_bits
half_int nan P N i h k = absurd i.is_finite
half_int (inf s) P N i h k = absurd i.is_finite
half_int (fin true m e) P N i h k = round_int true (m * up e * 1) (1 * 2 * down e) P N (mul-pos {m = 1 * 2} (omega arith) (down_pos e))
    (omega (arith, i.value, twice P (down e), twice N (down e), add-mul P P (down e), add-mul N N (down e))) (omega arith) (omega arith)
half_int (fin false m e) P N i h k = round_int false (m * up e * 1) (1 * 2 * down e) P N (mul-pos {m = 1 * 2} (omega arith) (down_pos e))
    (omega (arith, i.value, twice P (down e), twice N (down e), add-mul P P (down e), add-mul N N (down e))) (omega arith) (omega arith)

pub half_mono : (x y : Float) → T (finite x) → T (finite y) → T (le x y) → T (le (div binary64 x two64) (div binary64 y two64))
unfolding div of_bits
half_mono nan y q r h = absurd q
half_mono (inf s) y q r h = absurd q
half_mono (fin s m e) nan q r h = absurd r
half_mono (fin s m e) (inf t) q r h = absurd r
half_mono (fin true m e) (fin true i j) q r h = round_signed binary64 true (m * up e * 1) (1 * 2 * down e) true (i * up j * 1) (1 * 2 * down j)
    (mul-pos {m = 1 * 2} (omega arith) (down_pos e))
    (mul-pos {m = 1 * 2} (omega arith) (down_pos j)) (scaled (m * up e) (i * up j) (down e) (down j) (order_of_le (fin true m e) (fin true i j) tt tt h))
  where
    scaled : (a b c g : ℕ) → 0 * g + b * c ≤ 0 * c + a * g → 0 * (1 * 2 * g) + b * 1 * (1 * 2 * c) ≤ 0 * (1 * 2 * c) + a * 1 * (1 * 2 * g)
    scaled a b c g h = rw (mul-one a, mul-one b) (omega (arith, twice b c, twice a g))
half_mono (fin true m e) (fin false i j) q r h = round_signed binary64 true (m * up e * 1) (1 * 2 * down e) false (i * up j * 1) (1 * 2 * down j)
    (mul-pos {m = 1 * 2} (omega arith) (down_pos e))
    (mul-pos {m = 1 * 2} (omega arith) (down_pos j)) (omega arith)
half_mono (fin false m e) (fin true i j) q r h = round_signed binary64 false (m * up e * 1) (1 * 2 * down e) true (i * up j * 1) (1 * 2 * down j)
    (mul-pos {m = 1 * 2} (omega arith) (down_pos e))
    (mul-pos {m = 1 * 2} (omega arith) (down_pos j)) (scaled (m * up e) (i * up j) (down e) (down j) (order_of_le (fin false m e) (fin true i j) tt tt h))
  where
    scaled : (a b c g : ℕ) → a * g + b * c ≤ 0 * c + 0 * g → a * 1 * (1 * 2 * g) + b * 1 * (1 * 2 * c) ≤ 0 * (1 * 2 * c) + 0 * (1 * 2 * g)
    scaled a b c g h = rw (mul-one a, mul-one b) (omega (arith, twice b c, twice a g))
half_mono (fin false m e) (fin false i j) q r h = round_signed binary64 false (m * up e * 1) (1 * 2 * down e) false (i * up j * 1) (1 * 2 * down j)
    (mul-pos {m = 1 * 2} (omega arith) (down_pos e))
    (mul-pos {m = 1 * 2} (omega arith) (down_pos j)) (scaled (m * up e) (i * up j) (down e) (down j) (order_of_le (fin false m e) (fin false i j) tt tt h))
  where
    scaled : (a b c g : ℕ) → a * g + 0 * c ≤ b * c + 0 * g → a * 1 * (1 * 2 * g) + 0 * (1 * 2 * c) ≤ b * 1 * (1 * 2 * c) + 0 * (1 * 2 * g)
    scaled a b c g h = rw (mul-one a, mul-one b) (omega (arith, twice b c, twice a g))

-- ---- `ceil` and then the cast to an unsigned number of 64 bits; `floor`
abbrev ceil_div : ℕ → ℕ → ℕ
ceil_div a c = (a + (c - 1)) / c

unfoldable pub ceil : Float → ℕ
ceil nan = 0
ceil (inf s) = cond s 0 (2 ^ 64 - 1)
ceil (fin true m e) = 0
ceil (fin false m e) = min (ceil_div (m * up e) (down e)) (2 ^ 64 - 1)

unfoldable pub floor : Float → Float
floor nan = nan
floor (inf s) = inf s
floor (fin true m e) = neg (number (ceil_div (m * up e) (down e)))
floor (fin false m e) = number (m * up e / down e)

ceil_div_le : (a c J : ℕ) → 0 < c → a ≤ J * c → ceil_div a c ≤ J
ceil_div_le a c J C h = le_of_suc-le-suc ((div-lt_iff_lt-mul {k = c} {x = a + (c - 1)} {y = suc J} C).1 (omega (arith, native.Mathlib.Nat.suc-mul J c)))

at_most : (x y : Float) (m : ℕ) (e : ℤ) (J : ℕ) → x ≡ fin false m e → T (le x y) → Is y J 0 → m * up e ≤ J * down e
at_most x y m e J q h i =
    let o = order_of_le (fin false m e) y tt i.is_finite (subst (λ (w : Float). T (le w y)) q h) in
    let pv : p y ≡ J * d y + n y = omega (arith, i.value) in
    let v : p y * down e ≡ J * down e * d y + n y * down e = ap (λ (k : ℕ). k * down e) pv ∙ add-mul (J * d y) (n y) (down e)
    ∙ ap (λ (k : ℕ). k + n y * down e) (mul_right_comm J (d y) (down e)) in
    native.Mathlib.Nat.le_of_mul-le-mul_right {k = d y} (omega (arith, o, v)) (d_pos y)

pub ceil_le : (x y : Float) (J : ℕ) → T (finite x) → T (le x y) → Is y J 0 → ceil x ≤ J
unfolding ceil
ceil_le nan y J q h i = absurd q
ceil_le (inf s) y J q h i = absurd q
ceil_le (fin true m e) y J q h i = Prim.Native.Nat.zero-le
ceil_le (fin false m e) y J q h i =
    le_trans (native.Mathlib.Nat.min-le_left (ceil_div (m * up e) (down e)) (2 ^ 64 - 1))
    (ceil_div_le (m * up e) (down e) J (down_pos e) (at_most (fin false m e) y m e J refl h i))

-- the floor of x is the whole number P - N, from -least to most, and the largest whole number that is at most x
pub record Floored (x : Float) (most least : ℕ) : Type 0 where
  pub P : ℕ
  pub N : ℕ
  pub is : Is (floor x) P N
  pub top : P ≤ most
  pub bottom : N ≤ least
  pub largest : (y : Float) (Q M : ℕ) → Is y Q M → T (le y x) → Q + N ≤ P + M

pub under_div : (a c k : ℕ) → 0 < c → a ≤ k * c → a / c ≤ k
under_div a c k C h = le_of_suc-le-suc ((div-lt_iff_lt-mul {k = c} {x = a} {y = suc k} C).1 (omega (arith, native.Mathlib.Nat.suc-mul k c)))

at_least : (x : Float) (m : ℕ) (e : ℤ) (K : ℕ) → T (le x (fin true m e)) → Is x 0 K → m * up e ≤ K * down e
at_least x m e K h i =
    let o = order_of_le x (fin true m e) i.is_finite tt h in
    let pv : p x + K * d x ≡ n x = omega (arith, i.value) in
    let v : p x * down e + K * down e * d x ≡ n x * down e = ap (λ (k : ℕ). p x * down e + k) (mul_right_comm K (down e) (d x))
    ∙ sym (add-mul (p x) (K * d x) (down e))
    ∙ ap (λ (k : ℕ). k * down e) pv in
    native.Mathlib.Nat.le_of_mul-le-mul_right {k = d x} (omega (arith, o, v)) (d_pos x)

-- a whole number Q - M at most ±m / c
below_plus : (y : Float) (Q M m : ℕ) (e : ℤ) → Is y Q M → T (le y (fin false m e)) → Q * down e ≤ m * up e + M * down e
below_plus y Q M m e i h =
    let o = order_of_le y (fin false m e) i.is_finite tt h in
    let v : p y * down e + M * down e * d y ≡ Q * down e * d y + n y * down e = simp (mul_assoc, mul_comm, mul_left_comm)
    (simp (add-mul, mul_assoc, mul_comm, mul_left_comm) at (ap (λ (k : ℕ). k * down e) i.value)) in
    native.Mathlib.Nat.le_of_mul-le-mul_right {k = d y} (omega (arith, o, v, add-mul (m * up e) (M * down e) (d y))) (d_pos y)

below_minus : (y : Float) (Q M m : ℕ) (e : ℤ) → Is y Q M → T (le y (fin true m e)) → Q * down e + m * up e ≤ M * down e
below_minus y Q M m e i h =
    let o = order_of_le y (fin true m e) i.is_finite tt h in
    let v : p y * down e + M * down e * d y ≡ Q * down e * d y + n y * down e = simp (mul_assoc, mul_comm, mul_left_comm)
    (simp (add-mul, mul_assoc, mul_comm, mul_left_comm) at (ap (λ (k : ℕ). k * down e) i.value)) in
    native.Mathlib.Nat.le_of_mul-le-mul_right {k = d y} (omega (arith, o, v, add-mul (Q * down e) (m * up e) (d y))) (d_pos y)

pub less_mul : (Q M c : ℕ) → (Q - M) * c ≡ Q * c - M * c
less_mul Q M c = mul_comm (Q - M) c ∙ native.Mathlib.Nat.mul-sub c Q M ∙ ap (λ (v : ℕ). v - c * M) (mul_comm c Q) ∙ ap (λ (v : ℕ). Q * c - v) (mul_comm c M)

-- the floor of a value between -least and most
pub floor_whole : (lo x hi : Float) (most least : ℕ) → T (finite x) → T (le lo x) → T (le x hi) → Is lo 0 least → Is hi most 0 → most ≤ 2 ^ 53
    → least ≤ 2 ^ 53 → Floored x most least
unfolding floor
floor_whole lo nan hi a b q h k i j u v = absurd q
floor_whole lo (inf s) hi a b q h k i j u v = absurd q
floor_whole lo (fin true m e) hi a b q h k i j u v =
    let c : ceil_div (m * up e) (down e) ≤ b = ceil_div_le (m * up e) (down e) b (down_pos e) (at_least lo m e b h i) in
    record {
      P = 0;
      N = ceil_div (m * up e) (down e);
      is = neg_int (number (ceil_div (m * up e) (down e))) (ceil_div (m * up e) (down e)) 0 (number_is (ceil_div (m * up e) (down e)) (le_trans c v));
      top = Prim.Native.Nat.zero-le;
      bottom = c;
      largest = λ y Q M g l.
          let w = below_minus y Q M m e g l in
          let low : Q ≤ M = native.Mathlib.Nat.le_of_mul-le-mul_right {k = down e} (omega (arith, w)) (down_pos e) in
          let z : ceil_div (m * up e) (down e) ≤ M - Q = ceil_div_le (m * up e) (down e) (M - Q) (down_pos e) (omega (arith, w, less_mul M Q (down e))) in
          omega (arith, low, z);
    }
floor_whole lo (fin false m e) hi a b q h k i j u v =
    let c : m * up e / down e ≤ a = under_div (m * up e) (down e) a (down_pos e) (at_most (fin false m e) hi m e a refl k j) in
    record {
      P = m * up e / down e;
      N = 0;
      is = number_is (m * up e / down e) (le_trans c u);
      top = c;
      bottom = Prim.Native.Nat.zero-le;
      largest = λ y Q M g l.
          let z : Q - M ≤ m * up e / down e = (native.Mathlib.Nat.le-div_iff_mul-le (down_pos e)).1
          (omega (arith, below_plus y Q M m e g l, less_mul Q M (down e))) in
          omega (arith, z);
    }

-- ---- what lies between finite values is finite
pub between : (lo x hi : Float) → T (finite lo) → T (finite hi) → T (le lo x) → T (le x hi) → T (finite x)
between lo nan hi q r h k = absurd (le_real_r lo nan h)
between nan (inf s) hi q r h k = absurd q
between (inf u) (inf s) hi q r h k = absurd q
between (fin u m e) (inf true) hi q r h k = absurd (no_bottom u m e h)
between (fin u m e) (inf false) nan q r h k = absurd r
between (fin u m e) (inf false) (inf t) q r h k = absurd r
between (fin u m e) (inf false) (fin t i j) q r h k = absurd (unfold le in k)
between lo (fin s m e) hi q r h k = tt
