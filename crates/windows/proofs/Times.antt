-- The start and the steps of a window's arc lie where the code takes their whole numbers. Assumes nothing.
use Rattle.std.proofs.Common.{◌≡◌, ℕ, ◌+◌, ◌^◌, ◌≤◌, true, false, T, pos, refl, arith}
use lib.Ieee.{Float, fin, binary64, of_bits, le, lt, eq}
use lib.Ieee.Fits.{and_l, and_r, and_i}
use lib.Ieee.Scale.{finite}
use lib.Ieee.Bits.{is_true}
use Rattle.laws.specs.Floats.{zero⁺, zero64, ◌⊕◌, ◌⊖◌, ◌⊘◌}
use Rattle.laws.specs.Order.{le_tr, lt→le, lt_le_tr, le_lt_tr, sub_mono_l, add_mono_l}
use Rattle.laws.specs.WholeNumbers.{Is, is_le, number, number_is, add_int, sub_int, two_mul_int, half_int, half_mono, floor, between}
use Rattle.laws.specs.Times.{Time, bound, natural_le, natural_next, second, step}
use Rattle.numbers.specs.Seconds.{is_held, whole_second}
use Rattle.finality.specs.Arcs.{half_hour, start}
use Rattle.finality.proofs.WindowTimes.{k, k_le, P, N, floored, P-le, N-le}
use Rattle.windows.specs.Slots.{lowest, highest, within}

half_hour_is : Is half_hour 1800 0
unfolding of_bits
half_hour_is = record { is_finite = tt; value = refl }

lowest_is : Is lowest 0 2147483648
lowest_is = record { is_finite = tt; value = refl }

highest_is : Is highest 8589934592 0
highest_is = record { is_finite = tt; value = refl }

zero_is_zero : Is zero⁺ 0 0
zero_is_zero = record { is_finite = tt; value = refl }

bound_is : Is bound 2147483648 0
bound_is = record { is_finite = tt; value = refl }

module _ (a : Float) (at : Time a) where
  abbrev y : Float
  y = a ⊖ half_hour

  low_is : Is (zero⁺ ⊖ half_hour) (0 + 0) (0 + 1800)
  low_is = sub_int zero⁺ half_hour 0 0 1800 0 zero_is_zero half_hour_is (omega arith) (omega arith)

  high_is : Is (bound ⊖ half_hour) (2147483648 + 0) (0 + 1800)
  high_is = sub_int bound half_hour 2147483648 0 1800 0 bound_is half_hour_is (omega arith) (omega arith)

  low : T (le (zero⁺ ⊖ half_hour) y)
  low = sub_mono_l binary64 zero⁺ a half_hour half_hour_is.is_finite at.from_zero

  high : T (le y (bound ⊖ half_hour))
  high = sub_mono_l binary64 a bound half_hour half_hour_is.is_finite at.to_bound

  y_finite : T (finite y)
  y_finite = between (zero⁺ ⊖ half_hour) y (bound ⊖ half_hour) low_is.is_finite high_is.is_finite low high

  pub start_low : T (le lowest (y ⊘ step))
  start_low =
      le_tr lowest ((zero⁺ ⊖ half_hour) ⊘ step) (y ⊘ step)
      (is_le lowest ((zero⁺ ⊖ half_hour) ⊘ step) 0 2147483648 0 900 lowest_is (half_int (zero⁺ ⊖ half_hour) 0 900 low_is (omega arith) (omega arith)) (omega arith))
      (half_mono (zero⁺ ⊖ half_hour) y low_is.is_finite y_finite low)

  pub start_high : T (le (y ⊘ step) highest)
  start_high =
      let e : Is (bound ⊖ half_hour) (1073741824 + 1073741824) (900 + 900) = high_is in
      le_tr (y ⊘ step) ((bound ⊖ half_hour) ⊘ step) highest
      (half_mono y (bound ⊖ half_hour) y_finite high_is.is_finite high)
      (is_le ((bound ⊖ half_hour) ⊘ step) highest 1073741824 900 8589934592 0 (half_int (bound ⊖ half_hour) 1073741824 900 e (omega arith) (omega arith)) highest_is (omega arith))

module _ (a b : Float) (at : Time a) (bt : Time b) (ab : T (le a b)) where
  pub start_is : Is (start a) (P a b at bt ab) (N a b at bt ab)
  unfolding start
  start_is =
      let f = floored a b at bt ab in
      two_mul_int (floor ((a ⊖ half_hour) ⊘ step)) f.P f.N f.is (omega (arith, k_le a b at bt ab, f.top)) (omega (arith, f.bottom))

  abbrev w : Float
  w = (b ⊕ half_hour) ⊖ start a

  around : (m : ℕ) → m ≤ 2 ^ 31 + 1 → Is ((number m ⊕ half_hour) ⊖ start a) (m + 1800 + N a b at bt ab) (0 + 0 + P a b at bt ab)
  around m h =
      sub_int (number m ⊕ half_hour) (start a) (m + 1800) (0 + 0) (P a b at bt ab) (N a b at bt ab)
      (add_int (number m) half_hour m 0 1800 0 (number_is m (omega arith)) half_hour_is (omega arith) (omega arith)) start_is
      (omega (arith, N-le a b at bt ab)) (omega (arith, P-le a b at bt ab, k_le a b at bt ab))

  from_below : T (le ((number (k a b at bt ab) ⊕ half_hour) ⊖ start a) w)
  from_below = sub_mono_l binary64 (number (k a b at bt ab) ⊕ half_hour) (b ⊕ half_hour) (start a) start_is.is_finite
      (add_mono_l binary64 (number (k a b at bt ab)) b half_hour half_hour_is.is_finite (natural_le b bt))

  from_above : T (le w ((number (k a b at bt ab + 1) ⊕ half_hour) ⊖ start a))
  from_above = sub_mono_l binary64 (b ⊕ half_hour) (number (k a b at bt ab + 1) ⊕ half_hour) (start a) start_is.is_finite
      (add_mono_l binary64 b (number (k a b at bt ab + 1)) half_hour half_hour_is.is_finite (natural_next b bt))

  lower_is : Is ((number (k a b at bt ab) ⊕ half_hour) ⊖ start a) (k a b at bt ab + 1800 + N a b at bt ab) (0 + 0 + P a b at bt ab)
  lower_is = around (k a b at bt ab) (omega (arith, k_le a b at bt ab))

  upper_is : Is ((number (k a b at bt ab + 1) ⊕ half_hour) ⊖ start a) (k a b at bt ab + 1 + 1800 + N a b at bt ab) (0 + 0 + P a b at bt ab)
  upper_is = around (k a b at bt ab + 1) (omega (arith, k_le a b at bt ab))

  w_low : T (le zero⁺ w)
  w_low = le_tr zero⁺ ((number (k a b at bt ab) ⊕ half_hour) ⊖ start a) w (is_le zero⁺ ((number (k a b at bt ab) ⊕ half_hour) ⊖ start a) 0 0 _ _ zero_is_zero lower_is (omega (arith, P-le a b at bt ab)))
      from_below

  w_high : T (le w highest)
  w_high = le_tr w ((number (k a b at bt ab + 1) ⊕ half_hour) ⊖ start a) highest from_above
      (is_le ((number (k a b at bt ab + 1) ⊕ half_hour) ⊖ start a) highest _ _ 8589934592 0 upper_is highest_is (omega (arith, k_le a b at bt ab, N-le a b at bt ab)))

  w_finite : T (finite w)
  w_finite = between zero⁺ w highest tt tt w_low w_high

  pub steps_low : T (le zero64 (w ⊘ step))
  unfolding of_bits
  steps_low = le_tr zero64 (zero⁺ ⊘ step) (w ⊘ step)
      (is_le zero64 (zero⁺ ⊘ step) 0 0 0 0 (record { is_finite = tt; value = refl }) (half_int zero⁺ 0 0 zero_is_zero (omega arith) (omega arith)) (omega arith)) (half_mono zero⁺ w tt w_finite w_low)

  pub steps_high : T (le (w ⊘ step) highest)
  steps_high =
      let e : Is highest (4294967296 + 4294967296) (0 + 0) = highest_is in
      le_tr (w ⊘ step) (highest ⊘ step) highest (half_mono w highest w_finite tt w_high)
      (is_le (highest ⊘ step) highest 4294967296 0 8589934592 0 (half_int highest 4294967296 0 e (omega arith) (omega arith)) highest_is (omega arith))

-- ---- the second of a time in a window is an i64

under : T (le (fin true 1 (pos 63)) zero⁺)
unfolding le lt eq
under = tt

over : T (lt bound (fin false 1 (pos 63)))
unfolding lt
over = tt

pub held_inside : (from to t : Float) → Time from → Time to → T (within from to t) → whole_second t ≡ second t
unfolding whole_second
held_inside from to t ft ut h = rw (is_true (is_held t) held)
  where
    held : T (is_held t)
    held =
        and_i (le (fin true 1 (pos 63)) t) (lt t (fin false 1 (pos 63)))
        (le_tr (fin true 1 (pos 63)) zero⁺ t under (le_tr zero⁺ from t ft.from_zero (and_l (le from t) (lt t to) h)))
        (lt_le_tr t to (fin false 1 (pos 63)) (and_r (le from t) (lt t to) h) (lt→le to (fin false 1 (pos 63)) (le_lt_tr to bound (fin false 1 (pos 63)) ut.to_bound over)))
