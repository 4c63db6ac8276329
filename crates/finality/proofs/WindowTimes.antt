-- The times of a window (a, b) of nodes, by monotone rounding and whole numbers only. Every time that its arc asks lies below b + 1,804, rounded; and where b - a, rounded,
-- is below 7,000, the arc has at most 5,301 steps and the window leaves at most 3,500 states. Assumes nothing.
use mathlib.Core.Path.{refl}
use mathlib.Core.Logic.{inl, inr}
use Prim.Native.Nat.{ℕ, suc, ◌+◌, ◌-◌, ◌/◌, ◌^◌, ◌≤◌, ◌<◌, zero-le}
use native.Mathlib.Nat.{le_refl}
use native.Mathlib.Omega.{arith}
use mathlib.Core.Bool.{Bool, ◌&&◌}
use mathlib.Core.List.{List, [], ◌∷◌}
use lib.Dec.{T, ltb, ltb→lt, nltb→le}
use lib.Signed.{lt_z}
use lib.ListN.{length}
use lib.Ieee.{Float, binary64, of_bits, le, lt}
use lib.Ieee.Fits.{and_l, and_r}
use lib.Ieee.Scale.{finite}
use Rattle.laws.specs.Floats.{zero⁺, ◌⊕◌, ◌⊖◌, ◌⊗◌, ◌⊘◌}
use Rattle.laws.specs.Lists.{cond_ind, decide}
use Rattle.laws.specs.Signed.{finite→real}
use Rattle.laws.specs.Order.{le_tr, lt→le, lt_le_tr, le_or_lt, lt→nle, add_mono_l, sub_mono_l, sub_anti_r}
use Rattle.laws.specs.WholeNumbers.{Is, is_le, is_lt, is_shift, number, number_is, add_int, sub_int, mul_two, two_mul_int, half_int, half_mono, floor, ceil_le, Floored, floor_whole, between}
use Rattle.laws.specs.Times.{Time, natural, natural_le, natural_bound, natural_next, second, second_time, second_below, whole_second_law, step, step_time}
use Rattle.finality.specs.Tables.{Table}
use Rattle.finality.specs.Stages.{fit_seconds, reach}
use Rattle.finality.specs.Arcs.{half_hour, half_step, longest, start, steps, inside}
use Rattle.finality.proofs.Reach.{reach_mono, reach_number}

half_hour_is : Is half_hour 1800 0
unfolding of_bits
half_hour_is = record { is_finite = tt; value = refl }

half_step_is : Is half_step 1 0
unfolding of_bits
half_step_is = record { is_finite = tt; value = refl }

step_is_two : Is step 2 0
unfolding of_bits
step_is_two = record { is_finite = tt; value = refl }

longest_is : Is longest 7000 0
unfolding of_bits
longest_is = record { is_finite = tt; value = refl }

module _ (a b : Float) (at : Time a) (bt : Time b) (ab : T (le a b)) where
  abbrev pub k : ℕ
  k = natural b

  pub k_le : k ≤ 2 ^ 31
  k_le = natural_bound b bt

  a_top_law : T (le a (number (k + 1)))
  a_top_law = le_tr a b (number (k + 1)) ab (natural_next b bt)

  a_bottom : T (le (number 0) a)
  a_bottom = le_tr (number 0) zero⁺ a (is_le (number 0) zero⁺ 0 0 0 0 (number_is 0 (omega arith)) (record { is_finite = tt; value = refl }) (le_refl 0)) at.from_zero

  -- a - 1800 lies between -1800 and 2 * J
  abbrev pub J : ℕ
  J = (k + 2 - 1800) / 2

  abbrev pub y : Float
  y = a ⊖ half_hour

  lo1_is : Is (number 0 ⊖ half_hour) (0 + 0) (0 + 1800)
  lo1_is = sub_int (number 0) half_hour 0 0 1800 0 (number_is 0 (omega arith)) half_hour_is (omega arith) (omega arith)

  lo1 : T (le (number 0 ⊖ half_hour) y)
  lo1 = sub_mono_l binary64 (number 0) a half_hour half_hour_is.is_finite a_bottom

  top_even_is : Is (number (J + J)) (J + J) 0
  top_even_is = number_is (J + J) (omega (arith, k_le))

  hi1 : T (le y (number (J + J)))
  hi1 =
      le_tr y (number (k + 1) ⊖ half_hour) (number (J + J)) (sub_mono_l binary64 a (number (k + 1)) half_hour half_hour_is.is_finite a_top_law)
      (is_le (number (k + 1) ⊖ half_hour) (number (J + J)) (k + 1 + 0) (0 + 1800) (J + J) 0
      (sub_int (number (k + 1)) half_hour (k + 1) 0 1800 0 (number_is (k + 1) (omega (arith, k_le))) half_hour_is (omega (arith, k_le)) (omega arith)) top_even_is (omega arith))

  y_finite : T (finite y)
  y_finite = between (number 0 ⊖ half_hour) y (number (J + J)) lo1_is.is_finite top_even_is.is_finite lo1 hi1

  half_lo : Is ((number 0 ⊖ half_hour) ⊘ step) 0 900
  half_lo = half_int (number 0 ⊖ half_hour) 0 900 lo1_is (omega arith) (omega arith)

  half_hi : Is (number (J + J) ⊘ step) J 0
  half_hi = half_int (number (J + J)) J 0 top_even_is (omega (arith, k_le)) (omega arith)

  x_lo : T (le ((number 0 ⊖ half_hour) ⊘ step) (y ⊘ step))
  x_lo = half_mono (number 0 ⊖ half_hour) y lo1_is.is_finite y_finite lo1

  x_hi : T (le (y ⊘ step) (number (J + J) ⊘ step))
  x_hi = half_mono y (number (J + J)) y_finite top_even_is.is_finite hi1

  pub floored : Floored (y ⊘ step) J 900
  floored =
      floor_whole ((number 0 ⊖ half_hour) ⊘ step) (y ⊘ step) (number (J + J) ⊘ step) J 900
      (between ((number 0 ⊖ half_hour) ⊘ step) (y ⊘ step) (number (J + J) ⊘ step) half_lo.is_finite half_hi.is_finite x_lo x_hi)
      x_lo x_hi half_lo half_hi (omega (arith, k_le)) (omega arith)

  abbrev pub P : ℕ
  P = floored.P + floored.P

  abbrev pub N : ℕ
  N = floored.N + floored.N

  start_is : Is (start a) P N
  unfolding start
  start_is = two_mul_int (floor (y ⊘ step)) floored.P floored.N floored.is (omega (arith, k_le, floored.top)) (omega (arith, floored.bottom))

  pub P-le : P ≤ k + 2
  P-le = omega (arith, floored.top)

  pub N-le : N ≤ 1800
  N-le = omega (arith, floored.bottom)

  -- ---- the number of steps
  abbrev pub half : ℕ
  half = (k + 1801 + N - P + 1) / 2

  abbrev w : Float
  w = (b ⊕ half_hour) ⊖ start a

  halves_is : Is (number (half + half)) (half + half) 0
  halves_is = number_is (half + half) (omega (arith, k_le, N-le))

  w_hi : T (le w (number (half + half)))
  w_hi =
      le_tr w ((number (k + 1) ⊕ half_hour) ⊖ start a) (number (half + half))
      (sub_mono_l binary64 (b ⊕ half_hour) (number (k + 1) ⊕ half_hour) (start a) start_is.is_finite (add_mono_l binary64 b (number (k + 1)) half_hour half_hour_is.is_finite (natural_next b bt)))
      (is_le ((number (k + 1) ⊕ half_hour) ⊖ start a) (number (half + half)) (k + 1 + 1800 + N) (0 + 0 + P) (half + half) 0
      (sub_int (number (k + 1) ⊕ half_hour) (start a) (k + 1 + 1800) (0 + 0) P N
      (add_int (number (k + 1)) half_hour (k + 1) 0 1800 0 (number_is (k + 1) (omega (arith, k_le))) half_hour_is (omega (arith, k_le)) (omega arith)) start_is (omega (arith, k_le, N-le))
      (omega (arith, P-le)))
      halves_is (omega (arith, P-le)))

  w_lo_is : Is ((number k ⊕ half_hour) ⊖ start a) (k + 1800 + N) (0 + 0 + P)
  w_lo_is =
      sub_int (number k ⊕ half_hour) (start a) (k + 1800) (0 + 0) P N
      (add_int (number k) half_hour k 0 1800 0 (number_is k (omega (arith, k_le))) half_hour_is (omega (arith, k_le)) (omega arith)) start_is (omega (arith, k_le, N-le)) (omega (arith, P-le))

  w_lo : T (le ((number k ⊕ half_hour) ⊖ start a) w)
  w_lo = sub_mono_l binary64 (number k ⊕ half_hour) (b ⊕ half_hour) (start a) start_is.is_finite (add_mono_l binary64 (number k) b half_hour half_hour_is.is_finite (natural_le b bt))

  w_finite : T (finite w)
  w_finite = between ((number k ⊕ half_hour) ⊖ start a) w (number (half + half)) w_lo_is.is_finite halves_is.is_finite w_lo w_hi

  -- the first step's time is at most b, so w is not negative, and its half lies between 0 and half
  w_above : T (le (number 0) w)
  w_above =
      le_tr (number 0) ((number k ⊕ half_hour) ⊖ start a) w
      (is_le (number 0) ((number k ⊕ half_hour) ⊖ start a) 0 0 (k + 1800 + N) (0 + 0 + P) (number_is 0 (omega arith)) w_lo_is (omega (arith, P-le))) w_lo

  half_w_finite : T (finite (w ⊘ step))
  half_w_finite =
      between (number 0 ⊘ step) (w ⊘ step) (number (half + half) ⊘ step)
      (half_int (number 0) 0 0 (number_is 0 (omega arith)) (omega arith) (omega arith)).is_finite
      (half_int (number (half + half)) half 0 halves_is (omega (arith, k_le, N-le)) (omega arith)).is_finite
      (half_mono (number 0) w (number_is 0 (omega arith)).is_finite w_finite w_above) (half_mono w (number (half + half)) w_finite halves_is.is_finite w_hi)

  pub steps_le : steps a b ≤ half
  unfolding steps
  steps_le =
      ceil_le (w ⊘ step) (number (half + half) ⊘ step) half half_w_finite (half_mono w (number (half + half)) w_finite halves_is.is_finite w_hi)
      (half_int (number (half + half)) half 0 halves_is (omega (arith, k_le, N-le)) (omega arith))

  -- ---- the times
  pub step_is : (i : ℕ) → i ≤ steps a b → Is (step_time (start a) i) (P + (i + i)) (N + (0 + 0))
  unfolding step_time
  step_is i h =
      add_int (start a) (number i ⊗ step) P N (i + i) (0 + 0) start_is (mul_two (number i) i 0 (number_is i (omega (arith, steps_le, k_le, N-le))) (omega (arith, steps_le, k_le, N-le)) (omega arith))
      (omega (arith, steps_le, k_le, N-le, P-le)) (omega (arith, N-le))

  pub below : (t : Float) (Q M : ℕ) → Is t Q M → Q ≤ k + 1802 + M → T (lt t (reach b))
  below t Q M i h =
      lt_le_tr t (reach (number k)) (reach b)
      (is_lt t (reach (number k)) Q M (k + fit_seconds) (0 + 0) i (reach_number k k_le) (omega arith)) (reach_mono (number k) b (natural_le b bt))

  -- every time that the fit of the window reads
  pub step_below : (i : ℕ) → i ≤ steps a b → T (lt (step_time (start a) i) (reach b))
  step_below i h = below (step_time (start a) i) (P + (i + i)) (N + (0 + 0)) (step_is i h) (omega (arith, steps_le, P-le))

  pub step_one_below : (i : ℕ) → i < steps a b → T (lt (step_time (start a) i ⊕ half_step) (reach b))
  step_one_below i h =
      below (step_time (start a) i ⊕ half_step) (P + (i + i) + 1) (N + (0 + 0) + 0)
      (add_int (step_time (start a) i) half_step (P + (i + i)) (N + (0 + 0)) 1 0 (step_is i (native.Mathlib.Nat.le_of_lt h)) half_step_is (omega (arith, steps_le, k_le, N-le, P-le))
      (omega (arith, N-le))) (omega (arith, steps_le, P-le))

  pub step_two_below : (i : ℕ) → i < steps a b → T (lt (step_time (start a) i ⊕ step) (reach b))
  step_two_below i h =
      below (step_time (start a) i ⊕ step) (P + (i + i) + 2) (N + (0 + 0) + 0)
      (add_int (step_time (start a) i) step (P + (i + i)) (N + (0 + 0)) 2 0 (step_is i (native.Mathlib.Nat.le_of_lt h)) step_is_two (omega (arith, steps_le, k_le, N-le, P-le))
      (omega (arith, N-le))) (omega (arith, steps_le, P-le))

  pub start_below : T (lt (start a) (reach b))
  start_below = below (start a) P N start_is (omega (arith, P-le))

  pub start_key_below : T (lt (second_time (second (start a))) (reach b))
  start_key_below = below (second_time (second (start a))) P N (whole_second_law (start a) P N start_is (omega (arith, P-le, k_le)) (omega (arith, N-le))) (omega (arith, P-le))

  -- ---- the second of a step's time is that time
  key_is : (i : ℕ) → i ≤ steps a b → Is (second_time (second (step_time (start a) i))) (P + (i + i)) (N + (0 + 0))
  key_is i h = whole_second_law (step_time (start a) i) (P + (i + i)) (N + (0 + 0)) (step_is i h) (omega (arith, steps_le, P-le, N-le, k_le)) (omega (arith, N-le))

  pub key_below : (i : ℕ) → i ≤ steps a b → T (lt (second_time (second (step_time (start a) i))) (reach b))
  key_below i h = below (second_time (second (step_time (start a) i))) (P + (i + i)) (N + (0 + 0)) (key_is i h) (omega (arith, steps_le, P-le))

  pub to_key : (i : ℕ) → i ≤ steps a b → T (le (step_time (start a) i) (second_time (second (step_time (start a) i))))
  to_key i h =
      is_le (step_time (start a) i) (second_time (second (step_time (start a) i))) (P + (i + i)) (N + (0 + 0)) (P + (i + i)) (N + (0 + 0)) (step_is i h) (key_is i h)
      (le_refl (P + (i + i) + (N + (0 + 0))))

  pub from_key : (i : ℕ) → i ≤ steps a b → T (le (second_time (second (step_time (start a) i))) (step_time (start a) i))
  from_key i h =
      is_le (second_time (second (step_time (start a) i))) (step_time (start a) i) (P + (i + i)) (N + (0 + 0)) (P + (i + i)) (N + (0 + 0)) (key_is i h) (step_is i h)
      (le_refl (P + (i + i) + (N + (0 + 0))))

  pub keys_rise : (i j : ℕ) → i < j → j ≤ steps a b → T (lt_z (second (step_time (start a) i)) (second (step_time (start a) j)))
  keys_rise i j l h =
      second_below (second (step_time (start a) i)) (second (step_time (start a) j))
      (is_lt (second_time (second (step_time (start a) i))) (second_time (second (step_time (start a) j))) (P + (i + i)) (N + (0 + 0)) (P + (j + j)) (N + (0 + 0)) (key_is i (omega arith))
      (key_is j h) (omega arith))

  -- ---- a window shorter than 7,000 s, the difference rounded
  -- a lies below the start and 1,802 s more: else the floor would be higher
  abbrev a_top : ℕ
  a_top = P + 1802 - N

  a_top_is : Is (number a_top) a_top 0
  a_top_is = number_is a_top (omega (arith, P-le, N-le, k_le))

  no_more : (u v : ℕ) → u + 1 + v ≤ u + v → ⊥
  no_more u v h = omega arith

  a_le : T (le a (number a_top))
  a_le =
      elim (le_or_lt a (number a_top) (finite→real a at.is_finite) (finite→real (number a_top) a_top_is.is_finite)) [
        | inl h ↦ h
        | inr h ↦
            let lo_is : Is (number a_top ⊖ half_hour) (a_top + 0) (0 + 1800) = sub_int (number a_top) half_hour a_top 0 1800 0 a_top_is half_hour_is (omega (arith, P-le, N-le, k_le)) (omega arith) in
            let lo_is' : Is (number a_top ⊖ half_hour) (floored.P + 1 + (floored.P + 1)) (floored.N + floored.N) =
            is_shift (number a_top ⊖ half_hour) (a_top + 0) (0 + 1800) (floored.P + 1 + (floored.P + 1)) (floored.N + floored.N) (omega (arith, N-le)) lo_is in
            let half_is = half_int (number a_top ⊖ half_hour) (floored.P + 1) floored.N lo_is' (omega (arith, P-le, k_le)) (omega (arith, N-le)) in
            let up = half_mono (number a_top ⊖ half_hour) y lo_is.is_finite y_finite (sub_mono_l binary64 (number a_top) a half_hour half_hour_is.is_finite (lt→le (number a_top) a h)) in
            absurd (no_more floored.P floored.N (floored.largest ((number a_top ⊖ half_hour) ⊘ step) (floored.P + 1) floored.N half_is up))
      ]

  module _ (short : T (lt (b ⊖ a) longest)) where
    -- two whole numbers at or after a and before or at b are less than 7,000 apart
    apart : (x y : Float) (Q M Q' M' : ℕ) → Is x Q M → Is y Q' M' → T (le a x) → T (le y b) → Q' + M + 7000 ≤ 2 ^ 53 → M' + Q ≤ 2 ^ 53 → 7000 + Q + M' ≤ Q' + M → ⊥
    apart x y Q M Q' M' i j h k u v w =
        let g : Is (y ⊖ x) (Q' + M) (M' + Q) = sub_int y x Q' M' Q M j i (omega arith) (omega arith) in
        lt→nle (b ⊖ a) longest short
        (le_tr longest (y ⊖ x) (b ⊖ a) (is_le longest (y ⊖ x) 7000 0 (Q' + M) (M' + Q) longest_is g (omega arith))
        (le_tr (y ⊖ x) (y ⊖ a) (b ⊖ a) (sub_anti_r binary64 y a x j.is_finite h) (sub_mono_l binary64 y b a at.is_finite k)))

    abbrev b_top : ℕ
    b_top = P + 8802 - N

    b_top_is : Is (number b_top) b_top 0
    b_top_is = number_is b_top (omega (arith, P-le, N-le, k_le))

    b_le : T (le b (number b_top))
    b_le =
        elim (le_or_lt b (number b_top) (finite→real b bt.is_finite) (finite→real (number b_top) b_top_is.is_finite)) [
          | inl h ↦ h
          | inr h ↦ absurd (apart (number a_top) (number b_top) a_top 0 b_top 0 a_top_is b_top_is a_le (lt→le (number b_top) b h) (omega (arith, P-le, k_le)) (omega (arith, P-le, k_le))
              (omega (arith, N-le)))
        ]

    top_is : Is ((number b_top ⊕ half_hour) ⊖ start a) (b_top + 1800 + N) (0 + 0 + P)
    top_is =
        sub_int (number b_top ⊕ half_hour) (start a) (b_top + 1800) (0 + 0) P N
        (add_int (number b_top) half_hour b_top 0 1800 0 b_top_is half_hour_is (omega (arith, P-le, k_le)) (omega arith)) start_is (omega (arith, P-le, N-le, k_le)) (omega (arith, P-le))

    w_top : T (le w (number (5301 + 5301)))
    w_top =
        le_tr w ((number b_top ⊕ half_hour) ⊖ start a) (number (5301 + 5301))
        (sub_mono_l binary64 (b ⊕ half_hour) (number b_top ⊕ half_hour) (start a) start_is.is_finite (add_mono_l binary64 b (number b_top) half_hour half_hour_is.is_finite b_le))
        (is_le ((number b_top ⊕ half_hour) ⊖ start a) (number (5301 + 5301)) (b_top + 1800 + N) (0 + 0 + P) (5301 + 5301) 0 top_is (number_is (5301 + 5301) (omega arith)) (omega (arith, N-le)))

    pub steps_short : steps a b ≤ 5301
    unfolding steps
    steps_short =
        ceil_le (w ⊘ step) (number (5301 + 5301) ⊘ step) 5301 half_w_finite (half_mono w (number (5301 + 5301)) w_finite (number_is (5301 + 5301) (omega arith)).is_finite w_top)
        (half_int (number (5301 + 5301)) 5301 0 (number_is (5301 + 5301) (omega arith)) (omega arith) (omega arith))

    -- ---- at most 3,500 of the steps lie from a up to b
    abbrev Inside : ℕ → Bool
    Inside i = le a (step_time (start a) i) && lt (step_time (start a) i) b

    within : (i j : ℕ) → i ≤ steps a b → j ≤ steps a b → T (Inside i) → T (Inside j) → j < i + 3500
    within i j hi hj ti tj =
        elim (decide (ltb j (i + 3500))) [
          | inl t ↦ ltb→lt j (i + 3500) t
          | inr t ↦
              let f : i + 3500 ≤ j = nltb→le j (i + 3500) t in
              absurd (apart (step_time (start a) i) (step_time (start a) j) (P + (i + i)) (N + (0 + 0)) (P + (j + j)) (N + (0 + 0)) (step_is i hi) (step_is j hj)
              (and_l (le a (step_time (start a) i)) (lt (step_time (start a) i) b) ti) (lt→le (step_time (start a) j) b (and_r (le a (step_time (start a) j)) (lt (step_time (start a) j) b) tj))
              (omega (arith, steps_le, P-le, N-le, k_le)) (omega (arith, steps_le, P-le, N-le, k_le)) (omega (arith, f)))
        ]

    -- after a step i that lies inside
    inside_after : {X : Type 0} (i j : ℕ) (ss : List X) → i ≤ steps a b → T (Inside i) → i ≤ j → j + length ss ≤ suc (steps a b) → length (inside (start a) a b j ss) ≤ i + 3500 - j
    unfolding inside
    inside_after i j [] hi ti l h = zero-le
    inside_after {X} i j (s ∷ ss) hi ti l h =
        let rest = inside_after i (suc j) ss hi ti (omega arith) (omega arith) in
        cond_ind (λ (t : Table X). length t ≤ i + 3500 - j) (Inside j) ((second (step_time (start a) j), s) ∷ inside (start a) a b (suc j) ss) (inside (start a) a b (suc j) ss)
        (λ t. let f = within i j hi (omega arith) ti t in omega (arith, rest, f)) (λ t. omega (arith, rest))

    pub states_short : {X : Type 0} (i : ℕ) (ss : List X) → i + length ss ≤ suc (steps a b) → length (inside (start a) a b i ss) ≤ 3500
    unfolding inside
    states_short i [] h = zero-le
    states_short {X} i (s ∷ ss) h =
        cond_ind (λ (t : Table X). length t ≤ 3500) (Inside i) ((second (step_time (start a) i), s) ∷ inside (start a) a b (suc i) ss) (inside (start a) a b (suc i) ss)
        (λ t. let rest = inside_after i (suc i) ss (omega arith) t (omega arith) (omega arith) in omega (arith, rest)) (λ t. states_short (suc i) ss (omega arith))
