-- What the definitions satisfy, in the form that the code has them. Assumes nothing.
use Rattle.std.proofs.Common.{◌≡◌, ℕ, zero, suc, ◌+◌, ◌-◌, ◌*◌, ◌/◌, ◌%◌, ◌<◌, ◌≤◌, Bool, true, false, cond, not, ◌&&◌, T, eqb, ltb, List, get_or, ℤ, pos, negsuc, sym, refl, ap, ◌∙◌, subst, not-suc-le-zero, add-one, arith, eqb→eq, ltb→lt, eq-eqb}
use mathlib.Core.Bool.{beq}
use native.Mathlib.Nat.{div-eq_of_lt, div-eq-sub-div}
use lib.Dec.{eqb-suc-zero}
use lib.Ieee.Fits.{and_l, and_r}
use lib.Ieee.Scale.{finite}
use lib.Ieee.{Float, nan, inf, fin, add, sub, sum, binary64, ne, eq, lt, le, level, below as Ieee·below, is_nan, div, of_bits, neg, up, down}
use Rattle.numbers.specs.declared.SineCosine.{SineCosine}
use Rattle.laws.specs.Order.{lt_irr, lt_tr, le_lt_tr, lt→nle, eq→le, sum_real}
use Rattle.laws.specs.Signed.{real}
use Rattle.laws.specs.Floats.{zero64, one64, ◌⊗◌, ◌⊖◌, ◌⊕◌, ◌⊘◌}
use Rattle.laws.specs.SameBits.{ne_is_nan, same_sign}
use Rattle.numbers.specs.Numbers.{choose, sine_cosine_at, sine_near, cosine_near, sine_at, cosine_at, rest, quarter, magnitude, half_pi, π/4, bend, angle_near, angle, below, left, eighth}
use Rattle.numbers.specs.Numbers.{arctangent, carried, carried_in, horner_from, alternating, downward}

-- ---- power

fuel_zero : (k : ℕ) (a c : Float) → carried_in k a 0 c ≡ c
unfolding carried_in
fuel_zero zero a c = refl
fuel_zero (suc k) a c = refl

enough : (k j n : ℕ) (a c : Float) → n ≤ k → n ≤ j → carried_in k a n c ≡ carried_in j a n c
unfolding carried_in
enough zero j zero a c p q = sym (fuel_zero j a c)
enough zero j (suc n) a c p q = absurd (not-suc-le-zero p)
enough (suc k) j zero a c p q = sym (fuel_zero j a c)
enough (suc k) zero (suc n) a c p q = absurd (not-suc-le-zero q)
enough (suc k) (suc j) (suc n) a c p q = enough k j (suc n / 2) (a ⊗ a) (cond (eqb (suc n % 2) 1) (c ⊗ a) c) (omega arith) (omega arith)

-- document 01's sentence, for every n
pub carried_is : (a : Float) (n : ℕ) (c : Float) → carried a n c ≡ cond (eqb n 0) c (carried (a ⊗ a) (n / 2) (cond (eqb (n % 2) 1) (c ⊗ a) c))
unfolding carried carried_in
carried_is a zero c = refl
carried_is a (suc n) c =
    rw (eqb-suc-zero n) (enough n (suc n / 2) (suc n / 2) (a ⊗ a) (cond (eqb (suc n % 2) 1) (c ⊗ a) c) (omega arith) (omega arith))

pub carried_stop : (a : Float) (n : ℕ) (c : Float) → n ≡ 0 → c ≡ carried a n c
carried_stop a n c e = rw e (sym (carried_is a 0 c))

pub carried_even : (a : Float) (n : ℕ) (c : Float) → (n ≡ 0 → ⊥) → n % 2 ≡ 0 → carried (a ⊗ a) (n / 2) c ≡ carried a n c
carried_even a zero c f e = absurd (f refl)
carried_even a (suc n) c f e = sym (carried_is a (suc n) c ∙ rw (eqb-suc-zero n, e) refl)

pub carried_odd : (a : Float) (n : ℕ) (c : Float) → (n % 2 ≡ 0 → ⊥) → carried (a ⊗ a) (n / 2) (c ⊗ a) ≡ carried a n c
carried_odd a zero c f = absurd (f refl)
carried_odd a (suc n) c f =
    let e : suc n % 2 ≡ 1 = omega arith in
    sym (carried_is a (suc n) c ∙ rw (eqb-suc-zero n, e) refl)

pub carried_one : (a : Float) (n : ℕ) (c : Float) → n ≡ 1 → c ⊗ a ≡ carried a n c
unfolding carried carried_in
carried_one a n c e = rw e refl

-- ---- Horner

-- one turn: the next entry down
pub horner_turn : (z p s : Float) (table : List Float) (step i : ℕ) (goal : Float) → 0 < step → step ≤ i
    → horner_from z p (alternating (neg s) (downward table step (i - step) (i / step))) ≡ goal
    → horner_from z (p ⊗ z ⊕ neg s ⊘ get_or table (i - step) nan) (alternating (neg (neg s)) (downward table step (i - step - step) ((i - step) / step))) ≡ goal
unfolding horner_from alternating downward
horner_turn z p s table step i goal h k inv =
    let e : i / step ≡ suc ((i - step) / step) = div-eq-sub-div h k ∙ add-one ((i - step) / step) in
    rw e at inv

pub horner_done : (z p s : Float) (table : List Float) (step i : ℕ) (goal : Float) → i < step
    → horner_from z p (alternating (neg s) (downward table step (i - step) (i / step))) ≡ goal → p ≡ goal
unfolding horner_from alternating downward
horner_done z p s table step i goal h inv = let e : i / step ≡ 0 = div-eq_of_lt h in rw e at inv

-- ---- tests

pub nan_made : zero64 ⊘ zero64 ≡ nan
unfolding div of_bits
nan_made = refl

-- ---- arctangent

pub arctangent_nan_y : (y x : Float) → ne y y ≡ true → nan ≡ arctangent y x
unfolding arctangent
arctangent_nan_y y x h = rw (sym (ne_is_nan y) ∙ h)

pub arctangent_nan_x : (y x : Float) → ne y y ≡ false → ne x x ≡ true → nan ≡ arctangent y x
unfolding arctangent
arctangent_nan_x y x g h = rw (sym (ne_is_nan y) ∙ g, sym (ne_is_nan x) ∙ h)

pub arctangent_origin : (y x : Float) → ne y y ≡ false → ne x x ≡ false → eq y zero64 ≡ true → eq x zero64 ≡ true → zero64 ≡ arctangent y x
unfolding arctangent
arctangent_origin y x g h a b = rw (sym (ne_is_nan y) ∙ g, sym (ne_is_nan x) ∙ h, a, b)

pub arctangent_open : (y x : Float) → ne y y ≡ false → ne x x ≡ false → eq y zero64 && eq x zero64 ≡ false
    → below y (left x (eighth (magnitude y) (magnitude x))) ≡ arctangent y x
unfolding arctangent
arctangent_open y x g h a = rw (sym (ne_is_nan y) ∙ g, sym (ne_is_nan x) ∙ h, a)

-- ---- arcsine

not_held : (b : Bool) → (T b → ⊥) → b ≡ false
not_held true f = absurd (f tt)
not_held false f = refl

not_lt : (x y : Float) → le x y ≡ true → lt y x ≡ false
not_lt x y h = not_held (lt y x) (λ l. lt_irr x (le_lt_tr x y x (subst T (sym h) tt) l))

real_below : (x y : Float) → lt x y ≡ true → is_nan x ≡ false
unfolding lt is_nan
real_below nan y h = sym h
real_below (inf s) y h = refl
real_below (fin s m e) y h = refl

real_above : (c x : Float) → lt c x ≡ true → is_nan x ≡ false
unfolding lt is_nan
real_above nan nan h = sym h
real_above (inf s) nan h = sym h
real_above (fin s m e) nan h = sym h
real_above c (inf s) h = refl
real_above c (fin s m e) h = refl

apart : (s : Bool) (a : ℕ) (t : Bool) (b : ℕ) → T (level s a t b) → T (Ieee·below s a t b) → ⊥
apart false a false b h k =
    let e = eqb→eq a b (and_l (eqb a b) _ h) in
    let l = ltb→lt a b k in
    omega (arith, e, l)
apart false a true b h k = k
apart true a false b h k =
    let e = eqb→eq a b (and_l (eqb a b) _ h) in
    let o = eqb→eq a 0 (and_r (eqb a b) (eqb a 0) h) in
    let l = ltb→lt 0 (a + b) k in
    omega (arith, e, o, l)
apart true a true b h k =
    let e = eqb→eq a b (and_l (eqb a b) _ h) in
    let l = ltb→lt b a k in
    omega (arith, e, l)

eq_not_lt : (x y : Float) → T (eq x y) → T (lt x y) → ⊥
unfolding eq lt
eq_not_lt nan y h k = h
eq_not_lt (inf s) nan h k = h
eq_not_lt (inf true) (inf true) h k = k
eq_not_lt (inf true) (inf false) h k = h
eq_not_lt (inf false) (inf t) h k = k
eq_not_lt (inf s) (fin t n d) h k = h
eq_not_lt (fin s m e) nan h k = h
eq_not_lt (fin s m e) (inf t) h k = h
eq_not_lt (fin s m e) (fin t n d) h k = apart s (m * up e * down d) t (n * up d * down e) h k

apart_below : (x y : Float) → lt x y ≡ true → eq x y ≡ false
apart_below x y h = not_held (eq x y) (λ l. eq_not_lt x y l (subst T (sym h) tt))

apart_above : (x y : Float) → lt y x ≡ true → eq x y ≡ false
apart_above x y h = not_held (eq x y) (λ l. lt→nle y x (subst T (sym h) tt) (eq→le x y l))

lt_asym : (x y : Float) → lt x y ≡ true → lt y x ≡ false
lt_asym x y h = not_held (lt y x) (λ l. lt_irr x (lt_tr x y x (subst T (sym h) tt) l))

lt_nan : (c : Float) → lt c nan ≡ false
unfolding lt
lt_nan nan = refl
lt_nan (inf s) = refl
lt_nan (fin s m e) = refl

and_false : (b : Bool) → b && false ≡ false
and_false true = refl
and_false false = refl

none : (a b : ℕ) → T (ltb a (0 * b)) → ⊥
none a b h = let l = ltb→lt a (0 * b) h in omega (arith, l)

-- the point is right of the axis
angle_nan : angle nan ≡ nan
unfolding angle angle_near add lt of_bits
angle_nan = refl

upward_nan : (x : Float) → eighth nan x ≡ arctangent nan x
unfolding arctangent is_nan eighth div
upward_nan x = rw (lt_nan x) angle_nan

upward_real : (v x : Float) → is_nan v ≡ false → lt v zero64 ≡ false → lt zero64 x ≡ true → eighth v x ≡ arctangent v x
unfolding arctangent left magnitude below
upward_real v x n h p = rw (n, real_above zero64 x p, apart_above x zero64 p, and_false (eq v zero64), lt_asym zero64 x p, h)

upward : (v x : Float) → lt v zero64 ≡ false → lt zero64 x ≡ true → eighth v x ≡ arctangent v x
unfolding is_nan
upward nan x h p = upward_nan x
upward (inf s) x h p = upward_real (inf s) x refl h p
upward (fin s m e) x h p = upward_real (fin s m e) x refl h p

pub neg_not_below : (v : Float) → lt v zero64 ≡ true → lt (neg v) zero64 ≡ false
unfolding lt neg of_bits
neg_not_below nan h = refl
neg_not_below (inf true) h = refl
neg_not_below (inf false) h = sym h
neg_not_below (fin true m e) h = not_held _ (none (m * up e * 1) (down e))
neg_not_below (fin false m e) h = absurd (none (m * up e * 1) (down e) (subst T (sym h) tt))

-- mirrored downwards
pub mirrored : (v x r : Float) → lt v zero64 ≡ true → lt zero64 x ≡ true → r ≡ arctangent (neg v) x → neg r ≡ arctangent v x
unfolding arctangent left magnitude below
mirrored v x r h p k =
    ap neg (k ∙ sym (upward (neg v) x (neg_not_below v h) p)) ∙ rw (real_below v zero64 h, real_above zero64 x p, apart_below v zero64 h, lt_asym zero64 x p, h)

-- `eighth` where it is known how its tests go, to the right of the axis
module _ (m x a : Float) (g : (lt m zero64 ≡ false) × (lt zero64 x ≡ true)) where
  pub steep_flat : lt x m ≡ true → le (x ⊘ m) bend ≡ true → a ≡ angle_near (x ⊘ m) → half_pi ⊖ (zero64 ⊕ a) ≡ arctangent m x
  unfolding eighth angle
  steep_flat i j f = (rw (f, i, not_lt (x ⊘ m) bend j)) ∙ upward m x g.0 g.1

  pub steep_bent : lt x m ≡ true → lt bend (x ⊘ m) ≡ true → a ≡ angle_near ((x ⊘ m ⊖ one64) ⊘ (x ⊘ m ⊕ one64)) → half_pi ⊖ (π/4 ⊕ a) ≡ arctangent m x
  unfolding eighth angle
  steep_bent i j f = (rw (f, i, j)) ∙ upward m x g.0 g.1

  pub gentle_bent : le m x ≡ true → lt bend (m ⊘ x) ≡ true → a ≡ angle_near ((m ⊘ x ⊖ one64) ⊘ (m ⊘ x ⊕ one64)) → π/4 ⊕ a ≡ arctangent m x
  unfolding eighth angle
  gentle_bent i j f = (rw (f, not_lt m x i, j)) ∙ upward m x g.0 g.1

  pub gentle_flat : le m x ≡ true → le (m ⊘ x) bend ≡ true → a ≡ angle_near (m ⊘ x) → zero64 ⊕ a ≡ arctangent m x
  unfolding eighth angle
  gentle_flat i j f = (rw (f, not_lt m x i, not_lt (m ⊘ x) bend j)) ∙ upward m x g.0 g.1

-- ---- sine and cosine

module _ (a b c d : Float) where
  pub choose_0 : (j : ℕ) → j ≡ 0 → a ≡ choose j a b c d
  choose_0 j e = rw e

  pub choose_1 : (j : ℕ) → j ≡ 1 → b ≡ choose j a b c d
  choose_1 j e = rw e

  pub choose_2 : (j : ℕ) → j ≡ 2 → c ≡ choose j a b c d
  choose_2 j e = rw e

  pub choose_3 : (j : ℕ) → (j ≡ 0 → ⊥) → (j ≡ 1 → ⊥) → (j ≡ 2 → ⊥) → d ≡ choose j a b c d
  choose_3 zero f g h = absurd (f refl)
  choose_3 (suc zero) f g h = absurd (g refl)
  choose_3 (suc (suc zero)) f g h = absurd (h refl)
  choose_3 (suc (suc (suc n))) f g h = refl

  -- a quarter of a turn more
  pub choose_next : (j : ℕ) → j < 4 → choose ((j + 1) % 4) a b c d ≡ choose j b c d a
  choose_next zero h = refl
  choose_next (suc zero) h = refl
  choose_next (suc (suc zero)) h = refl
  choose_next (suc (suc (suc zero))) h = refl
  choose_next (suc (suc (suc (suc n)))) h = absurd (omega arith)

pub quarter_small : (k : ℤ) → quarter k < 4
unfolding quarter
quarter_small (pos n) = omega arith
quarter_small (negsuc n) = omega arith

pub sine_is : (x : Float) (k : ℤ) (r : Float) (j : ℕ) → r ≡ rest x k → j ≡ quarter k
    → choose j (sine_near r) (cosine_near r) (neg (sine_near r)) (neg (cosine_near r)) ≡ sine_at x k
unfolding sine_at
sine_is x k r j p q = rw (p, q)

pub cosine_is : (x : Float) (k : ℤ) (r : Float) (j : ℕ) → r ≡ rest x k → j ≡ quarter k
    → choose j (cosine_near r) (neg (sine_near r)) (neg (cosine_near r)) (sine_near r) ≡ cosine_at x k
unfolding cosine_at
cosine_is x k r j p q = rw (p, q)

-- both, by the quadrant
module _ (x : Float) (k : ℤ) (r : Float) (j : ℕ) (s c : Float) (p : r ≡ rest x k) (q : j ≡ quarter k) (es : s ≡ sine_near r) (ec : c ≡ cosine_near r) where
  both : (a b : Float)
      → a ≡ choose j (sine_near r) (cosine_near r) (neg (sine_near r)) (neg (cosine_near r))
      → b ≡ choose j (cosine_near r) (neg (sine_near r)) (neg (cosine_near r)) (sine_near r)
      → ◌≡◌ {A = SineCosine} (record { sine = a; cosine = b }) (sine_cosine_at x k)
  unfolding sine_cosine_at
  both a b ea eb = λ i. record { sine = (ea ∙ sine_is x k r j p q) i; cosine = (eb ∙ cosine_is x k r j p q) i }

  pub both_0 : j ≡ 0 → ◌≡◌ {A = SineCosine} (record { sine = s; cosine = c }) (sine_cosine_at x k)
  both_0 e = both s c (es ∙ choose_0 _ _ _ _ j e) (ec ∙ choose_0 _ _ _ _ j e)

  pub both_1 : j ≡ 1 → ◌≡◌ {A = SineCosine} (record { sine = c; cosine = neg s }) (sine_cosine_at x k)
  both_1 e = both c (neg s) (ec ∙ choose_1 _ _ _ _ j e) (ap neg es ∙ choose_1 _ _ _ _ j e)

  pub both_2 : j ≡ 2 → ◌≡◌ {A = SineCosine} (record { sine = neg s; cosine = neg c }) (sine_cosine_at x k)
  both_2 e = both (neg s) (neg c) (ap neg es ∙ choose_2 _ _ _ _ j e) (ap neg ec ∙ choose_2 _ _ _ _ j e)

  pub both_3 : (j ≡ 0 → ⊥) → (j ≡ 1 → ⊥) → (j ≡ 2 → ⊥) → ◌≡◌ {A = SineCosine} (record { sine = neg c; cosine = s }) (sine_cosine_at x k)
  both_3 f g h = both (neg c) s (ap neg ec ∙ choose_3 _ _ _ _ j f g h) (es ∙ choose_3 _ _ _ _ j f g h)

-- ---- finite

opposite : (s : Bool) → beq s (not s) ≡ false
opposite true = refl
opposite false = refl

same : (x : Float) → T (real x) → eq x x ≡ true
unfolding eq
same nan h = absurd h
same (inf s) h = same_sign s
same (fin s m e) h = rw (eq-eqb (m * up e * down e) (m * up e * down e) refl, same_sign s)

-- x - x is a number just where x is finite
pub self_sub : (x : Float) → eq (x ⊖ x) (x ⊖ x) ≡ finite x
unfolding sub add neg eq
self_sub nan = refl
self_sub (inf s) = rw (opposite s)
self_sub (fin s m e) =
    let a = m * up e * down e in
    same (sum binary64 s a (not s) a (down e * down e)) (sum_real binary64 s a (not s) a (down e * down e))
