-- What a call tests of its lists, as Bools that compute, and what each says of every element: finite, within 0 to 2^31, strictly rising. Assumes nothing.
use Rattle.std.specs.List.{list_all}
use Rattle.std.specs.Prelude.{◌≡◌, refl, Bool, true, ◌&&◌, List, [], ◌∷◌, map, ℕ, T, leb, ℤ, pos, negsuc, Float}
use Rattle.std.proofs.Common.{sym, subst, ltb→lt, lt→ltb, arith}
use Rattle.std.proofs.lemmas.List.Folds.{list_all-map}
use Rattle.std.specs.Int.Signed.{lt_z, le_z}
use Rattle.std.specs.Float.Ieee.{of_bits, le, lt}
use Rattle.std.specs.Float.Ieee.Fits.{and_l, and_r, and_i}
use Rattle.std.specs.Float.Ieee.Scale.{finite}
use Rattle.laws.specs.Floats.{bits, zero64, zero⁺, zero_bits}
use Rattle.laws.specs.Lists.{All, all_map}
use Rattle.laws.specs.Order.{lt_tr}
use Rattle.laws.specs.WholeNumbers.{between}
use Rattle.laws.specs.Times.{Rising, RisingSeconds, Time, bound}

-- ---- the tests
-- 2^31, the last time, as a literal of the code
abbrev pub latest : Float
latest = bits 0x41e0000000000000

-- a time: from 0 to 2^31, both included; −0.0 is one
unfoldable pub is_time : Float → Bool
is_time t = le zero64 t && le t latest

-- a key: a whole second from 0 to 2^31
unfoldable pub is_key : ℤ → Bool
is_key k = le_z (pos 0) k && le_z k (pos 2147483648)

-- a degree of a field: from 2 to 180
abbrev pub degree_fine : ℕ → Bool
degree_fine N = leb 2 N && leb N 180

-- each below the next
abbrev pub ascending {ℓ} : {A : Type ℓ} → (A → A → Bool) → List A → Bool
ascending below [] = true
ascending below (x ∷ []) = true
ascending below (x ∷ y ∷ xs) = below x y && ascending below (y ∷ xs)

abbrev pub rising : List Float → Bool
rising ts = ascending lt ts

abbrev pub rising_seconds : List ℤ → Bool
rising_seconds ks = ascending lt_z ks

-- ---- what they say

-- for types of any universe: std's `list_all` is of the lowest alone, so it is asked of the answers
pub all_says_each {ℓ} : {A : Type ℓ} (test : A → Bool) (xs : List A) → T (list_all (λ (b : Bool). b) (map test xs)) → All (λ x. T (test x)) xs
all_says_each test [] h = tt
all_says_each test (x ∷ xs) h =
    let rest : Bool = list_all (λ (b : Bool). b) (map test xs) in (and_l (test x) rest h, all_says_each test xs (and_r (test x) rest h))

pub all_says : {A : Type 0} (test : A → Bool) (xs : List A) → T (list_all test xs) → All (λ x. T (test x)) xs
all_says test xs h = all_says_each test xs (subst T (sym (list_all-map (λ (b : Bool). b) test xs)) h)

latest_is : latest ≡ bound
unfolding of_bits
latest_is = refl

pub time_says : (t : Float) → T (is_time t) → Time t
unfolding is_time
time_says t h =
    let low : T (le zero⁺ t) = subst (λ (x : Float). T (le x t)) zero_bits (and_l (le zero64 t) (le t latest) h) in
    let high : T (le t bound) = subst (λ (x : Float). T (le t x)) latest_is (and_r (le zero64 t) (le t latest) h) in
    record { is_finite = between zero⁺ t bound tt tt low high; from_zero = low; to_bound = high }

pub times_say_each {ℓ} : {A : Type ℓ} (time : A → Float) (xs : List A) → T (list_all is_time (map time xs)) → All (λ x. Time (time x)) xs
times_say_each time [] h = tt
times_say_each time (x ∷ xs) h =
    let rest : Bool = list_all is_time (map time xs) in
    (time_says (time x) (and_l (is_time (time x)) rest h), times_say_each time xs (and_r (is_time (time x)) rest h))

pub times_say : {A : Type 0} (time : A → Float) (xs : List A) → T (list_all (λ x. is_time (time x)) xs) → All (λ x. Time (time x)) xs
times_say time xs h = times_say_each time xs (subst T (sym (list_all-map is_time time xs)) h)

pub rising_says : (ts : List Float) → T (list_all finite ts) → T (rising ts) → Rising ts
rising_says [] f r = tt
rising_says (t ∷ []) f r = (and_l (finite t) true f, tt, tt)
rising_says (t ∷ u ∷ ts) f r =
    let tu = and_l (lt t u) (rising (u ∷ ts)) r in
    let rest = rising_says (u ∷ ts) (and_r (finite t) (list_all finite (u ∷ ts)) f) (and_r (lt t u) (rising (u ∷ ts)) r) in (
      and_l (finite t) (list_all finite (u ∷ ts)) f,
      (tu, all_map (λ (y : Float). T (lt u y)) (λ (y : Float). T (lt t y)) ts (λ y h. lt_tr t u y tu h) rest.1),
      rest,
    )

all_finite : (ts : List Float) → T (list_all is_time ts) → T (list_all finite ts)
all_finite [] h = tt
all_finite (t ∷ ts) h =
    and_i (finite t) (list_all finite ts) (time_says t (and_l (is_time t) (list_all is_time ts) h)).is_finite (all_finite ts (and_r (is_time t) (list_all is_time ts) h))

pub rising_times_say : (ts : List Float) → T (list_all is_time ts) → T (rising ts) → Rising ts
rising_times_say ts h r = rising_says ts (all_finite ts h) r

-- the order of whole seconds is transitive
pub below_tr : (i j k : ℤ) → T (lt_z i j) → T (lt_z j k) → T (lt_z i k)
below_tr (pos i) (pos j) (pos k) h g = lt→ltb i k (omega (arith, ltb→lt i j h, ltb→lt j k g))
below_tr (pos i) (pos j) (negsuc k) h g = absurd g
below_tr (pos i) (negsuc j) k h g = absurd h
below_tr (negsuc i) (pos j) (pos k) h g = tt
below_tr (negsuc i) (pos j) (negsuc k) h g = absurd g
below_tr (negsuc i) (negsuc j) (pos k) h g = tt
below_tr (negsuc i) (negsuc j) (negsuc k) h g = lt→ltb k i (omega (arith, ltb→lt j i h, ltb→lt k j g))

pub seconds_say : (ks : List ℤ) → T (rising_seconds ks) → RisingSeconds ks
seconds_say [] r = tt
seconds_say (i ∷ []) r = (tt, tt)
seconds_say (i ∷ j ∷ ks) r =
    let ij = and_l (lt_z i j) (rising_seconds (j ∷ ks)) r in
    let rest = seconds_say (j ∷ ks) (and_r (lt_z i j) (rising_seconds (j ∷ ks)) r) in
    ((ij, all_map (λ (k : ℤ). T (lt_z j k)) (λ (k : ℤ). T (lt_z i k)) ks (λ k h. below_tr i j k ij h) rest.0), rest)
