-- The elementary numbers of document 01 ("Elementary numbers"), over binary64; its square root is `root`'s. Assumes nothing.
use Rattle.std.specs.Prelude.{ℕ, zero, suc, ◌+◌, ◌-◌, ◌*◌, ◌/◌, ◌%◌, Bool, cond, ◌&&◌, ◌||◌, List, [], ◌∷◌, map, ℤ, pos, negsuc, neg_ℤ, ◌==◌, is_nan, slice_index_or, nat_le, Float}
use Rattle.std.specs.Float.{nan, inf, fin, binary64}
use Rattle.std.specs.Float.Ieee.{neg, lt, le, eq, of_int, to_unsigned, up, down}
use Rattle.laws.specs.Floats.{◌⊕◌, ◌⊖◌, ◌⊗◌, ◌⊘◌, bits, zero64, one64}
use Rattle.laws.specs.WholeNumbers.{number}
use Rattle.root.specs.Root.{sqrt}
use Rattle.numbers.specs.declared.SineCosine.{SineCosine}

-- ---- series: "p starts at −1/15!, then p·z + c for c = 1/13!, −1/11!" and so on

-- p·z + c for each coefficient c, from p on
unfoldable pub horner_from : Float → Float → List Float → Float
horner_from z p [] = p
horner_from z p (c ∷ cs) = horner_from z (p ⊗ z ⊕ c) cs

-- p starts at the first coefficient
unfoldable pub horner : Float → List Float → Float
horner z [] = zero64
horner z (c ∷ cs) = horner_from z c cs

-- s/n for the numbers n, one division each, the sign of s turning: s is 1 or −1
unfoldable pub alternating : Float → List Float → List Float
alternating s [] = []
alternating s (n ∷ ns) = (s ⊘ n) ∷ alternating (neg s) ns

unfoldable pub factorial : ℕ → ℕ
factorial zero = 1
factorial (suc n) = suc n * factorial n

-- −1/15!, 1/13!, −1/11!, 1/9!, −1/7!, 1/5!, −1/3!
unfoldable pub sines : List Float
sines = alternating (neg one64) (map (λ n. number (factorial n)) (15 ∷ 13 ∷ 11 ∷ 9 ∷ 7 ∷ 5 ∷ 3 ∷ []))

-- 1/16!, −1/14!, 1/12!, −1/10!, 1/8!, −1/6!, 1/4!, −1/2!
unfoldable pub cosines : List Float
cosines = alternating one64 (map (λ n. number (factorial n)) (16 ∷ 14 ∷ 12 ∷ 10 ∷ 8 ∷ 6 ∷ 4 ∷ 2 ∷ []))

-- −1/43, 1/41, −1/39, and so on to −1/3
unfoldable pub odds : List Float
odds =
    alternating (neg one64) (map number (43 ∷ 41 ∷ 39 ∷ 37 ∷ 35 ∷ 33 ∷ 31 ∷ 29 ∷ 27 ∷ 25 ∷ 23 ∷ 21 ∷ 19 ∷ 17 ∷ 15 ∷ 13 ∷ 11 ∷ 9 ∷ 7 ∷ 5 ∷ 3 ∷ []))

-- how the code reads them from its tables: the entries at places i, i − step, and so on, k of them
unfoldable pub downward : List Float → ℕ → ℕ → ℕ → List Float
downward table step i zero = []
downward table step i (suc k) = slice_index_or table i nan ∷ downward table step (i - step) k

-- ---- sine and cosine: "k is x/H rounded to the nearest whole number, half a unit away from zero", "r = (x − k·A) − k·B"

-- H, A and B: π/2, and fdlibm's parts of it
abbrev pub half_pi : Float
half_pi = bits 0x3ff9_21fb_5444_2d18

abbrev pub half_pi_high : Float
half_pi_high = bits 0x3ff9_21fb_5440_0000

abbrev pub half_pi_low : Float
half_pi_low = bits 0x3dd0_b461_1a62_6331

-- m · 2^e to the nearest whole number, a half up
abbrev pub half_up : ℕ → ℤ → ℕ
half_up m e = (m * up e * 2 + down e) / (down e * 2)

-- to the nearest whole number, a half away from zero: −2.5 gives −3
unfoldable pub rounded : Float → ℤ
rounded nan = pos 0
rounded (inf s) = pos 0
rounded (fin s m e) = cond s (neg_ℤ (pos (half_up m e))) (pos (half_up m e))

-- h/2, rounded likewise
unfoldable pub halved : ℤ → ℤ
halved (pos n) = pos ((n + 1) / 2)
halved (negsuc n) = neg_ℤ (pos ((suc n + 1) / 2))

-- r
unfoldable pub rest : Float → ℤ → Float
rest x k = let f = of_int binary64 k in x ⊖ f ⊗ half_pi_high ⊖ f ⊗ half_pi_low

-- "s = r + r·(z·p)", "c = 1 + z·p"
unfoldable pub sine_near : Float → Float
sine_near r = let z = r ⊗ r in r ⊕ r ⊗ (z ⊗ horner z sines)

unfoldable pub cosine_near : Float → Float
cosine_near r = let z = r ⊗ r in one64 ⊕ z ⊗ horner z cosines

-- k mod 4, from 0 to 3
unfoldable pub quarter : ℤ → ℕ
quarter (pos n) = n % 4
quarter (negsuc n) = 3 - n % 4

-- one of four, by k mod 4
abbrev pub choose : ℕ → Float → Float → Float → Float → Float
choose zero a b c d = a
choose (suc zero) a b c d = b
choose (suc (suc zero)) a b c d = c
choose (suc (suc (suc n))) a b c d = d

-- "the pair is (s, c), (c, −s), (−s, −c), (−c, s)"
unfoldable pub sine_at : Float → ℤ → Float
sine_at x k = let r = rest x k in choose (quarter k) (sine_near r) (cosine_near r) (neg (sine_near r)) (neg (cosine_near r))

unfoldable pub cosine_at : Float → ℤ → Float
cosine_at x k = let r = rest x k in choose (quarter k) (cosine_near r) (neg (sine_near r)) (neg (cosine_near r)) (sine_near r)

unfoldable pub sine_cosine_at : Float → ℤ → SineCosine
sine_cosine_at x k = record { sine = sine_at x k; cosine = cosine_at x k }

-- 2^20
abbrev pub limit : Float
limit = bits 0x4130_0000_0000_0000

-- finite, and of a magnitude that does not exceed 2^20
unfoldable pub near : Float → Bool
near x = le (neg limit) x && le x limit

unfoldable pub sine : Float → Float
sine x = cond (near x) (sine_at x (rounded (x ⊘ half_pi))) nan

unfoldable pub cosine : Float → Float
cosine x = cond (near x) (cosine_at x (rounded (x ⊘ half_pi))) nan

unfoldable pub sine_cosine : Float → SineCosine
sine_cosine x = record { sine = sine x; cosine = cosine x }

-- ---- arctangent: "q = smaller magnitude / larger"

abbrev pub π : Float
π = bits 0x4009_21fb_5444_2d18

abbrev pub π/4 : Float
π/4 = bits 0x3fe9_21fb_5444_2d18

-- 0.4142135623730951
abbrev pub bend : Float
bend = bits 0x3fda_8279_99fc_ef33

unfoldable pub magnitude : Float → Float
magnitude x = cond (lt x zero64) (neg x) x

-- "q + q·(w·p)"
unfoldable pub angle_near : Float → Float
angle_near q = let w = q ⊗ q in q ⊕ q ⊗ (w ⊗ horner w odds)

-- "If q > 0.4142135623730951, q becomes (q − 1)/(q + 1), base π/4; else base 0": the angle whose tangent is q, for q from 0 to 1
unfoldable pub angle : Float → Float
angle q = cond (lt bend q) (π/4 ⊕ angle_near ((q ⊖ one64) ⊘ (q ⊕ one64))) (zero64 ⊕ angle_near q)

-- "If |y| > |x|: π/2 minus it": the angle of the magnitudes, from an eighth of a turn
unfoldable pub eighth : Float → Float → Float
eighth y x = cond (lt x y) (half_pi ⊖ angle (x ⊘ y)) (angle (y ⊘ x))

-- "Then x < 0: π minus it": the point lies left of the axis
unfoldable pub left : Float → Float → Float
left x t = cond (lt x zero64) (π ⊖ t) t

-- "Then y < 0: negated": the point lies below the axis
unfoldable pub below : Float → Float → Float
below y t = cond (lt y zero64) (neg t) t

-- "NaN if either is, zero if both are zero"
unfoldable pub arctangent : Float → Float → Float
arctangent y x =
    cond (is_nan y || is_nan x) nan (cond (eq y zero64 && eq x zero64) zero64 (below y (left x (eighth (magnitude y) (magnitude x)))))

-- "Arcsine of v is the arctangent of v and the root of (1 − v)·(1 + v), NaN beyond ±1"
unfoldable pub arcsine : Float → Float
arcsine v = cond (lt v (neg one64) || lt one64 v) nan (arctangent v (sqrt binary64 ((one64 ⊖ v) ⊗ (one64 ⊕ v))))

-- ---- power: "c at n = 0, else the power of a·a to n halved, carried in c·a for odd n, in c for even"

-- in at most k halvings
unfoldable pub carried_in : ℕ → Float → ℕ → Float → Float
carried_in zero a n c = c
carried_in (suc k) a zero c = c
carried_in (suc k) a (suc n) c = carried_in k (a ⊗ a) (suc n / 2) (cond (suc n % 2 == 1) (c ⊗ a) c)

-- the power of a to n, carried in c: n halvings are enough
unfoldable pub carried : Float → ℕ → Float → Float
carried a n c = carried_in n a n c

-- the power of a to n: carried in 1 "at first"
abbrev pub power : Float → ℕ → Float
power a n = carried a n one64

-- ---- a count that is kept as a float

-- x without its fraction; 0 where that is below zero or above `most`, and for NaN
unfoldable pub count_of : Float → ℕ → ℕ
count_of x most = let n = to_unsigned 64 x in cond (nat_le n most) n 0
