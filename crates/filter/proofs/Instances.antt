-- Document 01's starred instances of the filter, computed: a step of 3.0 joins, the next double above splits; 64 samples give zeros; 65 zeros give zeros. Assumes nothing.
use mathlib.Core.Path.{◌≡◌, refl, ap, ◌∙◌}
use mathlib.Core.List.{List, [], ◌∷◌, reverse}
use Prim.Native.Nat.{ℕ, zero, suc}
use lib.ListN.{length, take, drop, replicate}
use lib.Ieee.{Float, of_bits, of_int, round, add, sub, mul, div, neg, lt, le}
use Rattle.laws.specs.Floats.{bits, zero64}
use Rattle.laws.specs.Runs.{splits, runs_of}
use Rattle.laws.specs.Lists.{All}
use Rattle.laws.specs.WholeNumbers.{number}
use Rattle.numbers.specs.Numbers.{sine, cosine, sine_at, cosine_at, sine_near, cosine_near, near, rounded, quarter, rest as left, horner, horner_from, factorial, alternating, sines, cosines}
use Rattle.filter.specs.Sections.{quality, section, butterworth}
use Rattle.filter.specs.Filter.{rest, sample_of, memory_of, through_one, through, pad_before, pad_after, padded, pass_by, band, pass}
use Rattle.filter.specs.declared.Biquad.{Biquad}

-- 0, 3.0 and the next double above 3.0
pub three_joins : runs_of (zero64 ∷ bits 0x4008000000000000 ∷ []) ≡ 2 ∷ []
unfolding splits of_bits sub add neg lt le round
three_joins = refl

pub above_splits : runs_of (zero64 ∷ bits 0x4008000000000001 ∷ []) ≡ 1 ∷ 1 ∷ []
unfolding splits of_bits sub add neg lt le round
above_splits = refl

-- one run of 64 samples, whatever they are
pub sixty_four : (x : List Float) → length x ≡ 64 → pass x ≡ replicate 64 zero64
unfolding pass_by
sixty_four x h = rw h

-- ---- zeros

-- a section at rest gives +0.0 for +0.0
abbrev pub Quiet : Biquad → Type 0
Quiet s = sample_of s rest zero64 ≡ zero64

one_quiet : (s : Biquad) → Quiet s → (n : ℕ) → through_one s rest (replicate n zero64) ≡ replicate n zero64
one_quiet s q zero = refl
one_quiet s q (suc n) =
    let m : memory_of s rest zero64 ≡ rest = ap (λ (y : Float). record { x1 = zero64; x2 = zero64; y1 = y; y2 = zero64 }) q in
    (λ i. q i ∷ through_one s (m i) (replicate n zero64)) ∙ ap (λ (l : List Float). zero64 ∷ l) (one_quiet s q n)

pub zeros_through : (ss : List Biquad) → All Quiet ss → (n : ℕ) → through ss (replicate n zero64) ≡ replicate n zero64
zeros_through [] q n = refl
zeros_through (s ∷ ss) q n = ap (through ss) (one_quiet s q.0 n) ∙ zeros_through ss q.1 n

band_quiet : All Quiet band
unfolding band butterworth section quality sample_of number sine cosine sine_at cosine_at sine_near cosine_near
    near rounded quarter left horner horner_from factorial alternating sines cosines of_bits of_int
    round add sub mul div neg lt le
band_quiet = (refl, (refl, (refl, (refl, tt))))

padded_zeros : padded 64 (replicate 65 zero64) ≡ replicate 193 zero64
unfolding pad_before pad_after of_bits round add sub mul neg
padded_zeros = refl

-- 65 zeros are filtered, and give zeros
pub sixty_five : pass (replicate 65 zero64) ≡ replicate 65 zero64
unfolding pass_by
sixty_five =
    ap (λ (y : List Float). take 65 (drop 64 (reverse (through band (reverse (through band y)))))) padded_zeros
    ∙ ap (λ (y : List Float). take 65 (drop 64 (reverse (through band (reverse y))))) (zeros_through band band_quiet 193)
    ∙ ap (λ (y : List Float). take 65 (drop 64 (reverse y))) (zeros_through band band_quiet 193)
