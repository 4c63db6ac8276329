-- What the filter computes (document 01, module 7): a list through biquad sections, each in direct form I; forward and backward over a list that is padded
-- oddly (twice the end value minus the mirrored one), so that no phase is left; and the band-pass of each run of a list of times. Assumes nothing.
use Rattle.std.specs.Prelude.{List, [], ◌∷◌, ◌++◌, map, reverse, cond, ℕ, ◌-◌, min, length, take, drop, get_or, ltb, Float}
use Rattle.std.specs.Float.{nan}
use Rattle.laws.specs.Floats.{◌⊕◌, ◌⊖◌, ◌⊗◌, zero64, two64}
use Rattle.laws.specs.Loops.{cleared}
use Rattle.laws.specs.Runs.{passed}
use Rattle.numbers.specs.Constants.{decimal}
use Rattle.filter.specs.declared.Biquad.{Biquad}
use Rattle.filter.specs.declared.BiquadMemory.{BiquadMemory}
use Rattle.filter.specs.declared.Step.{Step}
use Rattle.filter.specs.Sections.{butterworth}

-- a section at rest
abbrev pub rest : BiquadMemory
rest = record { x1 = zero64; x2 = zero64; y1 = zero64; y2 = zero64 }

-- one sample through a section: each operation rounds once, from left to right
unfoldable pub sample_of : Biquad → BiquadMemory → Float → Float
sample_of s m v = s.b0 ⊗ v ⊕ s.b1 ⊗ m.x1 ⊕ s.b2 ⊗ m.x2 ⊖ s.a1 ⊗ m.y1 ⊖ s.a2 ⊗ m.y2

-- what the section remembers after it
abbrev pub memory_of : Biquad → BiquadMemory → Float → BiquadMemory
memory_of s m v = record { x1 = v; x2 = m.x1; y1 = sample_of s m v; y2 = m.y1 }

abbrev pub step_of : Biquad → BiquadMemory → Float → Step
step_of s m v = record { memory = memory_of s m v; sample = sample_of s m v }

-- a list through a section that remembers m
abbrev pub through_one : Biquad → BiquadMemory → List Float → List Float
through_one s m [] = []
through_one s m (v ∷ vs) = sample_of s m v ∷ through_one s (memory_of s m v) vs

-- a list through each section in turn, each at rest at the start
abbrev pub through : List Biquad → List Float → List Float
through [] x = x
through (s ∷ ss) x = through ss (through_one s rest x)

-- twice v minus each of a list
abbrev pub reflected : Float → List Float → List Float
reflected v l = map (λ w. two64 ⊗ v ⊖ w) l

-- the p values after the first, mirrored, and the p values before the last, mirrored
unfoldable pub pad_before : ℕ → List Float → List Float
pad_before p x = reflected (get_or x 0 nan) (reverse (take p (drop 1 x)))

unfoldable pub pad_after : ℕ → List Float → List Float
pad_after p x = reflected (get_or x (length x - 1) nan) (take p (drop 1 (reverse x)))

-- a list padded oddly by p at both ends
abbrev pub padded : ℕ → List Float → List Float
padded p x = pad_before p x ++ (x ++ pad_after p x)

-- the n values after the first p
abbrev pub unpadded : ℕ → ℕ → List Float → List Float
unpadded p n y = take n (drop p y)

-- forward and backward through the sections, with padding by p
abbrev pub both_ways : List Biquad → ℕ → List Float → List Float
both_ways ss p x = unpadded p (length x) (reverse (through ss (reverse (through ss (padded p x)))))

-- padding by `pad`, or by all the values but one
abbrev pub filtfilt : List Biquad → ℕ → List Float → List Float
filtfilt ss pad x = both_ways ss (min pad (length x - 1)) x

-- a run of samples: 64 or fewer give +0.0
unfoldable pub pass_by : List Biquad → List Float → List Float
pass_by ss x = cond (ltb 64 (length x)) (filtfilt ss 1500 x) (cleared x)

-- from 1 to 10 mHz, for samples 2 s apart
unfoldable pub band : List Biquad
band = butterworth (decimal 1 3) (decimal 10 3) two64

-- one run through the band
abbrev pub pass : List Float → List Float
pass x = pass_by band x

-- a list of samples, each run of their times passed
abbrev pub band_pass : List Float → List Float → List Float
band_pass ts x = passed pass ts x
