-- The sections of a Butterworth band-pass (document 01, module 7). A section is a biquad of R. Bristow-Johnson's "Cookbook formulae for audio equalizer biquad
-- filter coefficients", divided by its a0; a Butterworth filter of order 4 is two of them, with Q = 1 / (2 cos θ) for θ = π/8 and 3π/8. Assumes nothing.
use Rattle.std.specs.Prelude.{List, [], ◌∷◌, Float}
use Rattle.std.specs.Float.Ieee.{neg}
use Rattle.laws.specs.Floats.{◌⊕◌, ◌⊖◌, ◌⊗◌, ◌⊘◌, one64, two64}
use Rattle.laws.specs.WholeNumbers.{number}
use Rattle.numbers.specs.Numbers.{π, sine, cosine}
use Rattle.filter.specs.declared.Biquad.{Biquad}

unfoldable pub quality : Float → Float
quality θ = one64 ⊘ (two64 ⊗ cosine θ)

-- Q of the two sections
abbrev pub first_quality : Float
first_quality = quality (π ⊘ number 8)

abbrev pub second_quality : Float
second_quality = quality (number 3 ⊗ π ⊘ number 8)

-- w₀ of a corner frequency, for samples dt apart
abbrev pub corner : Float → Float → Float
corner frequency dt = two64 ⊗ π ⊗ frequency ⊗ dt

-- α of the cookbook
abbrev pub alpha : Float → Float → Float
alpha w q = sine w ⊘ (two64 ⊗ q)

-- the section whose numerator is b0, b1, b0
unfoldable pub section : Float → Float → Float → Float → Biquad
section b0 b1 w q = record {
  b0 = b0 ⊘ (one64 ⊕ alpha w q);
  b1 = b1 ⊘ (one64 ⊕ alpha w q);
  b2 = b0 ⊘ (one64 ⊕ alpha w q);
  a1 = neg two64 ⊗ cosine w ⊘ (one64 ⊕ alpha w q);
  a2 = (one64 ⊖ alpha w q) ⊘ (one64 ⊕ alpha w q);
}

abbrev pub high_pass : Float → Float → Biquad
high_pass w q = section ((one64 ⊕ cosine w) ⊘ two64) (neg (one64 ⊕ cosine w)) w q

abbrev pub low_pass : Float → Float → Biquad
low_pass w q = section ((one64 ⊖ cosine w) ⊘ two64) (one64 ⊖ cosine w) w q

-- a high-pass at the low corner, then a low-pass at the high one, each of order 4
unfoldable pub butterworth : Float → Float → Float → List Biquad
butterworth low high dt =
    high_pass (corner low dt) first_quality
    ∷ high_pass (corner low dt) second_quality
    ∷ low_pass (corner high dt) first_quality
    ∷ low_pass (corner high dt) second_quality
    ∷ []

-- sections as a flat list, five numbers to a section
abbrev pub coefficients : List Biquad → List Float
coefficients [] = []
coefficients (s ∷ ss) = s.b0 ∷ s.b1 ∷ s.b2 ∷ s.a1 ∷ s.a2 ∷ coefficients ss

-- the sections that a flat list holds; fewer than five numbers at its end are none
abbrev pub sections_of : List Float → List Biquad
sections_of [] = []
sections_of (b0 ∷ []) = []
sections_of (b0 ∷ b1 ∷ []) = []
sections_of (b0 ∷ b1 ∷ b2 ∷ []) = []
sections_of (b0 ∷ b1 ∷ b2 ∷ a1 ∷ []) = []
sections_of (b0 ∷ b1 ∷ b2 ∷ a1 ∷ a2 ∷ cs) = record { b0 = b0; b1 = b1; b2 = b2; a1 = a1; a2 = a2 } ∷ sections_of cs
