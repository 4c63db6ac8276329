-- The sections of a band: flat and as records, and the constants of the code. Assumes nothing.
use mathlib.Core.Path.{◌≡◌, refl, ap, ◌∙◌}
use mathlib.Core.List.{List, [], ◌∷◌}
use lib.Ieee.{Float, of_bits, of_int, round}
use Rattle.laws.specs.Floats.{◌⊗◌, ◌⊘◌, bits, two64}
use Rattle.laws.specs.Runs.{passed}
use Rattle.laws.specs.WholeNumbers.{number}
use Rattle.numbers.specs.Numbers.{π}
use Rattle.numbers.specs.Constants.{decimal}
use Rattle.filter.specs.Sections.{quality, corner, high_pass, low_pass, butterworth, coefficients, sections_of}
use Rattle.filter.specs.Filter.{pass_by, band, band_pass}
use Rattle.filter.specs.declared.Biquad.{Biquad}

-- a flat list holds the sections that it was made of
pub sections_flat : (ss : List Biquad) → sections_of (coefficients ss) ≡ ss
sections_flat [] = refl
sections_flat (s ∷ ss) = ap (λ (l : List Biquad). s ∷ l) (sections_flat ss)

three_is : bits 0x4008000000000000 ≡ number 3
unfolding number of_int of_bits round
three_is = refl

eight_is : bits 0x4020000000000000 ≡ number 8
unfolding number of_int of_bits round
eight_is = refl

low_is : bits 0x3f50624dd2f1a9fc ≡ decimal 1 3
unfolding of_bits round
low_is = refl

high_is : bits 0x3f847ae147ae147b ≡ decimal 10 3
unfolding of_bits round
high_is = refl

pub coefficients_law : (low high dt q1 q2 : Float) (a b c d : Biquad) (r : List Float) →
    q1 ≡ quality (π ⊘ bits 0x4020000000000000) → q2 ≡ quality (bits 0x4008000000000000 ⊗ π ⊘ bits 0x4020000000000000) →
    a ≡ high_pass (corner low dt) q1 → b ≡ high_pass (corner low dt) q2 → c ≡ low_pass (corner high dt) q1 → d ≡ low_pass (corner high dt) q2 →
    r ≡ coefficients (a ∷ b ∷ c ∷ d ∷ []) → r ≡ coefficients (butterworth low high dt)
unfolding butterworth
coefficients_law low high dt q1 q2 a b c d r e1 e2 ea eb ec ed er =
    let f1 : q1 ≡ quality (π ⊘ number 8) = e1 ∙ ap (λ (x : Float). quality (π ⊘ x)) eight_is in
    let f2 : q2 ≡ quality (number 3 ⊗ π ⊘ number 8) = e2 ∙ (λ i. quality (three_is i ⊗ π ⊘ eight_is i)) in
    er
    ∙ (λ i. coefficients (ea i ∷ eb i ∷ ec i ∷ ed i ∷ []))
    ∙ (λ i. coefficients (high_pass (corner low dt) (f1 i) ∷ high_pass (corner low dt) (f2 i) ∷ low_pass (corner high dt) (f1 i) ∷ low_pass (corner high dt) (f2 i) ∷ []))

pub band_law : (ts x y cs : List Float) → cs ≡ coefficients (butterworth (bits 0x3f50624dd2f1a9fc) (bits 0x3f847ae147ae147b) two64) →
    y ≡ passed (pass_by (sections_of cs)) ts x → y ≡ band_pass ts x
unfolding band
band_law ts x y cs ec ey =
    ey
    ∙ ap (λ (ss : List Biquad). passed (pass_by ss) ts x)
    (ap sections_of ec ∙ sections_flat (butterworth (bits 0x3f50624dd2f1a9fc) (bits 0x3f847ae147ae147b) two64) ∙ (λ i. butterworth (low_is i) (high_is i) two64))
