-- One epoch's record (document 01, module 5; the source's `epoch`): satellite D's acceleration less satellite C's along the line of sight from C to D, by five
-- terms, and what is left of the observed range acceleration. Each operation rounds once, in the order of the source. Assumes nothing.
use Rattle.std.specs.Prelude.{List, [], ◌∷◌, Float}
use Rattle.std.specs.Float.Ieee.{neg}
use Rattle.laws.specs.Floats.{◌⊕◌, ◌⊖◌, ◌⊘◌, zero64, one64}
use Rattle.numbers.specs.Numbers.{power}
use Rattle.numbers.specs.Constants.{decimal}
use Rattle.vectors.specs.Vector.{plus, minus, times, inner, norm}
use Rattle.vectors.specs.declared.Vector.{Vector}
use Rattle.forces.specs.Forces.{tides_of, fictitious_of}
use Rattle.epoch_record.specs.declared.Epoch.{Epoch}

-- the line of sight, of length 1
unfoldable pub sight_of : Vector → Vector → Vector
sight_of rc rd = times (minus rd rc) (one64 ⊘ norm (minus rd rc))

-- an acceleration at D less that at C, along a line
unfoldable pub along_of : Vector → Vector → Vector → Float
along_of line at_d at_c = inner line (minus at_d at_c)

-- ---- the five terms

unfoldable pub gravity_term : (Vector → Vector) → Vector → Vector → Float
gravity_term gravity rc rd = along_of (sight_of rc rd) (gravity rd) (gravity rc)

-- solid tide, Sun and Moon
unfoldable pub tides_term : Float → Vector → Vector → Float
tides_term t rc rd = along_of (sight_of rc rd) (tides_of t rd) (tides_of t rc)

-- the rotating frame
unfoldable pub frame_term : Vector → Vector → Vector → Vector → Float
frame_term rc vc rd vd = along_of (sight_of rc rd) (fictitious_of rd vd) (fictitious_of rc vc)

-- each accelerometer's x axis points at the other satellite
abbrev pub accelerometer_term : Float → Float → Float
accelerometer_term axc axd = neg axd ⊖ axc

-- the range's second derivative for two free satellites: (Δv·Δv − (e·Δv)²)/ρ
unfoldable pub velocity_term : Vector → Vector → Vector → Vector → Float
velocity_term rc vc rd vd =
    (inner (minus vd vc) (minus vd vc) ⊖ power (inner (sight_of rc rd) (minus vd vc)) 2) ⊘ norm (minus rd rc)

-- ---- the record

-- a sum in list order, carried in s
abbrev pub sum_from : Float → List Float → Float
sum_from s [] = s
sum_from s (x ∷ xs) = sum_from (s ⊕ x) xs

abbrev pub numbers_of : Vector → List Float
numbers_of a = a.x ∷ a.y ∷ a.z ∷ []

unfoldable pub middle_of : Vector → Vector → Vector
middle_of a b = times (plus a b) (decimal 5 1)

-- from its time, the observed value, the five terms, the midpoint and its velocity
unfoldable pub record_of : Float → Float → List Float → Vector → Vector → Epoch
record_of t observed terms mid vel =
    record { t = t; residual = observed ⊖ sum_from zero64 terms; terms = terms; mid = numbers_of mid; vel = numbers_of vel }

-- with the field's gravity as a function of the position; satellites C and D at rc and rd with velocities vc and vd
unfoldable pub epoch_with : (Vector → Vector) → Float → Float → Vector → Vector → Vector → Vector → Float → Float → Epoch
epoch_with gravity t observed rc vc rd vd axc axd =
    record_of t observed
    (gravity_term gravity rc rd ∷ tides_term t rc rd ∷ frame_term rc vc rd vd ∷ accelerometer_term axc axd ∷ velocity_term rc vc rd vd ∷ [])
    (middle_of rc rd) (middle_of vc vd)
