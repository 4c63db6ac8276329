-- Document 01's checked instances: rows 1, 1 on 2, 4 give 3; a zero column is refused. Assumes nothing.
use mathlib.Core.Path.{◌≡◌, refl}
use mathlib.Core.List.{[], ◌∷◌}
use lib.Ieee.{Float, of_bits, of_fields, odd, units, round, sum, add, sub, mul, div, neg, lt, le, ne, eq, span, climb, size}
use Rattle.laws.specs.Floats.{bits, zero64, one64, two64}
use Rattle.laws.specs.Sums.{sum_to}
use Rattle.laws.specs.Tables.{row}
use Rattle.numbers.specs.Numbers.{magnitude}
use Rattle.slices.specs.Calls.{left, accepted}
use Rattle.std.specs.Prelude.{Err}
use Rattle.slices.specs.declared.refusal.Refusal.TheVariants.{Singular}
use Rattle.least_squares.specs.Elimination.{swapped, eliminated, reaches, largest, pivot_row, too_small, turn, stage, singular, fine}
use Rattle.least_squares.specs.LeastSquares.{value_at, normal_at, solvable, coefficient_at, solved, fitted_at, residual_at, residuals_of}
use Rattle.least_squares.specs.Calls.{up_to, refusal, failure, least_squares_call}

-- 3, 4 and −1
abbrev three : Float
three = bits 0x4008000000000000

abbrev four : Float
four = bits 0x4010000000000000

abbrev minus_one : Float
minus_one = bits 0xbff0000000000000

pub fits : least_squares_call (one64 ∷ one64 ∷ []) (two64 ∷ four ∷ []) 1 (zero64 ∷ []) (zero64 ∷ zero64 ∷ [])
    ≡ left accepted ((three ∷ []) ∷ (minus_one ∷ one64 ∷ []) ∷ []) []
unfolding of_bits of_fields odd units round sum add sub mul div neg lt le ne eq span climb size sum_to magnitude
    row swapped eliminated reaches largest pivot_row too_small turn stage singular fine value_at
    normal_at solvable coefficient_at solved fitted_at residual_at residuals_of up_to refusal failure least_squares_call
fits = refl

pub refused : least_squares_call (zero64 ∷ zero64 ∷ []) (two64 ∷ four ∷ []) 1 (one64 ∷ []) (one64 ∷ one64 ∷ [])
    ≡ left (Err Singular) ((zero64 ∷ []) ∷ (zero64 ∷ zero64 ∷ []) ∷ []) []
unfolding of_bits of_fields odd units round sum add sub mul div neg lt le ne eq span climb size sum_to magnitude
    row swapped eliminated reaches largest pivot_row too_small turn stage singular fine value_at
    normal_at solvable coefficient_at solved fitted_at residual_at residuals_of up_to refusal failure least_squares_call
refused = refl
