-- Document 01's starred instances of the model: fields at 0, 10800 and 21600. Assumes nothing.
use mathlib.Core.Path.{◌≡◌, refl}
use mathlib.Core.Bool.{Bool, true, not}
use mathlib.Core.List.{List, [], ◌∷◌}
use lib.Dec.{eqb}
use lib.Ieee.{Float, binary64, add, sub, mul, div, neg, sum, round, lt, le, of_bits, of_int, of_fields, to_bits}
use Rattle.std.specs.List.{list_all}
use Rattle.laws.specs.WholeNumbers.{number}
use Rattle.laws.specs.Times.{end}
use Rattle.finality.specs.Brackets.{covers}
use Rattle.model.specs.Model.{bracket, weight}

abbrev times : List Float
times = number 0 ∷ number 10800 ∷ number 21600 ∷ []

-- t = 10800 takes the second field, with weight +0.0; t = 5400 the first, with weight 0.5; 21600 is uncovered, 0 covered
pub model_instances :
    list_all (λ (b : Bool). b) (
    eqb (bracket times (number 10800)) 1
    ∷ eqb (to_bits binary64 (weight times (number 10800) 1)) 0
    ∷ eqb (bracket times (number 5400)) 0
    ∷ eqb (to_bits binary64 (weight times (number 5400) 0)) 0x3fe0000000000000
    ∷ not (covers times (number 21600))
    ∷ covers times (number 0)
    ∷ []
    ) ≡ true
unfolding covers end bracket weight number add sub mul div neg lt le of_bits of_int of_fields to_bits round sum
model_instances = refl

-- both ends of the weight's bound are reached: fields at 2^-23 and 2^31 − 5·2^-22, t = 2^31 − 6·2^-22 has weight 1
abbrev far : List Float
far = of_bits binary64 0x3e80000000000000 ∷ of_bits binary64 0x41dffffffffffffb ∷ []

pub weight_one : to_bits binary64 (weight far (of_bits binary64 0x41dffffffffffffa) 0) ≡ 0x3ff0000000000000
unfolding weight add sub mul div neg lt le of_bits of_fields to_bits round sum
weight_one = refl
