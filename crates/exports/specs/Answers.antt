-- Answers told in numbers, for C: the number of an answer and its values in a lent list. Assumes nothing.
use Rattle.std.specs.Prelude.{ℕ, cond, List, [], ◌∷◌, leb, length, replicate, Float, Option, None, Some, Result, Ok, Err}
use Rattle.laws.specs.Floats.{bits}
use Rattle.slices.specs.Answers.{number_of}
use Rattle.slices.specs.declared.refusal.Refusal.{Refusal}
use Rattle.legendre.specs.declared.Partials.{Partials}
use Rattle.sheet.specs.declared.Counts.{Counts}

-- what a list that is lent for the values holds after an answer: these where there are any; else, like every output,
-- what it held after a refusal before the work (1 to 5), and 0 in each place after one during the work (6 to 10)
abbrev pub told_in : {Value A : Type 0} → A → (Value → List A) → Result Value Refusal → List A → List A
told_in nought listed (Ok v) lent = listed v
told_in nought listed (Err e) lent = cond (leb (number_of e) 5) lent (replicate (length lent) nought)

-- ---- the values as lists

abbrev pub one : {A : Type 0} → A → List A
one x = x ∷ []

-- the kept epochs, the final ones
abbrev pub two : Counts → List ℕ
two counts = counts.kept ∷ counts.finals ∷ []

-- the potential and its derivatives by radius, latitude and longitude
abbrev pub four : Partials → List Float
four p = p.v ∷ p.dr ∷ p.dlat ∷ p.dlon ∷ []

-- the horizon's time, −1.0 without one
abbrev pub time : Option Float → List Float
time (Some z) = z ∷ []
time None = bits 0xBFF0000000000000 ∷ []
