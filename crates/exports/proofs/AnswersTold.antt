-- Answers told in numbers: values stored in their places. Assumes nothing.
use Rattle.std.specs.Prelude.{◌≡◌, refl, List, [], ◌∷◌, length, Float, Option, Some, None}
use Rattle.std.proofs.Common.{slice_set, arith}
use Rattle.std.specs.Option.{unwrap_or}
use Rattle.laws.specs.Floats.{bits}
use Rattle.legendre.specs.declared.Partials.{Partials}
use Rattle.exports.specs.Answers.{one, four, time}

-- ---- values stored one by one

pub one_set : {A : Type 0} (xs : List A) (x : A) → length xs ≡ 1 → slice_set xs 0 x ≡ one x
one_set [] x h = absurd (omega arith)
one_set (y ∷ []) x h = refl
one_set (y ∷ z ∷ xs) x h = absurd (omega arith)

pub four_set : (out : List Float) (p : Partials) → length out ≡ 4 → slice_set (slice_set (slice_set (slice_set out 0 p.v) 1 p.dr) 2 p.dlat) 3 p.dlon ≡ four p
four_set [] p h = absurd (omega arith)
four_set (x ∷ []) p h = absurd (omega arith)
four_set (x ∷ y ∷ []) p h = absurd (omega arith)
four_set (x ∷ y ∷ z ∷ []) p h = absurd (omega arith)
four_set (x ∷ y ∷ z ∷ w ∷ []) p h = refl
four_set (x ∷ y ∷ z ∷ w ∷ u ∷ out) p h = absurd (omega arith)

pub time_set : (out : List Float) (o : Option Float) (z : Float) → length out ≡ 1 → z ≡ unwrap_or o (bits 0xBFF0000000000000) → slice_set out 0 z ≡ time o
time_set out (Some x) z h e = rw e (one_set out x h)
time_set out None z h e = rw e (one_set out (bits 0xBFF0000000000000) h)
