-- Document 01's number of what `covers` answers is that of the first test that fails, and it tells exactly where none does. Assumes nothing.
use mathlib.Core.Path.{◌≡◌, refl}
use mathlib.Core.Bool.{Bool, cond}
use mathlib.Core.List.{List}
use lib.Dec.{eqb}
use lib.Ieee.{Float}
use Rattle.std.proofs.Common.{Ok, Err, Some, None}
use Rattle.finality.specs.Brackets.{covers}
use Rattle.slices.specs.Calls.{Verdict}
use Rattle.slices.specs.Answers.{answer_number, answer_value}
use Rattle.slices.proofs.Calls.{refused_ne0}
use Rattle.model.specs.Calls.{cover_refusal, cover_answer, cover_call}

cover_by : (v : Verdict) (b : Bool) → (answer_number (cover_answer v b) ≡ answer_number v)
    × (answer_value (cover_answer v b) ≡ cond (eqb (answer_number v) 0) (Some b) None)
cover_by (Ok _) b = (refl, refl)
cover_by (Err e) b = (refl, rw (refused_ne0 e) refl)

pub cover_told : (times : List Float) (t : Float) → (answer_number (cover_call times t) ≡ answer_number (cover_refusal times t))
    × (answer_value (cover_call times t) ≡ cond (eqb (answer_number (cover_refusal times t)) 0) (Some (covers times t)) None)
cover_told times t = cover_by (cover_refusal times t) (covers times t)
