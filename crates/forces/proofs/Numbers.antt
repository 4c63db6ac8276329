-- Document 01's number of an answer is that of the first test that fails, and a value is handed out exactly where none does. All calls without slices
-- answer by `judged`. Assumes nothing.
use Rattle.std.specs.Prelude.{◌≡◌, refl, Bool, true, false, cond, ◌&&◌, [], ◌∷◌, Some, None}
use Rattle.slices.specs.Answers.{answer_number, answer_value}
use Rattle.slices.specs.Calls.{first_failed}
use Rattle.slices.specs.declared.refusal.Refusal.TheVariants.{Value, NotFinite}
use Rattle.vectors.specs.declared.Vector.{Vector}
use Rattle.sun_moon.specs.declared.SunMoon.{SunMoon}
use Rattle.forces.specs.Calls.{finite_vector, judged, answer, places}

pub judged_told : {A : Type 0} (fine whole : Bool) (v : A) → (answer_number (judged fine whole v) ≡ answer_number (first_failed ((fine, Value) ∷ (whole, NotFinite) ∷ [])))
    × (answer_value (judged fine whole v) ≡ cond (fine && whole) (Some v) None)
judged_told true true v = (refl, refl)
judged_told true false v = (refl, refl)
judged_told false whole v = (refl, refl)

pub answer_told : (fine : Bool) (v : Vector) → (answer_number (answer fine v) ≡ answer_number (first_failed ((fine, Value) ∷ (finite_vector v, NotFinite) ∷ [])))
    × (answer_value (answer fine v) ≡ cond (fine && finite_vector v) (Some v) None)
unfolding answer
answer_told fine v = judged_told fine (finite_vector v) v

pub places_told : (fine : Bool) (p : SunMoon) →
    (answer_number (places fine p) ≡ answer_number (first_failed ((fine, Value) ∷ (finite_vector p.sun && finite_vector p.moon, NotFinite) ∷ [])))
    × (answer_value (places fine p) ≡ cond (fine && (finite_vector p.sun && finite_vector p.moon)) (Some p) None)
places_told fine p = judged_told fine (finite_vector p.sun && finite_vector p.moon) p
