-- Document 01's number of an answer is that of the first test that fails, and a value is handed out exactly where none does. Assumes nothing.
use Rattle.std.specs.Prelude.{◌≡◌, refl, Bool, true, false, cond, ◌&&◌, [], ◌∷◌, Some, None, Ok, Err, ℕ, ◌+◌, leb, Result, Float}
use Rattle.std.specs.Float.Ieee.Scale.{finite}
use Rattle.laws.specs.Tables.{tri}
use Rattle.slices.specs.declared.refusal.Refusal.{Refusal}
use Rattle.slices.specs.declared.refusal.Refusal.TheVariants.{Count, Value, NotFinite}
use Rattle.slices.specs.Answers.{answer_number, answer_value}
use Rattle.slices.specs.Calls.{first_failed}
use Rattle.legendre.specs.declared.Partials.{Partials}
use Rattle.fields.specs.declared.NorthEastUp.{NorthEastUp}
use Rattle.fields.specs.Calls.{index_of, acceleration_of, acceleration_call, finite_partials, finite_neu}

index_by : (fine : Bool) (k : ℕ) → (answer_number (cond fine (Ok k) (Err Count)) ≡ answer_number (first_failed ((fine, Count) ∷ [])))
    × (answer_value (cond fine (Ok k) (Err Count)) ≡ cond fine (Some k) None)
index_by true k = (refl, refl)
index_by false k = (refl, refl)

pub index_told : (n m : ℕ) → (answer_number (index_of n m) ≡ answer_number (first_failed ((leb m n && leb n 180, Count) ∷ [])))
    × (answer_value (index_of n m) ≡ cond (leb m n && leb n 180) (Some (tri n + m)) None)
unfolding index_of
index_told n m = index_by (leb m n && leb n 180) (tri n + m)

abbrev answered : Bool → Bool → NorthEastUp → Result NorthEastUp Refusal
answered fine whole a = cond fine (cond whole (Ok a) (Err NotFinite)) (Err Value)

acceleration_by : (fine whole : Bool) (a : NorthEastUp) → (answer_number (answered fine whole a) ≡ answer_number (first_failed ((fine, Value) ∷ (whole, NotFinite) ∷ [])))
    × (answer_value (answered fine whole a) ≡ cond (fine && whole) (Some a) None)
acceleration_by true true a = (refl, refl)
acceleration_by true false a = (refl, refl)
acceleration_by false whole a = (refl, refl)

pub acceleration_told : (p : Partials) (r lat : Float) →
    (answer_number (acceleration_call p r lat) ≡ answer_number (first_failed ((finite_partials p && (finite r && finite lat), Value) ∷ (finite_neu (acceleration_of p r lat), NotFinite) ∷ [])))
    × (answer_value (acceleration_call p r lat) ≡ cond ((finite_partials p && (finite r && finite lat)) && finite_neu (acceleration_of p r lat))
    (Some (acceleration_of p r lat)) None)
unfolding acceleration_call
acceleration_told p r lat = acceleration_by (finite_partials p && (finite r && finite lat)) (finite_neu (acceleration_of p r lat)) (acceleration_of p r lat)
