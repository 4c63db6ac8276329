-- Document 01's number of what `epoch` answers: that of the tests before the work, then 10; it says whether the epoch is kept, with its record, exactly where that is 0.
-- Assumes nothing.
use mathlib.Core.Path.{◌≡◌, refl}
use mathlib.Core.Bool.{Bool, true, false, cond, ◌&&◌}
use mathlib.Core.List.{List, [], ◌∷◌}
use Rattle.std.specs.Prelude.{Option, None, Some, Ok, Err}
use lib.Dec.{eqb}
use Prim.Native.Nat.{ℕ}
use lib.Ieee.{Float}
use lib.ListN.{length}
use Rattle.slices.specs.Calls.{Verdict, first_failed}
use Rattle.slices.specs.Answers.{number_of, answer_number, answer_value}
use Rattle.slices.specs.declared.refusal.Refusal.{Refusal}
use Rattle.slices.specs.declared.refusal.Refusal.TheVariants.{NotFinite}
use Rattle.slices.proofs.Calls.{refused_ne0}
use Rattle.inputs.specs.Inputs.{Inputs}
use Rattle.finality.specs.Sheet.{Observation}
use Rattle.epoch_record.specs.declared.Epoch.{Epoch}
use Rattle.residuals.specs.Inputs.{epoch_of}
use Rattle.residuals.specs.Calls.{EpochAnswer, epoch_refusal, epoch_finite, answered, epoch_left, epoch_call}

-- nothing is handed out of an epoch that is not kept
abbrev pub finite_where_kept : Option Epoch → Bool
finite_where_kept None = true
finite_where_kept (Some e) = epoch_finite e

-- told by the number n of the tests before the work
abbrev Told : ℕ → Bool → Option Epoch → EpochAnswer → Type 0
Told n fine e a =
    (answer_number a ≡ cond (eqb n 0) (answer_number (first_failed ((fine, NotFinite) ∷ []))) n)
    × (answer_value a ≡ cond (eqb n 0 && fine) (Some e) None)

kept_told : (whole : Bool) (e : Epoch) → Told 0 whole (Some e) (cond whole (Ok (Some e)) (Err NotFinite))
kept_told true e = (refl, refl)
kept_told false e = (refl, refl)

made_told : (e : Option Epoch) → Told 0 (finite_where_kept e) e (answered e)
made_told None = (refl, refl)
made_told (Some e) = kept_told (epoch_finite e) e

refused_told : (r : Refusal) (fine : Bool) (e : Option Epoch) → Told (number_of r) fine e (Err r)
refused_told r fine e = (rw (refused_ne0 r) refl, rw (refused_ne0 r) refl)

left_by : (v : Verdict) (e : Option Epoch) (scratch : List Float) → Told (answer_number v) (finite_where_kept e) e (epoch_left v e scratch).answer
left_by (Err r) e scratch = refused_told r (finite_where_kept e) e
left_by (Ok _) e scratch = made_told e

pub epoch_told : (inp : Inputs) (o : Observation) (scratch : List Float) →
    let n = answer_number (epoch_refusal inp o.at o.observed (length scratch)) in
    (answer_number (epoch_call inp o scratch).answer ≡ cond (eqb n 0) (answer_number (first_failed ((finite_where_kept (epoch_of inp o), NotFinite) ∷ []))) n)
    × (answer_value (epoch_call inp o scratch).answer ≡ cond (eqb n 0 && finite_where_kept (epoch_of inp o)) (Some (epoch_of inp o)) None)
epoch_told inp o scratch = left_by (epoch_refusal inp o.at o.observed (length scratch)) (epoch_of inp o) scratch
