-- What `epoch` answers and leaves, in the cases of its code. Assumes nothing.
use mathlib.Core.Path.{◌≡◌, sym, ap, ◌∙◌}
use mathlib.Core.Bool.{Bool, ◌&&◌}
use Rattle.std.specs.Prelude.{Option, Err}
use mathlib.Core.List.{List, []}
use Prim.Native.Nat.{ℕ}
use native.Mathlib.Omega.{arith}
use lib.Ieee.{Float}
use lib.Ieee.Scale.{finite}
use lib.ListN.{length}
use Rattle.laws.specs.Checks.{is_time, degree_fine}
use Rattle.laws.specs.Bools.{both_true}
use Rattle.laws.specs.Loops.{cleared, same_cleared}
use Rattle.slices.specs.Calls.{Verdict, accepted, left}
use Rattle.slices.specs.declared.refusal.Refusal.{Refusal}
use Rattle.inputs.specs.Inputs.{scratch_fits, Inputs, inputs_counted, inputs_fit, inputs_fine, inputs_rise}
use Rattle.inputs.proofs.Passed.{AllPass, all_pass, degree_passes, rise_passes, scratch_passes}
use Rattle.finality.specs.Sheet.{Observation}
use Rattle.epoch_record.specs.declared.Epoch.{Epoch}
use Rattle.residuals.specs.Inputs.{epoch_of}
use Rattle.residuals.specs.Work.{Ready}
use Rattle.residuals.specs.Calls.{EpochAnswer, epoch_refusal, answered, epoch_left, epoch_call}

pub ready : (inp : Inputs) (count scratch : ℕ) (values : Bool) → AllPass (degree_fine inp.model.fixed.degree) (inputs_counted inp)
    (inputs_fit inp && scratch_fits inp.model.fixed.degree (length inp.model.fields.field_times) count scratch) values (inputs_rise inp) accepted → Ready inp scratch
ready inp count scratch values p =
    let r = rise_passes _ _ _ _ _ p.order in
    let s = scratch_passes inp.model.fixed.degree (length inp.model.fields.field_times) count scratch (both_true (inputs_fit inp) _ p.lengths).1 in
    record {
      degree = degree_passes inp.model.fixed.degree p.degree;
      states_c = r.states_c;
      states_d = r.states_d;
      acc_c = r.acc_c;
      acc_d = r.acc_d;
      room = omega (arith, s);
    }

pub epoch_ready : (inp : Inputs) (t v : Float) (scratch : ℕ) → epoch_refusal inp t v scratch ≡ accepted → Ready inp scratch
unfolding epoch_refusal
epoch_ready inp t v scratch e =
    ready inp 0 scratch (inputs_fine inp && (is_time t && finite v))
    (all_pass (degree_fine inp.model.fixed.degree) (inputs_counted inp) (inputs_fit inp && scratch_fits inp.model.fixed.degree (length inp.model.fields.field_times) 0 scratch)
    (inputs_fine inp && (is_time t && finite v)) (inputs_rise inp) accepted e)

-- ---- the answer

module _ (inp : Inputs) (o : Observation) (s : List Float) where
  pub epoch_refused : (e : Refusal) → epoch_refusal inp o.at o.observed (length s) ≡ Err e → left (Err e) [] s ≡ epoch_call inp o s
  epoch_refused e h = rw h

  pub epoch_answered : (s' w : List Float) (made : Option Epoch) (r : EpochAnswer) → epoch_refusal inp o.at o.observed (length s) ≡ accepted
      → made ≡ epoch_of inp o → r ≡ answered made → s' ≡ cleared w → length w ≡ length s → left r [] s' ≡ epoch_call inp o s
  epoch_answered s' w made r h m e z l =
      (λ i. left ((e ∙ ap answered m) i) [] ((z ∙ same_cleared w s l) i)) ∙ ap (λ (v : Verdict). epoch_left v (epoch_of inp o) s) (sym h)
