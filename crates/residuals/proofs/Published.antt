-- The published series: with the Legendre tables that `Legendre::new` fills, `epoch` and `residuals` answer and leave what they do with the gravity of the published series
-- of the field at each time. Assumes nothing.
use mathlib.Core.Path.{◌≡◌, refl, ap}
use mathlib.Core.Bool.{Bool, true, ◌&&◌}
use Rattle.std.specs.Prelude.{Option}
use mathlib.Core.List.{List}
use Prim.Native.Nat.{ℕ, ◌≤◌}
use lib.Dec.{leb}
use lib.Ieee.{Float}
use lib.Ieee.Scale.{finite}
use lib.ListN.{length}
use borrow.Author.Tests.{leb-true}
use Rattle.laws.specs.Bools.{both_true}
use Rattle.slices.specs.Calls.{Verdict, accepted}
use Rattle.std.specs.List.{list_all}
use Rattle.laws.specs.Checks.{is_time, rising, degree_fine}
use Rattle.inputs.specs.Inputs.{Model, fields_fine, counts_fine, model_sized, scratch_fits, Observed, Inputs, inputs_counted, inputs_fit, inputs_fine, inputs_rise}
use Rattle.inputs.proofs.Passed.{all_pass, degree_passes, model_passes}
use Rattle.finality.specs.Sheet.{Observation}
use Rattle.epoch_record.specs.declared.Epoch.{Epoch}
use Rattle.integrate.proofs.Published.{Sized, Published, published_at, gravity_published, by_acceptance}
use Rattle.epoch.specs.Kept.{record_at, seen_by, epoch_by}
use Rattle.residuals.specs.Inputs.{epoch_under, epoch_of}
use Rattle.residuals.specs.Calls.{epoch_refusal, epoch_left, epoch_from, epoch_call}
use Rattle.residuals.specs.Calls.{EpochColumns, outputs_fit, residuals_refusal, kept_from, kept_in, settled_columns, residuals_from, residuals_call}

-- ---- acceptance gives the lengths

counted_fields : (inp : Inputs) → inputs_counted inp ≡ true → 2 ≤ length inp.model.fields.field_times
unfolding counts_fine
counted_fields inp h =
    let n : ℕ = length inp.model.fields.field_times in
    leb-true 2 n (both_true (leb 2 n) (leb n 32) (both_true (fields_fine n) _ h).0).0

all_sized : (inp : Inputs) → degree_fine inp.model.fixed.degree ≡ true → inputs_counted inp ≡ true → inputs_fit inp ≡ true → Sized inp.model
all_sized inp d c f =
    let M : Model = inp.model in
    let l = model_passes M.fixed.degree (length M.fields.field_times) (length M.fixed.static) (length M.fields.added) (length M.fixed.a) (length M.fixed.b)
    (both_true (model_sized M) _ f).0 in
    record { degree = degree_passes inp.model.fixed.degree d; static = l.static; fields = counted_fields inp c; added = l.added; a = l.a; b = l.b }

epoch_sized : (inp : Inputs) (t v : Float) (scratch : ℕ) → epoch_refusal inp t v scratch ≡ accepted → Sized inp.model
unfolding epoch_refusal
epoch_sized inp t v scratch h =
    let p = all_pass (degree_fine inp.model.fixed.degree) (inputs_counted inp) (inputs_fit inp && scratch_fits inp.model.fixed.degree (length inp.model.fields.field_times) 0 scratch)
    (inputs_fine inp && (is_time t && finite v)) (inputs_rise inp) accepted h in
    all_sized inp p.degree p.counts (both_true (inputs_fit inp) _ p.lengths).0

residuals_sized : (inp : Inputs) (obs : Observed) (samples : Bool) (scratch : ℕ) → residuals_refusal inp obs samples scratch ≡ accepted → Sized inp.model
unfolding residuals_refusal
residuals_sized inp obs samples scratch h =
    let p = all_pass (degree_fine inp.model.fixed.degree) (inputs_counted inp && leb (length obs.obs_times) 100000)
    ((inputs_fit inp && scratch_fits inp.model.fixed.degree (length inp.model.fields.field_times) (length obs.obs_times) scratch) && samples)
    (inputs_fine inp && (list_all is_time obs.obs_times && list_all finite obs.values)) (inputs_rise inp && rising obs.obs_times) accepted h in
    let f = (both_true (inputs_fit inp && scratch_fits inp.model.fixed.degree (length inp.model.fields.field_times) (length obs.obs_times) scratch) samples p.lengths).0 in
    all_sized inp p.degree (both_true (inputs_counted inp) (leb (length obs.obs_times) 100000) p.counts).0 (both_true (inputs_fit inp) _ f).0

-- ---- the calls

module _ (inp : Inputs) (tables : Published inp.model) where
  -- an epoch that is kept
  kept_published : Sized inp.model → epoch_of inp ≡ epoch_under (published_at inp.model) inp
  unfolding epoch_by seen_by record_at
  kept_published sized = λ i. epoch_under (λ t x. gravity_published inp.model sized tables t x i) inp

  pub epoch_published : (o : Observation) (scratch : List Float) → epoch_call inp o scratch ≡ epoch_from (epoch_under (published_at inp.model) inp o) inp o scratch
  epoch_published o scratch =
      by_acceptance (λ (v : Verdict) (e : Option Epoch). epoch_left v e scratch) (epoch_refusal inp o.at o.observed (length scratch))
      (epoch_of inp o) (epoch_under (published_at inp.model) inp o) (λ k. refl)
      (λ h. ap (λ (epoch : Observation → Option Epoch). epoch o) (kept_published (epoch_sized inp o.at o.observed (length scratch) h)))

  pub residuals_published : (obs : Observed) (outs : EpochColumns) (scratch : List Float) →
      residuals_call inp obs outs scratch ≡ residuals_from (kept_from (epoch_under (published_at inp.model) inp) obs) inp obs outs scratch
  unfolding kept_in
  residuals_published obs outs scratch =
      by_acceptance (λ (v : Verdict) (es : List Epoch). settled_columns v (length obs.obs_times) es outs scratch) (residuals_refusal inp obs (outputs_fit obs outs) (length scratch))
      (kept_from (epoch_of inp) obs) (kept_from (epoch_under (published_at inp.model) inp) obs) (λ k. refl)
      (λ h. ap (λ (epoch : Observation → Option Epoch). kept_from epoch obs) (kept_published (residuals_sized inp obs (outputs_fit obs outs) (length scratch) h)))
