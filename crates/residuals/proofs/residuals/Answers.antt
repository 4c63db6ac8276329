-- `residuals::residuals`: refused, counted and handed out, or not finite and cleared, each by its law of proofs/ListAnswers.antt. Assumes nothing.
use mathlib.Core.Path.{sym, ap, ◌∙◌}
use Prim.Native.Nat.{ℕ}
use Rattle.std.specs.Prelude.{Result}
use Rattle.slices.specs.declared.refusal.Refusal.{Refusal}
use Rattle.slices.proofs.Calls.{handed_on}
use Rattle.inputs.specs.Lent.{inputs_of, observed_of}
use Rattle.residuals.specs.Calls.{epoch_columns, columns_left}
use Rattle.residuals.proofs.ListAnswers.{residuals_ready, residuals_refused, residuals_unfit}
use Rattle.residuals.proofs.Turns.{none_done}
use Rattle.residuals.proofs.residuals.Goals as goal

pub returns-in_err-residuals_refusal : goal.returns-in_err-residuals_refusal
returns-in_err-residuals_refusal c =
    let s = c.args in
    let outs = epoch_columns s.outtimes.now s.outresiduals.now s.outterms.now s.outmids.now s.outvels.now in
    ap (λ (r : Result ℕ Refusal). columns_left r outs s.scratch.now) (handed_on _ _ c.from_residual.ensures)
    ∙ residuals_refused (inputs_of s.inputs) (observed_of s.observed) outs s.scratch.now _ c.samples_fit-samples.ensures _
    (sym c.residuals_refusal.ensures ∙ c.in_err-residuals_refusal.was)

pub invariant_of-fill : goal.invariant_of-fill
invariant_of-fill c =
    let s = c.args in
    let r = residuals_ready (inputs_of s.inputs) (observed_of s.observed)
    (epoch_columns s.outtimes.now s.outresiduals.now s.outterms.now s.outmids.now s.outvels.now) _ _ c.samples_fit-samples.ensures
    (sym c.residuals_refusal.ensures ∙ c.in_ok-residuals_refusal.was) in
    record { values = r.1; good = r.2 }

pub fill-filled-requires : goal.fill-filled-requires
fill-filled-requires c =
    let s = c.args in
    let r = residuals_ready (inputs_of s.inputs) (observed_of s.observed)
    (epoch_columns s.outtimes.now s.outresiduals.now s.outterms.now s.outmids.now s.outvels.now) _ _ c.samples_fit-samples.ensures
    (sym c.residuals_refusal.ensures ∙ c.in_ok-residuals_refusal.was) in
    (r.0, r.3)

pub returns-in_default : goal.returns-in_default
returns-in_default c =
    let s = c.args in
    let p = c.fill-filled.auto in
    let long = (residuals_ready (inputs_of s.inputs) (observed_of s.observed)
    (epoch_columns s.outtimes.now s.outresiduals.now s.outterms.now s.outmids.now s.outvels.now) _ _ c.samples_fit-samples.ensures
    (sym c.residuals_refusal.ensures ∙ c.in_ok-residuals_refusal.was)).3 in
    residuals_unfit (inputs_of s.inputs) (observed_of s.observed)
    (epoch_columns s.outtimes.now s.outresiduals.now s.outterms.now s.outmids.now s.outvels.now) s.scratch.now _ c.samples_fit-samples.ensures
    (sym c.residuals_refusal.ensures ∙ c.in_ok-residuals_refusal.was) _ _ _ _
    (none_done (inputs_of s.inputs) (observed_of s.observed) _ _ c.in_default.not-Some c.fill-filled.ensures) c.clear.ensures p.w
    (record {
      times = p.outtimes ∙ long.times;
      residuals = p.outresiduals ∙ long.residuals;
      terms = p.outterms ∙ long.terms;
      mids = p.outmids ∙ long.mids;
      vels = p.outvels ∙ long.vels;
    })
    c.clear_lists.ensures
