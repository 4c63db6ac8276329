-- `residuals::epoch`: refused, or answered from a ready scratch that is cleared then, each by its law of proofs/Answers.antt. Assumes nothing.
use mathlib.Core.Path.{refl, sym, ap, ◌≡◌, ◌∙◌}
use native.Mathlib.Omega.{arith}
use Rattle.std.specs.Prelude.{[]}
use Rattle.slices.specs.Calls.{left}
use Rattle.slices.proofs.Calls.{handed_on}
use Rattle.inputs.specs.Inputs.{front_size}
use Rattle.inputs.specs.Lent.{model_of, inputs_of}
use Rattle.epoch.specs.Kept.{observation}
use Rattle.residuals.specs.Calls.{EpochAnswer}
use Rattle.residuals.proofs.Answers.{epoch_refused, epoch_ready, epoch_answered}
use Rattle.residuals.proofs.epoch.Goals as goal

pub returns-in_err-epoch_refusal : goal.returns-in_err-epoch_refusal
returns-in_err-epoch_refusal c =
    let s = c.args in
    ap (λ (r : EpochAnswer). left r [] s.scratch.now) (handed_on _ _ c.from_residual.ensures)
    ∙ epoch_refused (inputs_of s.inputs) (observation s.t s.observed s.good) s.scratch.now _ (sym c.epoch_refusal.ensures ∙ c.in_err-epoch_refusal.was)

pub invariant_of-try_epoch : goal.invariant_of-try_epoch
invariant_of-try_epoch c =
    let s = c.args in
    let p = epoch_ready (inputs_of s.inputs) s.t s.observed _ (sym c.epoch_refusal.ensures ∙ c.in_ok-epoch_refusal.was) in
    record { states_c = p.states_c; states_d = p.states_d; accs_c = p.acc_c; accs_d = p.acc_d }

pub try_epoch-made-requires : goal.try_epoch-made-requires
try_epoch-made-requires c =
    let s = c.args in
    let p = epoch_ready (inputs_of s.inputs) s.t s.observed _ (sym c.epoch_refusal.ensures ∙ c.in_ok-epoch_refusal.was) in
    let e : _ ≡ front_size s.inputs.model.degree = c.front_size-base.ensures.0 p.degree in (
      omega (arith, e, p.room, c.«open».ensures.only.long),
      c.«open».ensures.usable e (omega (arith, e, p.room)) (model_of s.inputs.model) refl,
    )

pub returns : goal.returns
returns c =
    let s = c.args in
    epoch_answered (inputs_of s.inputs) (observation s.t s.observed s.good) s.scratch.now _ _ _ _
    (sym c.epoch_refusal.ensures ∙ c.in_ok-epoch_refusal.was) c.try_epoch-made.ensures.is c.judged.ensures c.clear.ensures
    (c.try_epoch-made.ensures.long ∙ c.«open».ensures.only.long)
