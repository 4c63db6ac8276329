-- `fit::fit_orbit`: refused by a test, refused by the fit, or handed out, each by its law of proofs/Calls.antt. Assumes nothing.
use Rattle.std.proofs.Common.{ap, sym, ◌∙◌, arith}
use Rattle.inputs.specs.Lent.{model_of, keyed_of}
use Rattle.fit.specs.Fit.{answer_of}
use Rattle.fit.proofs.Calls.{fit_refused, fit_passed, fit_long, fit_failed, fit_handed}
use Rattle.fit.proofs.fit_orbit.Goals as goal

pub returns-in-Err : goal.returns-in-Err
returns-in-Err c = let s = c.args in fit_refused (model_of s.model) (keyed_of s.states) s.arc s.out.now s.scratch.now _ (sym c.refusal.ensures ∙ c.in-Err.is)

pub hand_out-requires : goal.hand_out-requires
hand_out-requires c =
    let s = c.args in
    let passed = sym c.refusal.ensures ∙ c.in_default.is in
    let q = fit_passed (model_of s.model) (keyed_of s.states) s.arc s.out.now s.scratch.now passed in
    let l = fit_long (model_of s.model) (keyed_of s.states) s.arc s.out.now s.scratch.now passed _ _ c.fit_arc.ensures in
    (q.degree, q.few, omega (arith, q.room, l), q.each)

pub returns-in-Fitted : goal.returns-in-Fitted
returns-in-Fitted c =
    let s = c.args in
    fit_handed (model_of s.model) (keyed_of s.states) s.arc s.out.now s.scratch.now (sym c.refusal.ensures ∙ c.in_default.is) _ _ c.fit_arc.ensures
    c.in-Fitted.x (ap answer_of c.in-Fitted.is) _ _ _ c.hand_out.ensures

pub returns-in-Refused : goal.returns-in-Refused
returns-in-Refused c =
    let s = c.args in
    fit_failed (model_of s.model) (keyed_of s.states) s.arc s.out.now s.scratch.now (sym c.refusal.ensures ∙ c.in_default.is) _ _ c.fit_arc.ensures
    c.in-Refused.refused (ap answer_of c.in-Refused.is) _ _ c.clear.ensures c.clear-in-Refused.ensures
