-- `integrate::integrate` meets its contract. Assumes nothing.
use Rattle.std.proofs.Common.{sym, ◌∙◌, arith}
use Rattle.inputs.specs.Lent.{model_of}
use Rattle.integrate.proofs.Calls.{passes, integrate_accepted, integrate_unfit}
use Rattle.integrate.proofs.integrate.Goals as goal

pub states_of-requires : goal.states_of-requires
states_of-requires c =
    let s = c.args in
    let q = passes (model_of s.model) s.arc s.p _ _ (sym c.refusal.ensures ∙ c.in_ok-refusal.was) in
    (q.degree, q.few, omega (arith, q.room), q.each)

pub returns-then-all_finite : goal.returns-then-all_finite
returns-then-all_finite c =
    let s = c.args in
    integrate_accepted s.force (model_of s.model) s.arc s.p s.out.now s.scratch.now _ _ _ _ c.refusal.ensures c.in_ok-refusal.was
    c.states_of.ensures c.clear.ensures _ c.all_finite.ensures c.if-all_finite.true

pub returns : goal.returns
returns c =
    let s = c.args in
    integrate_unfit s.force (model_of s.model) s.arc s.p s.out.now s.scratch.now _ _ _ _ c.refusal.ensures c.in_ok-refusal.was
    c.states_of.ensures c.clear.ensures _ c.all_finite.ensures c.if-all_finite.false _ c.clear-2.ensures
