-- `residuals::filling::fill_from`: after i observations the records kept among them are listed, counted and judged finite, and the lengths stay. Assumes nothing.
use mathlib.Core.Path.{refl, ◌∙◌}
use Prim.Native.Nat.{◌+◌}
use native.Mathlib.Omega.{arith}
use Rattle.inputs.specs.Lent.{inputs_of, observed_of}
use Rattle.residuals.specs.Calls.{epoch_columns}
use Rattle.residuals.proofs.Turns.{begins, goes_on, ends, breaks}
use Rattle.residuals.proofs.filling.fill_from.Goals as goal

pub loop-i-init : goal.loop-i-init
loop-i-init c =
    let s = c.args in (
      omega arith,
      refl,
      refl,
      refl,
      refl,
      refl,
      refl,
      begins (inputs_of s.rows.inputs) (observed_of s.samples.observed) s.base
          (epoch_columns s.outtimes.now s.outresiduals.now s.outterms.now s.outmids.now s.outvels.now) s.w.now c.requires.1,
    )

pub turn-more-requires : goal.turn-more-requires
turn-more-requires c =
    let p = c.requires in
    (p.0, c.loop-i-test.true, c.loop-i.invariant.7)

pub loop-i-preserved : goal.loop-i-preserved
loop-i-preserved c =
    let n = c.turn-more.new in (
      omega (arith, c.loop-i-test.true),
      (c.turn-more.auto.outtimes ∙ c.loop-i.invariant.1),
      (c.turn-more.auto.outresiduals ∙ c.loop-i.invariant.2),
      (c.turn-more.auto.outterms ∙ c.loop-i.invariant.3),
      (c.turn-more.auto.outmids ∙ c.loop-i.invariant.4),
      (c.turn-more.auto.outvels ∙ c.loop-i.invariant.5),
      (c.turn-more.auto.w ∙ c.loop-i.invariant.6),
      goes_on (inputs_of c.args.rows.inputs) (observed_of c.args.samples.observed) c.args.base (c.loop-i.i + 1)
          (epoch_columns n.outtimes n.outresiduals n.outterms n.outmids n.outvels) n.w _ _ c.in_ok-count.was c.turn-more.ensures,
    )

pub returns-in_err-count : goal.returns-in_err-count
returns-in_err-count c =
    let s = c.args in
    let n = c.turn-more.new in
    breaks (inputs_of s.rows.inputs) (observed_of s.samples.observed) s.base (c.loop-i.i + 1)
    (epoch_columns n.outtimes n.outresiduals n.outterms n.outmids n.outvels) n.w _ _ c.in_err-count.was c.from_residual.ensures c.turn-more.ensures

pub returns : goal.returns
returns c =
    let s = c.args in
    let l = c.loop-i in
    ends (inputs_of s.rows.inputs) (observed_of s.samples.observed) s.base l.i
    (epoch_columns l.outtimes l.outresiduals l.outterms l.outmids l.outvels) l.w l.count l.invariant.0 c.loop-i-test.false l.invariant.7
