-- `fit::kernel::fit_within`: an end not covered, too few observations, no start, or the fit from it, each by its law of proofs/WholeFit.antt. Assumes nothing.
use Rattle.std.proofs.Common.{sym, ap, ◌∙◌}
use Rattle.std.specs.Prelude.{Err}
use borrow.Author.Tests.{leb-true, leb-false}
use Rattle.slices.proofs.Calls.{handed_on}
use Rattle.fit.proofs.WholeFit.{first_uncovered, last_uncovered, few, started, no_start, none_refused, some_found, passed_is, failed_is}
use Rattle.fit.proofs.kernel.fit_within.Goals as goal

pub returns-in_err-tested : goal.returns-in_err-tested
returns-in_err-tested c =
    let failed = failed_is _ _ _ (sym c.tested.ensures ∙ c.in_err-tested.was) in
    rw (handed_on _ _ c.from_residual.ensures ∙ ap Err failed.1) (first_uncovered _ _ _ _ _ _ (sym c.covers.ensures ∙ failed.0))

pub returns-in_err-tested-2 : goal.returns-in_err-tested-2
returns-in_err-tested-2 c =
    let failed = failed_is _ _ _ (sym c.tested-2.ensures ∙ c.in_err-tested-2.was) in
    rw (handed_on _ _ c.from_residual-in_err-tested-2.ensures ∙ ap Err failed.1)
    (last_uncovered _ _ _ _ _ _ _ c.time-end.ensures
    (sym c.covers.ensures ∙ passed_is _ _ (sym c.tested.ensures ∙ c.in_ok-tested.was)) (sym c.covers-2.ensures ∙ failed.0))

pub returns-in_err-tested-3 : goal.returns-in_err-tested-3
returns-in_err-tested-3 c =
    let failed = failed_is _ _ _ (sym c.tested-3.ensures ∙ c.in_err-tested-3.was) in
    rw (handed_on _ _ c.from_residual-in_err-tested-3.ensures ∙ ap Err failed.1)
    (few _ _ _ _ _ _ _ c.time-end.ensures
    (sym c.covers.ensures ∙ passed_is _ _ (sym c.tested.ensures ∙ c.in_ok-tested.was))
    (sym c.covers-2.ensures ∙ passed_is _ _ (sym c.tested-2.ensures ∙ c.in_ok-tested-2.was)) c.args.bench.few _ _
    c.observe-known.ensures (leb-false _ _ failed.0))

pub returns-in_err-state : goal.returns-in_err-state
returns-in_err-state c =
    let none = none_refused _ _ _ (sym c.ok_or.ensures.value ∙ c.in_err-state.was) in
    rw (handed_on _ _ c.from_residual-in_err-state.ensures ∙ ap Err none.1)
    (no_start _ _ _ _ _ _ _ c.time-end.ensures
    (sym c.covers.ensures ∙ passed_is _ _ (sym c.tested.ensures ∙ c.in_ok-tested.was))
    (sym c.covers-2.ensures ∙ passed_is _ _ (sym c.tested-2.ensures ∙ c.in_ok-tested-2.was)) c.args.bench.few _ _
    c.observe-known.ensures (leb-true _ _ (passed_is _ _ (sym c.tested-3.ensures ∙ c.in_ok-tested-3.was))) (sym (c.state_for.ensures c.args.bench.rising) ∙ none.0))

pub returns : goal.returns
returns c =
    started _ _ _ _ _ _ _ c.time-end.ensures
    (sym c.covers.ensures ∙ passed_is _ _ (sym c.tested.ensures ∙ c.in_ok-tested.was))
    (sym c.covers-2.ensures ∙ passed_is _ _ (sym c.tested-2.ensures ∙ c.in_ok-tested-2.was)) c.args.bench.few _ _
    c.observe-known.ensures (leb-true _ _ (passed_is _ _ (sym c.tested-3.ensures ∙ c.in_ok-tested-3.was)))
    c.in_ok-state.state (sym (c.state_for.ensures c.args.bench.rising) ∙ some_found _ _ _ (sym c.ok_or.ensures.value ∙ c.in_ok-state.was)) _ _ c.fit_from.ensures
