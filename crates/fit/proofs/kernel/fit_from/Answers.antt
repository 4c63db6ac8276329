-- `fit::kernel::fit_from`: the first round fails, the second fails, or both are fine and the last run ends the fit; by proofs/WholeFit.antt. Assumes nothing.
use Rattle.std.proofs.Common.{sym, ap, ◌∙◌}
use Rattle.std.specs.Prelude.{Err}
use Rattle.slices.proofs.Calls.{handed_on}
use Rattle.fit.proofs.WholeFit.{first_bad, second_bad, both_good, none_refused, some_found}
use Rattle.fit.proofs.kernel.fit_from.Goals as goal

pub returns-in_err-p : goal.returns-in_err-p
returns-in_err-p c =
    let none = none_refused _ _ _ (sym c.ok_or.ensures.value ∙ c.in_err-p.was) in
    rw (handed_on _ _ c.from_residual.ensures ∙ ap Err none.1)
    (first_bad _ _ _ _ _ _ _ _ c.args.known.few c.start.ensures c.round.result c.round.ensures none.0)

pub returns-in_err-q : goal.returns-in_err-q
returns-in_err-q c =
    let none = none_refused _ _ _ (sym c.ok_or-2.ensures.value ∙ c.in_err-q.was) in
    rw (handed_on _ _ c.from_residual-in_err-q.ensures ∙ ap Err none.1)
    (second_bad _ _ _ _ _ _ _ _ c.args.known.few c.start.ensures c.round.result c.round.ensures
    c.in_ok-p.p (some_found _ _ _ (sym c.ok_or.ensures.value ∙ c.in_ok-p.was)) _ c.round-2.result c.round-2.ensures none.0)

pub returns : goal.returns
returns c =
    both_good _ _ _ _ _ _ _ _ c.args.known.few c.start.ensures c.round.result c.round.ensures
    c.in_ok-p.p (some_found _ _ _ (sym c.ok_or.ensures.value ∙ c.in_ok-p.was)) _ c.round-2.result c.round-2.ensures
    c.in_ok-q.q (some_found _ _ _ (sym c.ok_or-2.ensures.value ∙ c.in_ok-q.was)) _ _ c.finish.ensures
