use Rattle.std.proofs.Common.{rules, sym, ◌∙◌}
use Rattle.least_squares.proofs.Calls.{passes, ols_failed, ols_room, ols_accepted, ols_unfit}
use Rattle.least_squares.proofs.ols.Goals as goal
use Rattle.least_squares.proofs.ols.Goals.{else-all_finite-via-then-all_finite+else-all_finite-2, else-all_finite-via-else-all_finite}

pub returns-then-not-coefficients : goal.returns-then-not-coefficients
returns-then-not-coefficients c =
    ols_failed _ _ _ _ _ (sym c.refusal.ensures ∙ c.in_ok-refusal.was) _ c.coefficients.ensures.0 _ c.coefficients.ensures.1 (search rules) _ _ c.clear.ensures c.clear-then-not-coefficients.ensures

pub invariant_of-residuals : goal.invariant_of-residuals
invariant_of-residuals c =
    let p = passes _ _ _ _ _ (sym c.refusal.ensures ∙ c.in_ok-refusal.was) in
    record { few = p.columns; full = p.full }

pub residuals-requires : goal.residuals-requires
residuals-requires c = ols_room _ _ _ _ _ (sym c.refusal.ensures ∙ c.in_ok-refusal.was) _ c.coefficients.ensures.0 _ c.coefficients.ensures.1 (search rules)

pub returns-then-all_finite-2 : goal.returns-then-all_finite-2
returns-then-all_finite-2 c =
    ols_accepted _ _ _ _ _ (sym c.refusal.ensures ∙ c.in_ok-refusal.was) _ c.coefficients.ensures.0 _ c.coefficients.ensures.1 (search rules) _ c.residuals.ensures
    (simp (sym c.all_finite.ensures ∙ c.if-all_finite.true) (sym c.all_finite-then-all_finite.ensures ∙ c.if-all_finite-2.true))

pub returns : goal.returns
returns c =
    ols_unfit _ _ _ _ _ (sym c.refusal.ensures ∙ c.in_ok-refusal.was) _ c.coefficients.ensures.0 _ c.coefficients.ensures.1 (search rules) _ c.residuals.ensures
    (elim c.else-all_finite.branch [
      | else-all_finite-via-then-all_finite+else-all_finite-2 w ↦ simp (sym c.all_finite.ensures ∙ w.if-all_finite.true) (sym w.all_finite-then-all_finite.ensures ∙ w.if-all_finite-2.false)
      | else-all_finite-via-else-all_finite w ↦ simp (sym c.all_finite.ensures ∙ w.if-all_finite.false)
    ])
    _ _ c.clear-2.ensures c.clear-3.ensures
