-- `sheet::sheet`: refused, accepted with both counts, or not finite and cleared, each by its law of proofs/Answers.antt. Assumes nothing.
use mathlib.Core.List.{[], ◌∷◌}
use Rattle.inputs.specs.Lent.{fixed_of, lists_of}
use Rattle.sheet.proofs.Answers.{answered, kept_within}
use Rattle.sheet.proofs.sheet.Goals as goal

pub slice_bounds-count_final-end : goal.slice_bounds-count_final-end
slice_bounds-count_final-end c = kept_within _ _ _ _ _ _ c.work-kept.ensures

pub returns-then-columns_finite : goal.returns-then-columns_finite
returns-then-columns_finite c =
    let a = c.args in
    answered (fixed_of a.submission) (lists_of a.submission) (a.outtimes.now ∷ a.outraws.now ∷ a.outdetrended.now ∷ a.outpassed.now ∷ []) a.scratch.now _ _
    c.outputs_fit-outputs.ensures c.refusal.ensures c.in_ok-refusal.was _ _ _ _ c.work-kept.ensures c.clear.ensures _ c.columns_finite.ensures _ c.if-columns_finite.true
    c.count_final-finals.ensures
