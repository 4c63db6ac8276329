-- `fit::hand_out`: the states copied into out stay with the rms where all are finite, else refused over zeros; by proofs/Calls.antt. Assumes nothing.
use Rattle.std.proofs.Common.{sym, ◌∙◌}
use Rattle.fit.proofs.Calls.{hand_good, hand_unfit, hand_bad}
use Rattle.fit.proofs.hand_out.Goals as goal
use Rattle.fit.proofs.hand_out.Goals.{else-is_finite-via-then-is_finite+else-all_finite, else-is_finite-via-else-is_finite}

pub returns-then-all_finite : goal.returns-then-all_finite
returns-then-all_finite c =
    let s = c.args in hand_good s.x s.degree s.steps _ s.scratch.now s.out.now _ _ c.requires.0 c.requires.1 c.requires.2 c.requires.3
    c.front_size-base.ensures c.copy.ensures c.clear.ensures (sym c.is_finite.ensures ∙ c.if-is_finite.true) (sym c.all_finite.ensures ∙ c.if-all_finite.true)

pub returns : goal.returns
returns c =
    let s = c.args in
    elim c.else-is_finite.branch [
      | else-is_finite-via-then-is_finite+else-all_finite w ↦ hand_bad s.x s.degree s.steps _ s.scratch.now s.out.now _ _ c.requires.0 c.requires.1 c.requires.2 c.requires.3
          c.front_size-base.ensures c.copy.ensures c.clear.ensures (sym c.is_finite.ensures ∙ w.if-is_finite.true) (sym w.all_finite.ensures ∙ w.if-all_finite.false) _ c.clear-2.ensures
      | else-is_finite-via-else-is_finite w ↦ hand_unfit s.x s.degree s.steps _ s.scratch.now s.out.now _ _ c.requires.0 c.requires.1 c.requires.2 c.requires.3
          c.front_size-base.ensures c.copy.ensures c.clear.ensures (sym c.is_finite.ensures ∙ w.if-is_finite.false) _ c.clear-2.ensures
    ]
