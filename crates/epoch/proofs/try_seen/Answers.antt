-- `epoch::try_seen`: nothing was found, it is not kept, or the record is made; each by its law of proofs/Making.antt. Assumes nothing.
use Rattle.std.proofs.Common.{sym, ◌∙◌, arith}
use Rattle.inputs.specs.Lent.{model_of}
use Rattle.epoch.proofs.Making.{tried_kept, tried_not, tried_missing}
use Rattle.epoch.proofs.try_seen.Goals as goal
use Rattle.epoch.proofs.try_seen.Goals.{else-base-w-via-then-base-w+else-is_kept, else-base-w-via-else-base-w}

pub returns-in_err-found : goal.returns-in_err-found
returns-in_err-found c =
    let s = c.args in
    tried_missing (model_of s.model) s.t s.observed s.good s.base s.w.now s.found _ c.in_err-found.was c.from_residual.ensures

pub returns-then-is_kept : goal.returns-then-is_kept
returns-then-is_kept c =
    let s = c.args in
    tried_kept (model_of s.model) s.t s.observed s.good s.base s.w.now _ s.found c.in_ok-found.found _ c.in_ok-found.was (sym c.is_kept.ensures ∙ c.if-is_kept.true)
    c.make.ensures

pub returns : goal.returns
returns c =
    let s = c.args in
    tried_not (model_of s.model) s.t s.observed s.good s.base s.w.now s.found
    (elim c.else-base-w.branch [
      | else-base-w-via-then-base-w+else-is_kept w ↦ λ h. sym w.is_kept.ensures ∙ w.if-is_kept.false
      | else-base-w-via-else-base-w w ↦ λ h. absurd (omega arith)
    ])
