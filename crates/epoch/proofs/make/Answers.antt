-- `epoch::make`: over the field at t, written to the front of the work slice, the record is the definition's; `recorded` of proofs/Making.antt. Assumes nothing.
use Rattle.epoch.proofs.Making.{recorded}
use Rattle.inputs.specs.Lent.{model_of}
use Rattle.epoch.proofs.make.Goals as goal

pub returns : goal.returns
returns c =
    let s = c.args in
    recorded (model_of s.model) s.base s.w.now _ c.requires
    s.t s.observed _ _ s.found.c s.found.d s.found.axc s.found.axd _
    c.at.ensures c.element.ensures c.element-2.ensures c.epoch_at.ensures
