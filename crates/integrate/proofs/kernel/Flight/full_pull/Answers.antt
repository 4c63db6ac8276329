use Rattle.integrate.proofs.ForceAndStep.{pulled}
use Rattle.inputs.specs.Lent.{model_of}
use Rattle.integrate.proofs.kernel.Flight.full_pull.Goals as goal

pub returns : goal.returns
returns c =
    let s = c.args in
    let f = s.self.now in
    pulled (model_of f.model) s.front.now _ s.known _ s.t s.x _ _ _ _ _ c.refresh-here.ensures c.element.ensures c.element-2.ensures
    c.gravity-g.ensures c.tides_at.ensures c.add-pull.ensures
