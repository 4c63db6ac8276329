-- `integrate::kernel::Flight::acceleration`: attraction, fictitious and empirical accelerations added are the definition's, by `accelerated` of ForceAndStep. Assumes nothing.
use Rattle.integrate.proofs.ForceAndStep.{accelerated}
use Rattle.inputs.specs.Lent.{model_of}
use Rattle.integrate.proofs.kernel.Flight.acceleration.Goals as goal

pub returns : goal.returns
returns c =
    let s = c.args in
    let f = s.self.now in
    accelerated f.force (model_of f.model) s.front.now _ s.known f.arc f.strengths s.t _ s.x s.v _ _ _ _ _
    c.attraction-g.ensures c.fictitious-f.ensures c.argument.ensures c.empirical-p.ensures c.add.ensures c.add-pull.ensures
