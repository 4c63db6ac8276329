-- `integrate::kernel::Flight::step`: four accelerations weighed by the Runge-Kutta rule are the definition's step, by `stepped` of proofs/ForceAndStep.antt. Assumes nothing.
use lib.Ieee.{of_int, of_bits}
use Rattle.laws.specs.WholeNumbers.{number}
use Rattle.integrate.proofs.ForceAndStep.{stepped}
use Rattle.integrate.specs.Force.{acceleration_of, attraction_of}
use Rattle.std.proofs.Common.{◌∙◌}
use Rattle.inputs.specs.Lent.{model_of}
use Rattle.integrate.proofs.kernel.Flight.step.Goals as goal

pub shape_of-front : goal.shape_of-front
shape_of-front c =
    c.acceleration-p4.ensures.long ∙ c.acceleration-p3.ensures.long ∙ c.acceleration-p2.ensures.long
    ∙ c.acceleration-p1.ensures.long

pub returns : goal.returns
unfolding number of_int of_bits
returns c =
    let s = c.args in
    let f = s.self.now in
    let M = model_of f.model in
    stepped f.force M s.front.now _ _ _ _ s.known (acceleration_of (attraction_of f.force M) f.arc f.strengths) s.t s.s _ _ _ _ _ _ _ _ _ _ _ _ _ _
    c.acceleration-p1.ensures c.along-x2.ensures c.along-v2.ensures c.acceleration-p2.ensures c.along-x3.ensures
    c.along-v3.ensures
    c.acceleration-p3.ensures c.along-x4.ensures c.along-v4.ensures c.acceleration-p4.ensures c.weighed.ensures
    c.along-position.ensures c.weighed-2.ensures c.along-velocity.ensures
