-- `integrate::kernel::Flight::open`: the front filled at t makes the instant of t ready, by `opened` of proofs/ForceAndStep.antt. Assumes nothing.
use Rattle.integrate.proofs.ForceAndStep.{opened}
use Rattle.inputs.specs.Lent.{model_of}
use Rattle.integrate.proofs.kernel.Flight.open.Goals as goal

pub returns : goal.returns
returns c =
    let s = c.args in
    let f = s.self.now in opened (model_of f.model) s.front.now _ f.arc.t0 _ c.requires c.fill.ensures c.of.ensures
