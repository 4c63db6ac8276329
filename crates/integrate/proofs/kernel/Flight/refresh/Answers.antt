-- `integrate::kernel::Flight::refresh`: the same time keeps the known instant, another writes the field anew; each by its law of proofs/ForceAndStep.antt. Assumes nothing.
use Rattle.integrate.proofs.ForceAndStep.{kept_instant, new_instant}
use Rattle.inputs.specs.Lent.{model_of}
use Rattle.integrate.proofs.kernel.Flight.refresh.Goals as goal

pub returns-then-same_bits : goal.returns-then-same_bits
returns-then-same_bits c = let s = c.args in
    let f = s.self.now in kept_instant (model_of f.model) _ s.known s.t _ c.same_bits.ensures c.if-same_bits.true

pub returns : goal.returns
returns c =
    let s = c.args in
    let f = s.self.now in new_instant (model_of f.model) s.front.now _ s.known s.t _ c.at.ensures c.of.ensures
