-- `integrate::kernel::Flight::begin`: the full force opens the field at t, the force of J2 leaves the numbers alone (`begun_j2` of proofs/ForceAndStep.antt). Assumes nothing.
use Rattle.integrate.proofs.ForceAndStep.{begun_j2}
use Rattle.integrate.proofs.kernel.Flight.begin.Goals as goal

pub returns-in-J2 : goal.returns-in-J2
returns-in-J2 c = let s = c.args in
    let f = s.self.now in begun_j2 f.force _ s.front.now s.front.now _ c.in-J2.is
