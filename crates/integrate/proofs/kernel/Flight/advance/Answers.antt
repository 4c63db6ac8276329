-- `integrate::kernel::Flight::advance`: the step from time k gives the next state, stored at place k + 1, by `advanced` of proofs/ForceAndStep.antt. Assumes nothing.
use Rattle.integrate.proofs.ForceAndStep.{advanced}
use Rattle.integrate.specs.Force.{acceleration_of, attraction_of}
use Rattle.inputs.specs.Lent.{model_of}
use Rattle.integrate.proofs.kernel.Flight.advance.Goals as goal

pub returns : goal.returns
returns c =
    let s = c.args in
    let f = s.self.now in
    let M = model_of f.model in
    advanced f.force M s.w.now _ _ f.base s.k s.known (acceleration_of (attraction_of f.force M) f.arc f.strengths) f.arc.t0 _ s.s _
    c.requires.few c.requires.room c.time-t.ensures c.step-next.ensures c.put_state.ensures
