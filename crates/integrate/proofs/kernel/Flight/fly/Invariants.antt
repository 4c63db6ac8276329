-- `integrate::kernel::Flight::fly`: after k steps the state is the definition's k-th, the first k + 1 stand in place, and the instant is ready for the force. Assumes nothing.
use Rattle.integrate.specs.Force.{acceleration_of, attraction_of}
use Rattle.integrate.specs.Steps.{state_at}
use Rattle.integrate.specs.Room.{run_size, Only, Orbit}
use Rattle.integrate.specs.Work.{ReadyFor}
use Rattle.std.proofs.Common.{◌≡◌, ◌+◌, take}
use Rattle.inputs.specs.Lent.{model_of}
use Rattle.integrate.proofs.kernel.Flight.fly.Given as goal

abbrev pub invariant-loop-k : goal.invariant-loop-k
invariant-loop-k l =
    (l.state ≡ state_at (acceleration_of (attraction_of l.self.force (model_of l.self.model)) l.self.arc l.self.strengths) l.self.arc.t0 l.initial.state l.k)
    × Orbit l.w l.self.base (state_at (acceleration_of (attraction_of l.self.force (model_of l.self.model)) l.self.arc l.self.strengths) l.self.arc.t0 l.initial.state) (l.k + 1)
    × ReadyFor l.self.force (model_of l.self.model) (take l.self.base l.w) l.known × Only 0 (l.self.base + run_size) l.initial.w l.w
