-- `integrate::kernel::Flight::fly`: after k steps the state is the definition's k-th, the first k + 1 stand in place, and the instant is ready for the force. Assumes nothing.
use Rattle.integrate.proofs.ForceAndStep.{flown_first, flown_more}
use Rattle.integrate.proofs.Places.{only_same, only_then}
use Rattle.integrate.specs.Force.{acceleration_of, attraction_of}
use Rattle.integrate.specs.Steps.{state_at}
use Rattle.integrate.specs.Room.{run_size}
use Rattle.std.proofs.Common.{◌≡◌, ◌+◌, refl, ◌∙◌, arith}
use Rattle.inputs.specs.Lent.{model_of}
use Rattle.integrate.proofs.kernel.Flight.fly.Goals as goal

pub loop-k-init : goal.loop-k-init
unfolding state_at
loop-k-init c =
    let s = c.args in
    let f = s.self.now in
    let M = model_of f.model in
    let h = flown_first f.force M s.w.now _ _ f.base _ (acceleration_of (attraction_of f.force M) f.arc f.strengths) f.arc.t0 s.start c.requires.room
    c.begin-known.ensures c.put_state.ensures in
    (refl, h.0, h.2, only_same 0 (f.base + run_size) _)

pub advance-next-requires : goal.advance-next-requires
advance-next-requires c =
    let s = c.args in
    let f = s.self.now in
    let M = model_of f.model in
    let h = flown_first f.force M s.w.now _ _ f.base _ (acceleration_of (attraction_of f.force M) f.arc f.strengths) f.arc.t0 s.start c.requires.room
    c.begin-known.ensures c.put_state.ensures in
    record { few = omega arith; small = c.requires.small; room = omega (arith, c.loop-k.invariant.3.long, h.1.long, c.requires.room) }

pub loop-k-preserved : goal.loop-k-preserved
loop-k-preserved c =
    let s = c.args in
    let f = s.self.now in
    let loop = c.loop-k in
    let M = model_of f.model in
    let g = flown_more f.force M loop.w _ f.base loop.k loop.known (acceleration_of (attraction_of f.force M) f.arc f.strengths) f.arc.t0 s.start loop.state _ loop.invariant.0
    loop.invariant.1 loop.invariant.2 c.advance-next.ensures in (
      g.0,
      g.1,
      g.2,
      only_then 0 (f.base + run_size) 0 (f.base + run_size) 0 (f.base + run_size) _ _ _ loop.invariant.3 c.advance-next.ensures.only (omega arith) (omega arith) (omega arith) (omega arith),
    )

pub shape_of-w : goal.shape_of-w
shape_of-w c =
    let s = c.args in
    let f = s.self.now in
    let M = model_of f.model in
    let h = flown_first f.force M s.w.now _ _ f.base _ (acceleration_of (attraction_of f.force M) f.arc f.strengths) f.arc.t0 s.start c.requires.room
    c.begin-known.ensures c.put_state.ensures in
    c.loop-k.invariant.3.long ∙ h.1.long

pub returns : goal.returns
returns c =
    let s = c.args in
    let f = s.self.now in
    let M = model_of f.model in
    let h = flown_first f.force M s.w.now _ _ f.base _ (acceleration_of (attraction_of f.force M) f.arc f.strengths) f.arc.t0 s.start c.requires.room
    c.begin-known.ensures c.put_state.ensures in
    let end : c.loop-k.k ≡ f.arc.steps = omega arith in
    record {
      states = rw end at c.loop-k.invariant.1;
      only = only_then 0 (f.base + run_size) 0 (f.base + run_size) 0 (f.base + run_size) _ _ _ h.1 c.loop-k.invariant.3 (omega arith) (omega arith) (omega arith) (omega arith);
    }
