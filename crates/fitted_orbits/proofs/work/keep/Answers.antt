-- `fitted_orbits::work::keep`: after k steps the states among them that lie in the window stand behind the first ones; n counts them, and the lengths stay. Assumes nothing.
use Rattle.std.proofs.Common.{◌≡◌, ◌+◌, ◌*◌, sym, ap, ◌∙◌, arith}
use Rattle.laws.specs.Times.{step_time}
use Rattle.numbers.specs.Seconds.{whole_second}
use Rattle.integrate.specs.Room.{state_in}
use Rattle.windows.specs.Slots.{within}
use Rattle.windows.proofs.SlotStates.{few}
use Rattle.fitted_orbits.proofs.Keeping.{Kept, kept_in, kept_out, keeping_none, keeping_more, keeping_all, few_more}
use Rattle.fitted_orbits.proofs.work.keep.Goals as goal
use Rattle.fitted_orbits.proofs.work.keep.Goals.{then-within, else-within}

pub loop-k-init : goal.loop-k-init
loop-k-init c = (omega arith, omega arith, keeping_none _ _ _ _ _ _ _ _)

pub put_second-requires : goal.put_second-requires
put_second-requires c =
    let a = c.args in
    let l = c.loop-k in
    let more = few_more a.t0 a.span.from a.span.to l.k (a.steps + 1) a.span.ends.from a.span.ends.to c.requires.1 (omega arith)
    (ap (within a.span.from a.span.to) (sym c.time-t.ensures) ∙ sym c.within.ensures ∙ c.if-within.true) in
    omega (arith, more, l.invariant.2.counted, l.invariant.2.long_keys, c.requires.3)

pub put_state-requires : goal.put_state-requires
put_state-requires c =
    let a = c.args in
    let l = c.loop-k in
    let more = few_more a.t0 a.span.from a.span.to l.k (a.steps + 1) a.span.ends.from a.span.ends.to c.requires.1 (omega arith)
    (ap (within a.span.from a.span.to) (sym c.time-t.ensures) ∙ sym c.within.ensures ∙ c.if-within.true) in
    (omega arith, omega (arith, more, l.invariant.2.counted, l.invariant.2.long_states, c.requires.4))

pub loop-k-preserved : goal.loop-k-preserved
loop-k-preserved c =
    let a = c.args in
    let l = c.loop-k in
    let is : c.within.result ≡ within a.span.from a.span.to (step_time a.t0 l.k) = c.within.ensures ∙ ap (within a.span.from a.span.to) c.time-t.ensures in
    let one : Kept (within a.span.from a.span.to (step_time a.t0 l.k)) (whole_second (step_time a.t0 l.k)) (state_in a.s.now (a.base + 6 * l.k)) l.n c.if-within.n
    l.outkeys c.if-within.outkeys l.outstates c.if-within.outstates =
    elim c.if-within.branch [
      | then-within w ↦ rw (w.outkeys-is, w.outstates-is, w.n-is) (kept_in _ _ _ _ _ _ _ _ _ _ is w.if-within.true c.time-t.ensures w.put_second.ensures w.put_state.ensures)
      | else-within w ↦ rw (w.outkeys-is, w.outstates-is, w.n-is) (kept_out _ _ _ _ _ _ _ is w.if-within.false)
    ] in
    let more = keeping_more a.t0 a.span.from a.span.to a.s.now a.base a.first l.k l.n _ a.outkeys.now l.outkeys _ a.outstates.now l.outstates _
    (few_more a.t0 a.span.from a.span.to l.k (a.steps + 1) a.span.ends.from a.span.ends.to c.requires.1 (omega arith)) l.invariant.2 one in
    let most = few a.t0 a.span.from a.span.to (l.k + 1) (a.steps + 1) a.span.ends.from a.span.ends.to c.requires.1 (omega arith) in
    (omega arith, omega (arith, more.counted, most), more)

pub returns : goal.returns
returns c =
    let a = c.args in
    let l = c.loop-k in
    keeping_all a.t0 a.span.from a.span.to a.s.now a.base a.first a.steps l.k l.n a.outkeys.now l.outkeys a.outstates.now l.outstates a.span.ends.from a.span.ends.to c.requires.1
    (omega arith) l.invariant.2
