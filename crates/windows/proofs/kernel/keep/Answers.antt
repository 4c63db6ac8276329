-- `windows::kernel::keep`: after k steps the states among them that lie in the window stand in the slot, and n counts them. Assumes nothing.
use Rattle.std.proofs.Common.{◌≡◌, ◌+◌, ◌*◌, Bool, sym, ap, ◌∙◌, arith}
use Rattle.laws.specs.Times.{step_time}
use Rattle.numbers.specs.Seconds.{whole_second}
use Rattle.integrate.specs.Room.{state_in}
use Rattle.windows.specs.Slots.{within}
use Rattle.windows.proofs.SlotStates.{Keeping, keeping_at, keeping_out, slot_empty, slot_more, kept_all, few}
use Rattle.windows.proofs.kernel.keep.Goals as goal
use Rattle.windows.proofs.kernel.keep.Goals.{then-within, else-within}

pub loop-k-init : goal.loop-k-init
loop-k-init c = (omega arith, omega arith, slot_empty _ _ _ _ _ _)

pub loop-k-preserved : goal.loop-k-preserved
loop-k-preserved c =
    let a = c.args in
    let l = c.loop-k in
    let says : (b : Bool) → c.within.result ≡ b → within a.span.from a.span.to (step_time a.t0 l.k) ≡ b =
    λ b h. ap (within a.span.from a.span.to) (sym c.time-t.ensures) ∙ sym c.within.ensures ∙ h in
    let one : Keeping l.s c.if-within.s a.at l.n (within a.span.from a.span.to (step_time a.t0 l.k)) (whole_second (step_time a.t0 l.k)) (state_in l.s (a.base + 6 * l.k)) c.if-within.n =
    elim c.if-within.branch [
      | then-within w ↦ rw (w.s-is, w.n-is) (keeping_at l.s _ a.at l.n _ _ _ _ _ c.time-t.ensures w.state_in-state.ensures (says _ w.if-within.true) w.enter.ensures)
      | else-within w ↦ rw (w.s-is, w.n-is) (keeping_out l.s a.at l.n _ _ _ (says _ w.if-within.false))
    ] in
    let more = slot_more a.t0 a.span.from a.span.to _ _ _ a.base a.at l.k _ _ c.requires.2 (omega arith) l.invariant.1 l.invariant.2 one in
    let most = few a.t0 a.span.from a.span.to (l.k + 1) (a.steps + 1) a.span.ends.from a.span.ends.to c.requires.1 (omega arith) in
    (omega arith, omega (arith, more.counted, most), more)

pub returns : goal.returns
returns c =
    let a = c.args in
    kept_all a.t0 a.span.from a.span.to a.steps _ _ a.base a.at c.loop-k.k _ a.span.ends.from a.span.ends.to (omega arith) c.loop-k.invariant.2
