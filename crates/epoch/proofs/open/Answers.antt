-- `epoch::open`: with room the front is cleared and prepared, without it nothing is done; each by its law of proofs/Making.antt. Assumes nothing.
use native.Mathlib.Omega.{arith}
use Rattle.epoch.proofs.Making.{opened, not_opened}
use Rattle.epoch.proofs.open.Goals as goal

pub returns-then-base-w : goal.returns-then-base-w
returns-then-base-w c =
    let s = c.args in
    opened s.degree s.base s.w.now _ c.if-base-w.true c.prepare.ensures

pub returns-else-base-w : goal.returns-else-base-w
returns-else-base-w c =
    let s = c.args in
    not_opened s.degree s.base s.w.now (λ h. omega (arith, h, c.if-base-w.false))
