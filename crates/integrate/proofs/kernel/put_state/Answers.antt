use Rattle.integrate.proofs.Places.{stored, not_stored}
use Rattle.std.proofs.Common.{arith}
use Rattle.integrate.proofs.kernel.put_state.Goals as goal

pub returns-then-at-w : goal.returns-then-at-w
returns-then-at-w c =
    let a = c.args in
    stored _ _ _ a.at a.s c.put.ensures c.put-then-at-w.ensures

pub returns-else-at-w : goal.returns-else-at-w
returns-else-at-w c = not_stored _ _ _ (omega arith)
