use Rattle.integrate.proofs.Places.{placed, not_placed}
use Rattle.std.proofs.Common.{arith, length-set}
use Rattle.integrate.proofs.kernel.put.Goals as goal

pub bounds-w-at-then-w-at-ge3 : goal.bounds-w-at-then-w-at-ge3
bounds-w-at-then-w-at-ge3 c = simp length-set (omega arith)

pub bounds-w-at-then-w-at-ge3-2 : goal.bounds-w-at-then-w-at-ge3-2
bounds-w-at-then-w-at-ge3-2 c = simp length-set (omega arith)

pub returns-then-w-at-ge3 : goal.returns-then-w-at-ge3
returns-then-w-at-ge3 c =
    placed c.args.w.now c.args.at c.args.v (omega arith)

pub returns-else-at-w : goal.returns-else-at-w
returns-else-at-w c = not_placed _ _ _ (λ h. omega (arith, h))
