-- `numbers::eighth` meets its contract. Assumes nothing.
use Rattle.numbers.specs.Numbers.{eighth}
use Rattle.numbers.proofs.eighth.Goals as goal

pub returns-then-y-x : goal.returns-then-y-x
unfolding eighth
returns-then-y-x c = rw (c.angle.ensures, c.if-y-x.true)

pub returns-else-y-x : goal.returns-else-y-x
unfolding eighth
returns-else-y-x c = rw (c.angle-else-y-x.ensures, c.if-y-x.false)
