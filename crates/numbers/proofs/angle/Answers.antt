-- `numbers::angle` meets its contract. Assumes nothing.
use Rattle.numbers.specs.Numbers.{angle}
use Rattle.numbers.proofs.angle.Goals as goal

pub returns-then-q : goal.returns-then-q
unfolding angle
returns-then-q c = rw (c.angle_near.ensures, c.if-q.true)

pub returns-else-q : goal.returns-else-q
unfolding angle
returns-else-q c = rw (c.angle_near-else-q.ensures, c.if-q.false)
