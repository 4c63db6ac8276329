-- `numbers::below` meets its contract. Assumes nothing.
use Rattle.numbers.specs.Numbers.{below}
use Rattle.numbers.proofs.below.Goals as goal

pub returns-then-y : goal.returns-then-y
unfolding below
returns-then-y c = rw c.if-y.true

pub returns-else-y : goal.returns-else-y
unfolding below
returns-else-y c = rw c.if-y.false
