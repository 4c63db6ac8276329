-- `numbers::left` meets its contract. Assumes nothing.
use Rattle.numbers.specs.Numbers.{left}
use Rattle.numbers.proofs.left.Goals as goal

pub returns-then-x : goal.returns-then-x
unfolding left
returns-then-x c = rw c.if-x.true

pub returns-else-x : goal.returns-else-x
unfolding left
returns-else-x c = rw c.if-x.false
