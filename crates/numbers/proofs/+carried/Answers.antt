-- `numbers::carried` meets its contract. Assumes nothing.
use Rattle.std.proofs.Common.{◌∙◌}
use Rattle.numbers.proofs.CodeForms.{carried_stop, carried_even, carried_one, carried_odd}
use Rattle.numbers.proofs.+carried.Goals as goal

pub returns-then-n-eq0-2 : goal.returns-then-n-eq0-2
returns-then-n-eq0-2 t c = carried_stop _ _ _ c.if-n-eq0-2.true

pub returns-else-n-eq0-2 : goal.returns-else-n-eq0-2
returns-else-n-eq0-2 t c = c.carried.ensures ∙ carried_even _ _ _ c.if-n-eq0-2.false c.if-n-eq0.true

pub returns-then-n-eq1 : goal.returns-then-n-eq1
returns-then-n-eq1 t c = carried_one _ _ _ c.if-n-eq1.true

pub returns-else-n-eq1 : goal.returns-else-n-eq1
returns-else-n-eq1 t c = c.carried-else-n-eq1.ensures ∙ carried_odd _ _ _ c.if-n-eq0.false
