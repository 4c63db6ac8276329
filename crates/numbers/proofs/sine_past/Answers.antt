-- `numbers::sine_past` meets its contract. Assumes nothing.
use Rattle.std.proofs.Common.{ap, ◌∙◌}
use lib.Ieee.{neg}
use Rattle.numbers.proofs.CodeForms.{choose_0, choose_1, choose_2, choose_3}
use Rattle.numbers.proofs.sine_past.Goals as goal

pub returns-then-j-eq0 : goal.returns-then-j-eq0
returns-then-j-eq0 c = c.sine_near.ensures ∙ choose_0 _ _ _ _ _ c.if-j-eq0.true

pub returns-then-j-eq1 : goal.returns-then-j-eq1
returns-then-j-eq1 c = c.cosine_near.ensures ∙ choose_1 _ _ _ _ _ c.if-j-eq1.true

pub returns-then-j-eq2 : goal.returns-then-j-eq2
returns-then-j-eq2 c = ap neg c.sine_near-then-j-eq2.ensures ∙ choose_2 _ _ _ _ _ c.if-j-eq2.true

pub returns-else-j-eq2 : goal.returns-else-j-eq2
returns-else-j-eq2 c = ap neg c.cosine_near-else-j-eq2.ensures ∙ choose_3 _ _ _ _ _ c.if-j-eq0.false c.if-j-eq1.false c.if-j-eq2.false
