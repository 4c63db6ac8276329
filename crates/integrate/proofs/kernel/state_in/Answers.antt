use Rattle.std.proofs.Common.{◌∙◌, arith}
use Rattle.integrate.proofs.Places.{state_past}
use Rattle.integrate.proofs.kernel.state_in.Goals as goal

pub returns-then-i-l : goal.returns-then-i-l
returns-then-i-l c = c.state_within.ensures

pub returns-else-i-l : goal.returns-else-i-l
returns-else-i-l c = let a = c.args in c.state_within-else-i-l.ensures ∙ state_past a.l.now a.i (omega arith)
