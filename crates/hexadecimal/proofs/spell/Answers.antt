-- Assumes nothing.
use Rattle.std.proofs.Common.{rules}
use Rattle.hexadecimal.proofs.DigitLoops.{write_starts, write_on, write_done}
use Rattle.hexadecimal.proofs.spell.Goals as goal

pub loop-i-init : goal.loop-i-init
loop-i-init c = search (rules, write_starts)

pub loop-i-preserved : goal.loop-i-preserved
loop-i-preserved c = search (rules, write_on)

pub returns : goal.returns
returns c = search (rules, write_done)
