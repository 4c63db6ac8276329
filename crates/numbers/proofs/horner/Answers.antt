-- `numbers::horner` meets its contract. Assumes nothing.
use Rattle.std.proofs.Common.{refl, rules}
use Rattle.numbers.specs.Numbers.{horner, alternating, downward}
use Rattle.numbers.proofs.CodeForms.{horner_turn, horner_done}
use Rattle.numbers.proofs.horner.Goals as goal

pub loop-i-init : goal.loop-i-init
unfolding horner alternating downward
loop-i-init c = (search rules, refl)

pub loop-i-preserved : goal.loop-i-preserved
loop-i-preserved c = (search rules, search (rules, horner_turn))

pub returns : goal.returns
returns c = search (rules, horner_done)
