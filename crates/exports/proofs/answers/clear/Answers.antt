use Rattle.std.proofs.Common.{rules}
use Rattle.laws.specs.Loops.{clear_turn, clear_done}
use Rattle.exports.proofs.answers.clear.Goals as goal

pub loop-place-init : goal.loop-place-init
loop-place-init g c = search rules

pub loop-place-preserved : goal.loop-place-preserved
loop-place-preserved g c = search (rules, clear_turn)

pub returns : goal.returns
returns g c = search (rules, clear_done)
