-- `model::kernel::bracket` meets its contract. Assumes nothing.
use Rattle.model.proofs.Times.{bracket_goes, bracket_stops, bracket_done}
use borrow.Author.Rules.{rules}
use Rattle.model.proofs.kernel.bracket.Goals as goal

pub loop-j-preserved : goal.loop-j-preserved
loop-j-preserved c = search (rules, bracket_goes)

pub returns-then-not-times-j : goal.returns-then-not-times-j
returns-then-not-times-j c = search (rules, bracket_stops)

pub returns : goal.returns
returns c = search (rules, bracket_done)
