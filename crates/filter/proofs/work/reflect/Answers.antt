-- `filter::work::reflect`: what is written, with the values still to be reflected, is the mirrored part. Assumes nothing.
use borrow.Author.Rules.{rules}
use Rattle.filter.proofs.Turns.{reflect_turn}
use Rattle.filter.proofs.work.reflect.Goals as goal

pub loop-k-preserved : goal.loop-k-preserved
loop-k-preserved c = search (rules, reflect_turn)
