use Rattle.detrend.proofs.WorkArea.{removed_in}
use borrow.Author.Rules.{rules}
use Rattle.columns.proofs.remove.Goals as goal

pub returns : goal.returns
returns c = search (rules, removed_in)
