use borrow.Author.Rules.{rules}
use Rattle.filter.proofs.Turns.{pad_law}
use Rattle.filter.proofs.work.pad_oddly.Goals as goal

pub returns : goal.returns
returns c = search (rules, pad_law)
