use Rattle.filter.proofs.Turns.{sections_at}
use borrow.Author.Rules.{rules}
use Rattle.filter.proofs.work.section_at.Goals as goal

pub returns : goal.returns
returns c = search (rules, sections_at)
