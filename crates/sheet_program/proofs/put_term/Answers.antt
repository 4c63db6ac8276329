use Rattle.sheet_program.proofs.ReadAndPrinted.{term_prints}
use borrow.Author.Rules.{rules}
use Rattle.sheet_program.proofs.put_term.Goals as goal

pub returns : goal.returns
returns c = search (rules, term_prints)
