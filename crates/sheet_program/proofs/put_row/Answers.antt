use Rattle.sheet_program.proofs.ReadAndPrinted.{row_prints}
use borrow.Author.Rules.{rules}
use Rattle.sheet_program.proofs.put_row.Goals as goal

pub returns : goal.returns
returns c = search (rules, row_prints)
