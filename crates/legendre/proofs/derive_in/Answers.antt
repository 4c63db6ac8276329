use borrow.Author.Rules.{rules}
use Rattle.legendre.proofs.RowsOfTables.{derived_is}
use Rattle.legendre.proofs.derive_in.Goals as goal

pub returns : goal.returns
returns c = search (rules, derived_is)
