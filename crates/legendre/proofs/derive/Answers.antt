use borrow.Author.Rules.{rules}
use Rattle.legendre.proofs.Kernel.{fits_gives}
use Rattle.legendre.proofs.RowsOfTables.{derived_not}
use Rattle.legendre.proofs.derive.Goals as goal

pub derive_in-requires : goal.derive_in-requires
derive_in-requires c = search (rules, fits_gives)

pub returns-else-fits : goal.returns-else-fits
returns-else-fits c = search (rules, derived_not)
