use Rattle.filter.proofs.Bands.{coefficients_law}
use borrow.Author.Rules.{rules}
use Rattle.filter.proofs.work.coefficients.Goals as goal

pub returns : goal.returns
returns c = search (rules, coefficients_law)
