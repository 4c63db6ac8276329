use Rattle.filter.proofs.Bands.{band_law}
use borrow.Author.Rules.{rules}
use Rattle.filter.proofs.work.band_pass.Goals as goal

pub returns : goal.returns
returns c = search (rules, band_law)
