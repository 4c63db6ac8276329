-- `numbers::is_finite` meets its contract. Assumes nothing.
use Rattle.numbers.proofs.CodeForms.{self_sub}
use Rattle.numbers.proofs.is_finite.Goals as goal

pub returns : goal.returns
returns c = self_sub c.args.x
