use Rattle.legendre.specs.Legendre.{lower_of}
use Rattle.legendre.proofs.tabulate_lower.Goals as goal

pub returns : goal.returns
returns c = c.tabulate.ensures lower_of (λ n m x e. e)
