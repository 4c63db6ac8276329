use Rattle.legendre.specs.Legendre.{upper_of}
use Rattle.legendre.proofs.tabulate_upper.Goals as goal

pub returns : goal.returns
returns c = c.tabulate.ensures upper_of (λ n m x e. e)
