use Rattle.legendre.specs.Legendre.{b_of}
use Rattle.legendre.proofs.tabulate_b.Goals as goal

pub returns : goal.returns
returns c = c.tabulate.ensures b_of (λ n m x e. e)
