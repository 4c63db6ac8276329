use Rattle.legendre.specs.Legendre.{a_of}
use Rattle.legendre.proofs.tabulate_a.Goals as goal

pub returns : goal.returns
returns c = c.tabulate.ensures a_of (λ n m x e. e)
