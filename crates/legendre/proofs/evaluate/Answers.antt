use Rattle.std.proofs.Common.{rules}
use Rattle.legendre.proofs.Kernel.{partials_none}
use Rattle.legendre.proofs.evaluate.Goals as goal

pub returns : goal.returns
returns c = search (rules, partials_none)
