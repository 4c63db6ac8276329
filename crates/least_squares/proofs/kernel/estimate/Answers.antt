use Rattle.std.proofs.Common.{rules}
use Rattle.least_squares.proofs.KernelShapes.{estimate_none, estimate_some}
use Rattle.least_squares.proofs.kernel.estimate.Goals as goal

pub returns-then-coefficients : goal.returns-then-coefficients
returns-then-coefficients g c = search (rules, estimate_some)

pub returns-else-coefficients : goal.returns-else-coefficients
returns-else-coefficients g c = search (rules, estimate_none)
