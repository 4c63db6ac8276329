-- `integrate::kernel::element` meets its contract. Assumes nothing.
use Rattle.std.proofs.Common.{arith}
use Rattle.std.proofs.lemmas.Grind.{common_steps}
use lib.Ieee.{of_bits}
use Rattle.integrate.proofs.kernel.element.Goals as goal

pub returns : goal.returns
unfolding of_bits
returns c = grind (arith, common_steps)
