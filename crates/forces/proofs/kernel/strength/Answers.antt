use lib.Ieee.{of_bits, round}
use Rattle.forces.specs.Forces.{strength}
use mathlib.Core.Path.{refl}
use Rattle.forces.proofs.kernel.strength.Goals as goal

pub returns : goal.returns
unfolding strength of_bits round
returns c = refl
