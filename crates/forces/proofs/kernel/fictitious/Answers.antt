use Rattle.laws.specs.WholeNumbers.{number}
use lib.Ieee.{of_bits, of_int, round, neg}
use Rattle.forces.specs.Forces.{fictitious_of}
use mathlib.Core.Path.{refl}
use Rattle.forces.proofs.kernel.fictitious.Goals as goal

pub returns : goal.returns
unfolding fictitious_of of_bits number of_int round neg
returns c = refl
