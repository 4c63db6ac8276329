use Rattle.laws.specs.WholeNumbers.{number}
use lib.Ieee.{of_bits, of_int, round}
use Rattle.forces.specs.Forces.{j2_of}
use Rattle.forces.proofs.kernel.j2_gravity.Goals as goal

pub returns : goal.returns
unfolding j2_of of_bits number of_int round
returns c =
    simp (c.root.ensures, c.dot-r2.ensures)
