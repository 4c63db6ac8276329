use Rattle.least_squares.specs.Elimination.{too_small}
use lib.Ieee.{of_bits, round}
use Rattle.least_squares.proofs.equations.too_small.Goals as goal

pub returns : goal.returns
unfolding too_small of_bits round
returns c = simp c.magnitude.ensures
