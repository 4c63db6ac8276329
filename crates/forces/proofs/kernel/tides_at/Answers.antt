use Rattle.laws.specs.WholeNumbers.{number}
use lib.Ieee.{of_bits, of_int}
use Rattle.forces.specs.Forces.{tides_at}
use Rattle.forces.proofs.kernel.tides_at.Goals as goal

pub returns : goal.returns
unfolding tides_at of_bits number of_int
returns c =
    simp (
      c.add-2.ensures,
      c.add.ensures,
      c.third_body-m.ensures,
      c.third_body-s.ensures,
      c.gravity-g.ensures,
    )
