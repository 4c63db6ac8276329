use Rattle.laws.specs.WholeNumbers.{number}
use lib.Ieee.{of_bits, of_int}
use Rattle.solid_tide.specs.Tide.{solid_tide}
use Rattle.solid_tide.proofs.kernel.solid_tide.Goals as goal

pub returns : goal.returns
unfolding solid_tide of_bits number of_int
returns c =
    simp (
      c.both-2.ensures,
      c.both.ensures,
      c.raised_by-m.ensures,
      c.raised_by-s.ensures,
    )
