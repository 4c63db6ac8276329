use Rattle.laws.specs.WholeNumbers.{number}
use Rattle.numbers.specs.Numbers.{sine_cosine}
use lib.Ieee.{of_bits, of_int, round}
use Rattle.sun_moon.specs.SunMoon.{equatorial}
use Rattle.sun_moon.proofs.kernel.equatorial.Goals as goal

pub returns : goal.returns
unfolding equatorial sine_cosine of_bits number of_int round
returns c =
    simp (
      c.sine_cosine-b.ensures,
      c.sine_cosine-l.ensures,
      c.sine_cosine-e.ensures,
    )
