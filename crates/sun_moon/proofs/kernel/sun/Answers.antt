use Rattle.laws.specs.WholeNumbers.{number}
use Rattle.numbers.specs.Numbers.{sine_cosine}
use lib.Ieee.{of_bits, of_int, round}
use Rattle.sun_moon.specs.SunMoon.{sun, sun_anomaly}
use Rattle.sun_moon.proofs.kernel.sun.Goals as goal

pub returns : goal.returns
unfolding sun sun_anomaly sine_cosine of_bits number of_int round
returns c =
    simp (
      c.equatorial.ensures,
      c.sine_cosine-twice.ensures,
      c.sine_cosine-once.ensures,
    )
