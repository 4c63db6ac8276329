use Rattle.numbers.specs.Numbers.{sine}
use Rattle.laws.specs.WholeNumbers.{number}
use lib.Ieee.{of_bits, of_int, neg}
use Rattle.sun_moon.specs.SunMoon.{latitude, latitude_terms}
use Rattle.sun_moon.proofs.kernel.latitude.Goals as goal

pub returns : goal.returns
unfolding latitude latitude_terms of_bits number of_int neg
returns c =
    simp (
      c.series.ensures sine (λ x y p. p),
      c.sine-3.ensures,
      c.sine-2.ensures,
      c.sine.ensures,
    )
