use Rattle.numbers.specs.Numbers.{sine}
use Rattle.laws.specs.WholeNumbers.{number}
use lib.Ieee.{of_bits, of_int, neg}
use Rattle.sun_moon.specs.SunMoon.{longitude, longitude_terms}
use Rattle.sun_moon.proofs.kernel.longitude.Goals as goal

pub returns : goal.returns
unfolding longitude longitude_terms of_bits number of_int neg
returns c = rw (c.series.ensures sine (λ x y p. p), c.sine.ensures)
