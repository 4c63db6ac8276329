use Rattle.numbers.specs.Numbers.{cosine}
use Rattle.laws.specs.WholeNumbers.{number}
use lib.Ieee.{of_bits, of_int, neg}
use Rattle.sun_moon.specs.SunMoon.{distance, distance_terms}
use Rattle.sun_moon.proofs.kernel.distance.Goals as goal

pub returns : goal.returns
unfolding distance distance_terms of_bits number of_int neg
returns c = rw (c.series.ensures cosine (λ x y p. p))
