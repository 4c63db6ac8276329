use Rattle.laws.specs.WholeNumbers.{number}
use Rattle.numbers.specs.Numbers.{sine_cosine}
use lib.Ieee.{of_bits, of_int}
use Rattle.solid_tide.specs.Tide.{orders_of}
use Rattle.solid_tide.proofs.kernel.orders_of.Goals as goal

pub returns : goal.returns
unfolding orders_of sine_cosine of_bits number of_int
returns c = simp (c.sine_cosine-d.ensures, c.sine_cosine-c.ensures, c.sine_cosine-b.ensures, c.sine_cosine-a.ensures)
