-- `numbers::sine_near` meets its contract. Assumes nothing.
use lib.Ieee.{of_bits, of_int, neg}
use Rattle.laws.specs.WholeNumbers.{number}
use Rattle.numbers.specs.Numbers.{sine_near, sines, factorial, alternating, downward}
use Rattle.numbers.proofs.sine_near.Goals as goal

pub returns : goal.returns
unfolding sine_near sines factorial alternating downward of_bits number of_int neg
returns c = rw c.odd_series.ensures
