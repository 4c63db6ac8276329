-- `numbers::angle_near` meets its contract. Assumes nothing.
use lib.Ieee.{of_bits, of_int, neg}
use Rattle.laws.specs.WholeNumbers.{number}
use Rattle.numbers.specs.Numbers.{angle_near, odds, alternating, downward}
use Rattle.numbers.proofs.angle_near.Goals as goal

pub returns : goal.returns
unfolding angle_near odds alternating downward of_bits number of_int neg
returns c = rw c.odd_series.ensures
