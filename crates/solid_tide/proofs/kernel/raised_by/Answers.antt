-- `solid_tide::kernel::raised_by`: the ten coefficients that a body raises, from what each call ensures, by rewriting. Assumes nothing.
use Rattle.laws.specs.WholeNumbers.{number}
use Rattle.numbers.specs.Numbers.{sine_cosine}
use lib.Ieee.{of_bits, of_int, round}
use Rattle.laws.specs.Tables.{tri, row, rows}
use Rattle.solid_tide.specs.Tide.{raised_by, weight, ratio, love_numbers}
use Rattle.solid_tide.proofs.kernel.raised_by.Goals as goal

pub returns : goal.returns
unfolding rows row raised_by weight ratio love_numbers tri sine_cosine of_bits number of_int round
returns c =
    simp (
      c.power-2.ensures,
      c.power.ensures,
      c.orders_of.ensures,
      c.legendre-p.ensures,
      c.sine_cosine-sc.ensures,
      c.place_of-at.ensures,
    )
