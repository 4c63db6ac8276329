use lib.Ieee.{of_bits, round, neg}
use Rattle.solid_tide.proofs.Factors.{lower_1_1, lower_2_1, lower_2_2, lower_3_1, lower_3_2, lower_3_3, upper_1_0, upper_2_0, upper_2_1, upper_3_0, upper_3_1, upper_3_2}
use Rattle.laws.specs.Tables.{tri, row, rows}
use Rattle.solid_tide.proofs.kernel.derived.Goals as goal

pub returns : goal.returns
unfolding rows row tri of_bits round neg
returns c = simp (lower_1_1, lower_2_1, lower_2_2, lower_3_1, lower_3_2, lower_3_3, upper_1_0, upper_2_0, upper_2_1, upper_3_0, upper_3_1, upper_3_2)
