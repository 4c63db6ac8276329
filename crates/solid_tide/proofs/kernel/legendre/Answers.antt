use Rattle.laws.specs.Tables.{row, rows}
use lib.Ieee.{of_bits, round}
use Rattle.solid_tide.proofs.Factors.{a_1_0, a_2_0, a_2_1, a_3_0, a_3_1, a_3_2, b_1_0, b_2_0, b_2_1, b_3_0, b_3_1, b_3_2, diag_0, diag_1, diag_2, diag_3}
use Rattle.legendre.specs.Legendre.{column, unscale}
use Rattle.solid_tide.proofs.kernel.legendre.Goals as goal

pub returns : goal.returns
unfolding rows row column unscale of_bits round
returns c = simp (a_1_0, a_2_0, a_2_1, a_3_0, a_3_1, a_3_2, b_1_0, b_2_0, b_2_1, b_3_0, b_3_1, b_3_2, diag_0, diag_1, diag_2, diag_3)
