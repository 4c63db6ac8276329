-- `solid_tide::degree3::gravity`: the sums over ten coefficients are the published series to degree 3. Assumes nothing.
use Rattle.laws.specs.WholeNumbers.{number}
use lib.Ieee.{of_bits, of_int, round}
use Rattle.solid_tide.proofs.Series.{summed, summed_published}
use Rattle.solid_tide.proofs.degree3.gravity.Goals as goal

pub returns : goal.returns
unfolding summed of_bits number of_int round
returns c =
    simp (
      c.from_local.ensures,
      c.degree_sums-t.ensures,
      c.tables_of.ensures,
      c.sine_cosine-lon.ensures,
      c.sine_cosine-lat.ensures,
      c.place_of-at.ensures,
    ) (summed_published _ _)
