use Rattle.std.proofs.Common.{refl}
use lib.Ieee.{of_bits, of_int}
use Rattle.laws.specs.WholeNumbers.{number}
use Rattle.horizon.proofs.tracks.reach.Goals as goal

pub returns : goal.returns
unfolding number of_int of_bits
returns c = (refl, refl)
