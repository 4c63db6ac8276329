use Rattle.laws.specs.WholeNumbers.{number}
use lib.Ieee.{of_bits, of_int, round}
use mathlib.Core.Path.{refl}
use Rattle.sun_moon.specs.SunMoon.{centuries}
use Rattle.sun_moon.proofs.kernel.centuries.Goals as goal

pub returns : goal.returns
unfolding centuries of_bits number of_int round
returns c = refl
