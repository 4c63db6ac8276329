use Rattle.laws.specs.WholeNumbers.{number}
use lib.Ieee.{of_bits, of_int, round}
use mathlib.Core.Path.{refl}
use Rattle.sun_moon.specs.SunMoon.{arguments}
use Rattle.sun_moon.proofs.kernel.arguments_at.Goals as goal

pub returns : goal.returns
unfolding arguments of_bits number of_int round
returns c = refl
