use Rattle.fit.specs.Fit.{scale_of}
use Rattle.std.proofs.Common.{arith, le-ltb, lt-ltb}
use lib.Ieee.{of_bits, round}
use Rattle.fit.proofs.kernel.parameter_scale.Goals as goal

pub returns-then-i-lt6 : goal.returns-then-i-lt6
unfolding scale_of of_bits round
returns-then-i-lt6 c = simp (le-ltb c.args.i 3 (omega arith), lt-ltb c.args.i 6 (omega arith))
