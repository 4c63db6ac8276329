use Rattle.epoch.specs.Epoch.{middle_of}
use lib.Ieee.{of_bits, round}
use Rattle.epoch.proofs.kernel.middle.Goals as goal

pub returns : goal.returns
unfolding middle_of of_bits round
returns c =
    simp (
      c.scale.ensures,
      c.add.ensures,
    )
