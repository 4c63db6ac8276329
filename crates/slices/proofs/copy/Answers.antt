-- `slices::copy`: what is copied, with the rest of x behind it, is x. Assumes nothing.
use Rattle.std.proofs.Common.{refl, rules}
use Rattle.laws.specs.Loops.{copy_turn, copy_done}
use Rattle.slices.proofs.copy.Goals as goal

pub loop-k-init : goal.loop-k-init
loop-k-init c = (refl, refl)

pub loop-k-preserved : goal.loop-k-preserved
loop-k-preserved c = search (rules, copy_turn)
