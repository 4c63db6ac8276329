-- `slices::copy`: what is copied, with the rest of x behind it, is x. Assumes nothing.
use Rattle.std.specs.Prelude.{◌≡◌, ◌++◌, length, take, drop}
use Rattle.slices.proofs.copy.Given as goal

abbrev pub invariant-loop-k : goal.invariant-loop-k
invariant-loop-k l = (length l.out ≡ length l.initial.out) × (take l.k l.out ++ drop l.k l.x ≡ l.x)
