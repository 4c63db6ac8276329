-- `fit::kernel::rms`: the sum after i numbers is the definition's sum of i squares. Assumes nothing.
use Rattle.std.proofs.Common.{◌≡◌, ℕ, ◌≤◌, length, get_or}
use lib.Ieee.{nan}
use Rattle.laws.specs.Floats.{◌⊗◌}
use Rattle.laws.specs.Sums.{sum_to}
use Rattle.fit.proofs.kernel.rms.Given as goal

abbrev pub invariant-loop-x : goal.invariant-loop-x
invariant-loop-x l = (l.x-index ≤ length l.y) × (l.sum ≡ sum_to (λ (r : ℕ). get_or l.y r nan ⊗ get_or l.y r nan) l.x-index)
