-- `fit::kernel::updated`: the first i of fifteen places hold the first i parameters, each with its scaled coefficient added. Assumes nothing.
use Rattle.fit.specs.Fit.{scale_of}
use Rattle.std.proofs.Common.{◌≡◌, ℕ, ◌-◌, ◌≤◌, length, get_or, take}
use lib.Ieee.{nan}
use Rattle.laws.specs.Floats.{◌⊕◌, ◌⊗◌}
use Rattle.laws.specs.Tables.{row}
use Rattle.fit.proofs.kernel.updated.Given as goal

abbrev pub invariant-loop-i : goal.invariant-loop-i
invariant-loop-i l = (l.i ≤ 15) × (length l.q ≡ 15) × (take l.i l.q ≡ row (λ (j : ℕ). get_or l.p j nan ⊕ get_or l.beta j nan ⊗ scale_of j) l.i)

abbrev pub decreases-loop-i : goal.decreases-loop-i
decreases-loop-i l = 15 - l.i
