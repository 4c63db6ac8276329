-- `model::kernel::bracket` meets its contract. Assumes nothing.
use mathlib.Core.Path.{◌≡◌}
use Prim.Native.Nat.{◌+◌}
use lib.ListN.{drop}
use Rattle.model.specs.Model.{bracket}
use Rattle.model.proofs.kernel.bracket.Given as goal

abbrev pub invariant-loop-j : goal.invariant-loop-j
invariant-loop-j l = l.j + bracket (drop l.j l.times) l.t ≡ bracket l.times l.t
