-- `detrend::work::count_from`: from `first` and from i on the times reach b at the same place. Assumes nothing.
use mathlib.Core.Path.{◌≡◌}
use Prim.Native.Nat.{◌+◌, ◌≤◌}
use lib.ListN.{length, drop}
use Rattle.detrend.specs.Revolutions.{count_before}
use Rattle.detrend.proofs.work.count_from.Given as goal

abbrev pub invariant-loop-i : goal.invariant-loop-i
invariant-loop-i l = (l.first ≤ l.i) × (l.i ≤ length l.times) × (l.first + count_before l.b (drop l.first l.times) ≡ l.i + count_before l.b (drop l.i l.times))
