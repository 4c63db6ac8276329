-- `horizon::kernel::count_before`, from the last time to the first: the count is that of the times seen, and `last` ends their run. Assumes nothing.
use Rattle.std.proofs.Common.{◌≡◌, ◌<◌, ◌≤◌, length, drop}
use Rattle.finality.specs.Sheet.{count as count_of}
use Rattle.horizon.specs.Horizon.{end_at}
use Rattle.horizon.proofs.kernel.count_before.Given as goal

abbrev pub invariant-loop-i : goal.invariant-loop-i
invariant-loop-i l = (l.i ≤ length l.times) × (l.i < length l.times → l.last ≡ end_at l.times l.i) × (l.count ≡ count_of l.z (drop l.i l.times))
