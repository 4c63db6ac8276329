-- `fit::kernel::misfits`: the first r misfits are observed less run coordinate, and nothing outside their part has moved. Assumes nothing.
use Rattle.fit.specs.WorkLeaves.{Measured}
use Rattle.std.proofs.Common.{◌-◌, ◌*◌, ◌≤◌}
use Rattle.fit.proofs.kernel.misfits.Given as goal

abbrev pub invariant-loop-r : goal.invariant-loop-r
invariant-loop-r l = (l.r ≤ 3 * l.fn.known.count) × Measured l.initial.s l.s l.bench.base l.r

abbrev pub decreases-loop-r : goal.decreases-loop-r
decreases-loop-r l = 3 * l.fn.known.count - l.r
