-- `fit::kernel::bases`: the first r base places hold the run's coordinates at the observed steps, and nothing else has moved. Assumes nothing.
use Rattle.fit.specs.WorkLeaves.{Based}
use Rattle.std.proofs.Common.{◌-◌, ◌*◌, ◌≤◌}
use Rattle.fit.proofs.kernel.bases.Given as goal

abbrev pub invariant-loop-r : goal.invariant-loop-r
invariant-loop-r l = (l.r ≤ 3 * l.fn.known.count) × Based l.initial.s l.s l.bench.base l.r

abbrev pub decreases-loop-r : goal.decreases-loop-r
decreases-loop-r l = 3 * l.fn.known.count - l.r
