-- `fit::kernel::column`: in the first r rows column i is the run less the base; the other columns, and all before the design, are unchanged. Assumes nothing.
use Rattle.fit.specs.WorkLeaves.{Columned}
use Rattle.std.proofs.Common.{◌-◌, ◌*◌, ◌≤◌}
use Rattle.fit.proofs.kernel.column.Given as goal

abbrev pub invariant-loop-r : goal.invariant-loop-r
invariant-loop-r l = (l.r ≤ 3 * l.fn.known.count) × Columned l.initial.s l.s l.bench.base l.r l.i

abbrev pub decreases-loop-r : goal.decreases-loop-r
decreases-loop-r l = 3 * l.fn.known.count - l.r
