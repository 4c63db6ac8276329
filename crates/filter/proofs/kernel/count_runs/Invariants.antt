-- `filter::kernel::count_runs`: the runs counted, with those of the times left, are all runs; likewise the long ones. Assumes nothing.
use Rattle.std.proofs.Common.{◌≡◌, length, ◌+◌, ◌≤◌}
use Rattle.std.specs.Slice.Iter.{chunk_by_rest}
use Rattle.laws.specs.Runs.{runs_of}
use Rattle.filter.specs.Calls.{long_runs}
use Rattle.filter.proofs.kernel.count_runs.Given as goal

abbrev pub invariant-loop-run : goal.invariant-loop-run
invariant-loop-run l =
    let left = chunk_by_rest l.run-iterator in
    (l.runs + length left ≤ length l.times) × (l.long ≤ l.runs)
    × (l.runs + length (runs_of left) ≡ length (runs_of l.times))
    × (l.long + long_runs (runs_of left) ≡ long_runs (runs_of l.times))
