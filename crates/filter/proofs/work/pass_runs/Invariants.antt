-- `filter::work::pass_runs`: what is passed, with the definition of the rest behind it, is the definition of the whole list. Assumes nothing.
use Rattle.std.proofs.Common.{◌≡◌, ◌+◌, ◌++◌, length, take, drop}
use Rattle.std.specs.Slice.Iter.{chunk_by_rest}
use Rattle.laws.specs.Runs.{passed}
use Rattle.filter.specs.Sections.{sections_of}
use Rattle.filter.specs.Filter.{pass_by}
use Rattle.filter.proofs.work.pass_runs.Given as goal

abbrev pub invariant-loop-run : goal.invariant-loop-run
invariant-loop-run l =
    let left = chunk_by_rest l.run-iterator in
    (length l.x ≡ length l.initial.x) × (length l.scratch ≡ length l.initial.scratch) × (l.start + length left ≡ length l.x)
    × (take l.start l.x ++ passed (pass_by (sections_of l.sections)) left (drop l.start l.x) ≡ passed (pass_by (sections_of l.sections)) l.times l.initial.x)
