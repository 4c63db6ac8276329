-- `filter::kernel::count_runs`: the runs counted, with those of the times left, are all runs; likewise the long ones. Assumes nothing.
use Rattle.std.proofs.Common.{rules, of_calls}
use Rattle.std.specs.Slice.Iter.{chunk_by_rest}
use Rattle.std.proofs.lemmas.List.Sorted.{answers_always}
use Rattle.filter.proofs.Turns.{joins, runs_turn}
use Rattle.filter.proofs.kernel.count_runs.Goals as goal

pub loop-run-preserved : goal.loop-run-preserved
loop-run-preserved c =
    let l = c.loop-run in
    let cut = c.in-Some.ensures.steps in
    let more = runs_turn (chunk_by_rest l.run-iterator) c.in-Some.run'.now (chunk_by_rest c.next.new.self) l.runs l.long _ _ cut.0 cut.1
    (cut.2 joins (answers_always _ _ _ (λ f a r g k. search (rules, of_calls)))).1 l.invariant.2 l.invariant.3 in
    (search (rules, cut.0), search rules, more.0, rw c.from-long.ensures more.1)
