-- `filter::work::pass_runs`: what is written, with the definition of the rest behind it, is the definition of the whole list. Assumes nothing.
use Rattle.std.proofs.Common.{refl, ap, ◌∙◌, ◌+◌, ◌-◌, length, length-append, arith, rules, of_calls}
use Rattle.std.specs.Slice.Iter.{chunk_by_rest}
use Rattle.std.proofs.lemmas.List.Sorted.{answers_always}
use Rattle.filter.specs.Sections.{sections_of}
use Rattle.filter.specs.Filter.{pass_by}
use Rattle.laws.specs.Lists.{put_length}
use Rattle.filter.proofs.Turns.{joins, pass_turn}
use Rattle.filter.proofs.work.pass_runs.Goals as goal

pub loop-run-preserved : goal.loop-run-preserved
loop-run-preserved c =
    let l = c.loop-run in
    let s = c.args in
    let cut = c.in-Some.ensures.steps in
    let r = c.pass_run in
    let same = put_length l.start (l.start + length c.in-Some.run'.now - l.start) l.x r.new.x s.x.now r.auto.x l.invariant.0 in
    let parts = ap length cut.0 ∙ length-append c.in-Some.run'.now (chunk_by_rest c.next.new.self) in (
      same,
      search rules,
      omega (arith, same, l.invariant, parts),
      pass_turn (pass_by (sections_of s.sections.now)) (chunk_by_rest l.run-iterator) c.in-Some.run'.now (chunk_by_rest c.next.new.self) l.x _ r.new.x l.start _
          cut.0 cut.1 (cut.2 joins (answers_always _ _ _ (λ f a r g k. search (rules, of_calls)))).1 l.invariant.2 refl r.auto.x r.ensures l.invariant.3,
    )
