-- The two ends, all values finite or not, by the laws of the work area. Assumes nothing.
use borrow.Author.Rules.{rules}
use Rattle.record_detrending.proofs.Settling.{settled_accepts, settled_refuses, settled_clear, settled_values}
use Rattle.record_detrending.proofs.settle.Goals as goal

pub returns-then-all_finite : goal.returns-then-all_finite
returns-then-all_finite c =
    let a = c.args in
    let w = c.remove_within in (
      search (rules, settled_accepts),
      settled_values a.nodes.now a.n a.work.now w.new.work c.requires w.ensures _ c.all_finite.ensures
          c.lower.new.work c.clear.new.a c.if-all_finite.true
          (search rules) (search rules) c.lower.ensures c.clear.ensures,
    )

pub returns : goal.returns
returns c = (search (rules, settled_refuses), search (rules, settled_clear))
