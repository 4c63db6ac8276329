-- What stands at the heads of the four lists are the revolutions up to node k. Assumes nothing.
use Rattle.std.proofs.Common.{arith}
use Rattle.detrend.proofs.Listing.{listing_long, listing_short, listing_done}
use Rattle.detrend.proofs.list_revolutions.Goals as goal
use Rattle.detrend.proofs.list_revolutions.Goals.{then-first-end, else-first-end}

pub loop-k-preserved : goal.loop-k-preserved
loop-k-preserved c =
    let l = c.loop-k in
    let inside = c.loop-k-test.true in
    elim c.if-first-end.branch [
      | then-first-end w ↦ rw (w.count-is, w.firsts-is, w.ends-is, w.starts-is, w.periods-is)
          (listing_long _ _ l.k l.count _ _ _ _ _ _ (omega arith) l.invariant c.count_before-first.ensures.0 c.count_before-end.ensures.0 w.if-first-end.true)
      | else-first-end w ↦ rw (w.count-is, w.firsts-is, w.ends-is, w.starts-is, w.periods-is)
          (listing_short _ _ l.k l.count _ _ _ _ _ _ (omega arith) l.invariant c.count_before-first.ensures.0 c.count_before-end.ensures.0 w.if-first-end.false)
    ]

pub returns : goal.returns
returns c = let l = c.loop-k in listing_done _ _ l.k l.count _ _ _ _ (omega arith) (omega arith) l.invariant
