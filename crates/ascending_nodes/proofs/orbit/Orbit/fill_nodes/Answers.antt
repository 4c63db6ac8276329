use Rattle.std.proofs.Common.{rules, arith}
use Rattle.ascending_nodes.proofs.Crossings.{upto_none, upto_yes, upto_no}
use Rattle.ascending_nodes.proofs.orbit.Orbit.fill_nodes.Goals as goal
use Rattle.ascending_nodes.proofs.orbit.Orbit.fill_nodes.Goals.{then-crosses, else-crosses}

pub loop-k-init : goal.loop-k-init
loop-k-init c = record { long = search rules; upto = search (rules, upto_none) }

pub loop-k-preserved : goal.loop-k-preserved
loop-k-preserved c =
    let l = c.loop-k in
    let k_in = c.loop-k-test.true in
    elim c.if-crosses.branch [
      | then-crosses w ↦ record {
        long = rw w.out-is (search rules);
        upto = rw (w.out-is, w.count-is) (upto_yes _ _ l.k l.count l.out _ _ (omega arith) l.invariant.upto c.crosses.ensures w.if-crosses.true w.crossing.ensures);
      }
      | else-crosses w ↦ record { long = rw w.out-is l.invariant.long; upto = rw (w.out-is, w.count-is) (upto_no _ _ l.k l.count l.out _ l.invariant.upto c.crosses.ensures w.if-crosses.false) }
    ]
