-- `exports::pozsmeteg_final_count`: refused without a place for F, else the call's answer told. Assumes nothing.
use Rattle.exports.proofs.CallsTold.{final_unplaced, final_placed}
use Rattle.exports.proofs.pozsmeteg_final_count.Goals as goal

pub returns-then-counts-ne1 : goal.returns-then-counts-ne1
returns-then-counts-ne1 c =
    final_unplaced _ _ (c.tracks-tracks.ensures c.args.nodes.now) c.args.kept.now c.args.counts.now _ _ c.if-counts-ne1.true c.horizon.ensures c.number.ensures

pub returns : goal.returns
returns c =
    final_placed _ _ (c.tracks-tracks.ensures c.args.nodes.now) c.args.kept.now c.args.counts.now _ _ _ c.if-counts-ne1.false c.final_count-answer.ensures
    c.store.ensures.number c.store.ensures.values
