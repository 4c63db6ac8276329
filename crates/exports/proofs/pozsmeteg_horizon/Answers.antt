-- `exports::pozsmeteg_horizon`: refused without a place for the time, else the call's answer told. Assumes nothing.
use Rattle.exports.proofs.CallsTold.{horizon_unplaced, horizon_placed}
use Rattle.exports.proofs.pozsmeteg_horizon.Goals as goal

pub returns-then-out-ne1 : goal.returns-then-out-ne1
returns-then-out-ne1 c =
    horizon_unplaced _ _ (c.tracks-tracks.ensures c.args.nodes.now) c.args.out.now _ _ c.if-out-ne1.true c.horizon.ensures c.number.ensures

pub returns : goal.returns
returns c =
    horizon_placed _ _ (c.tracks-tracks.ensures c.args.nodes.now) c.args.out.now _ _ _ c.if-out-ne1.false c.horizon-answer.ensures c.store.ensures.number
    c.store.ensures.values
