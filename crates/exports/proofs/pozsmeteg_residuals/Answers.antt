-- `exports::pozsmeteg_residuals`: refused without a place for the count. Assumes nothing.
use Rattle.exports.proofs.CallsTold.{residuals_unplaced}
use Rattle.exports.proofs.pozsmeteg_residuals.Goals as goal

pub returns-then-counts-ne1 : goal.returns-then-counts-ne1
returns-then-counts-ne1 c = residuals_unplaced _ _ _ c.args.counts.now c.args.scratch.now _ _ c.if-counts-ne1.true c.residuals.ensures c.number.ensures
