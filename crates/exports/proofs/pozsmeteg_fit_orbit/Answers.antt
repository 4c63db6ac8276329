-- `exports::pozsmeteg_fit_orbit`: refused without a place for the rms. Assumes nothing.
use Rattle.exports.proofs.CallsTold.{fit_unplaced}
use Rattle.exports.proofs.pozsmeteg_fit_orbit.Goals as goal

pub returns-then-rms-ne1 : goal.returns-then-rms-ne1
returns-then-rms-ne1 c = fit_unplaced _ _ _ c.args.out.now c.args.rms.now c.args.scratch.now _ _ c.if-rms-ne1.true c.fit.ensures c.number.ensures
