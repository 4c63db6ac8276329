-- `exports::pozsmeteg_sheet`: refused without two places for the counts. Assumes nothing.
use Rattle.exports.proofs.CallsTold.{sheet_unplaced}
use Rattle.exports.proofs.pozsmeteg_sheet.Goals as goal

pub returns-then-counts-ne2 : goal.returns-then-counts-ne2
returns-then-counts-ne2 c = sheet_unplaced _ _ _ c.args.counts.now c.args.scratch.now _ _ c.if-counts-ne2.true c.sheet.ensures c.number.ensures
