-- `fit::kernel::misfits`: the first r misfits are observed less run coordinate, and nothing outside their part has moved. Assumes nothing.
use Rattle.fit.proofs.Rows.{measured_more}
use Rattle.std.proofs.Common.{arith}
use Rattle.fit.proofs.kernel.misfits.Goals as goal

pub loop-r-preserved : goal.loop-r-preserved
loop-r-preserved c = (
  omega arith,
  measured_more _ c.loop-r.s c.args.bench.base c.loop-r.r (omega arith) (omega (arith, c.loop-r.invariant.1.only.long)) _ _ c.loop-r.invariant.1
      c.place_at.ensures c.run_at.ensures,
)
