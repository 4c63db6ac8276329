-- `fit::kernel::bases`: the first r base places hold the run's coordinates at the observed steps, and nothing else has moved. Assumes nothing.
use Rattle.fit.proofs.Rows.{based_more}
use Rattle.std.proofs.Common.{arith}
use Rattle.fit.proofs.kernel.bases.Goals as goal

pub loop-r-preserved : goal.loop-r-preserved
loop-r-preserved c = (
  omega arith,
  based_more _ c.loop-r.s c.args.bench.base c.loop-r.r (omega arith) (omega (arith, c.loop-r.invariant.1.only.long)) _ c.loop-r.invariant.1
      c.run_at-v.ensures,
)
