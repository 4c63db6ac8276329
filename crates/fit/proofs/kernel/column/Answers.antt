-- `fit::kernel::column`: in the first r rows column i is the run less the base; the other columns, and all before the design, are unchanged. Assumes nothing.
use Rattle.fit.proofs.Rows.{columned_more}
use Rattle.std.proofs.Common.{arith}
use Rattle.fit.proofs.kernel.column.Goals as goal

pub loop-r-preserved : goal.loop-r-preserved
loop-r-preserved c = (
  omega arith,
  columned_more _ c.loop-r.s c.args.bench.base c.loop-r.r (omega arith) (omega (arith, c.loop-r.invariant.1.only.long)) c.args.i
      (omega arith) _ c.loop-r.invariant.1 c.run_at.ensures,
)
