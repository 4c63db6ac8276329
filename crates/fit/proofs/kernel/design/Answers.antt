-- `fit::kernel::design`: one column more, from a run with its parameter moved, by `differentiated` and `designed_more` of proofs/Columns.antt. Assumes nothing.
use Rattle.fit.proofs.Columns.{designed_more, differentiated}
use Rattle.fit.specs.Fit.{moved_of}
use Rattle.integrate.specs.Force.{run_of, attraction_of}
use Rattle.integrate.specs.declared.kernel.Force.TheVariants.{J2}
use Rattle.std.proofs.Common.{◌*◌, arith}
use Rattle.inputs.specs.Lent.{model_of}
use Rattle.fit.proofs.kernel.design.Goals as goal

pub loop-i-preserved : goal.loop-i-preserved
loop-i-preserved c =
    let a = c.args in
    let i = c.loop-i.i in
    let one = differentiated (run_of (attraction_of J2 (model_of a.bench.model)) a.bench.arc (moved_of a.p i)) a.bench.arc.steps _ _ _ a.bench.base (3 * a.known.count) i (omega arith)
    (rw c.moved.ensures at c.fly.ensures.0) c.fly.ensures.1 c.column.ensures in
    (omega arith, designed_more _ _ _ _ _ a.bench.base (3 * a.known.count) i (omega arith) (omega arith) c.loop-i.invariant.1 one)
