-- `fit::kernel::observe`: after c of the fifth steps the known positions among them stand in order, at most c. Assumes nothing.
use Rattle.inputs.specs.Lent.{keyed_of}
use Rattle.fit.proofs.Notes.{sofar_none, sofar_more, observing}
use Rattle.fit.specs.Fit.{state_for}
use Rattle.std.proofs.Common.{arith}
use Rattle.fit.proofs.kernel.observe.Goals as goal

pub loop-c-init : goal.loop-c-init
loop-c-init c = (omega arith, sofar_none _ _ _ _)

pub loop-c-preserved : goal.loop-c-preserved
loop-c-preserved c =
    let b = c.args.bench in
    (omega arith, sofar_more (state_for (keyed_of b.states)) b.arc.t0 _ _ _ b.base c.loop-c.c _ _ c.loop-c.invariant.1 c.note-count.ensures)

pub returns : goal.returns
returns c =
    observing _ c.args.bench.arc _ _ c.args.bench.base c.loop-c.c _ (omega arith) (omega arith) c.loop-c.invariant.1
