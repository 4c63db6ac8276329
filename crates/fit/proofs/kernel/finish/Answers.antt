-- `fit::kernel::finish`: the last full run, its misfits and their rms are the definition's, by `finished` of proofs/WholeFit.antt. Assumes nothing.
use Rattle.fit.proofs.WholeFit.{finished}
use Rattle.std.proofs.Common.{◌+◌, ◌-◌, ◌*◌, arith}
use Rattle.inputs.specs.Lent.{model_of}
use Rattle.fit.specs.Room.{misfit_part}
use Rattle.fit.proofs.kernel.finish.Goals as goal

pub returns : goal.returns
returns c =
    let a = c.args in
    finished (model_of a.bench.model) a.bench.arc a.p a.s.now _ _ a.bench.base a.known.count (a.bench.base + misfit_part + 3 * a.known.count - (a.bench.base + misfit_part)) _ (omega arith) (omega arith) (omega arith)
    (omega arith)
    c.fly.ensures.0 c.fly.ensures.1 c.misfits.ensures c.rms.ensures
