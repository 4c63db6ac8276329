-- `fit::kernel::linearise`: full run, misfits, base run, bases and design, from what each call ensures, by `linearised` of proofs/Columns.antt. Assumes nothing.
use Rattle.fit.proofs.Columns.{linearised}
use Rattle.fit.specs.Fit.{moved_of}
use Rattle.integrate.specs.Force.{run_of, attraction_of}
use Rattle.integrate.specs.declared.kernel.Force.TheVariants.{Full, J2}
use Rattle.std.proofs.Common.{ℕ, ◌*◌, arith}
use Rattle.inputs.specs.Lent.{model_of}
use Rattle.fit.proofs.kernel.linearise.Goals as goal

pub returns : goal.returns
returns c =
    let a = c.args in
    linearised (run_of (attraction_of Full (model_of a.bench.model)) a.bench.arc a.p) (run_of (attraction_of J2 (model_of a.bench.model)) a.bench.arc a.p)
    (λ (i : ℕ). run_of (attraction_of J2 (model_of a.bench.model)) a.bench.arc (moved_of a.p i)) a.bench.arc.steps a.s.now _ _ _ _ _ a.bench.base (3 * a.known.count)
    (omega arith) c.fly.ensures.0 c.fly.ensures.1 c.misfits.ensures c.fly-2.ensures.0 c.fly-2.ensures.1 c.bases.ensures
    c.design.ensures
