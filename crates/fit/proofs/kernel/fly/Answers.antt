use Rattle.fit.proofs.Flights.{flew}
use Rattle.integrate.specs.Force.{run_of, attraction_of}
use Rattle.inputs.specs.Lent.{model_of}
use Rattle.fit.proofs.kernel.fly.Goals as goal

pub returns : goal.returns
returns c =
    let a = c.args in flew a.bench.model.degree a.bench.arc.steps a.bench.base a.s.now _ (run_of (attraction_of a.force (model_of a.bench.model)) a.bench.arc a.p) c.run.ensures
    a.bench.few c.requires a.bench.within a.bench.placed
