-- `fit::kernel::note`: the position held at a step is one more observation, by `noted_known` of proofs/Notes.antt. Assumes nothing.
use Rattle.inputs.specs.Lent.{keyed_of}
use Rattle.fit.proofs.Notes.{noted_known}
use Rattle.fit.specs.Fit.{state_for}
use Rattle.std.proofs.Common.{◌*◌, sym, ap, ◌∙◌, arith}
use Rattle.fit.proofs.kernel.note.Goals as goal

pub returns-in-Some : goal.returns-in-Some
returns-in-Some c =
    let a = c.args in
    noted_known a.s.now _ a.bench.base a.n (5 * a.c) _ c.in-Some.state
    (ap (state_for (keyed_of a.bench.states)) (sym c.time.ensures) ∙ sym (c.state_for.ensures a.bench.rising) ∙ c.in-Some.is) (omega arith)
    c.put_observed.ensures
