-- `fit::kernel::round`: the fifteen coefficients from the design and the misfits in scratch, added to p, or none; by `rounded` of Rounds. Assumes nothing.
use Rattle.std.proofs.Common.{◌+◌, ◌-◌, ◌*◌, ap, sym, ◌∙◌, arith}
use Rattle.std.specs.Prelude.{Some, option_map}
use Rattle.inputs.specs.Lent.{model_of}
use Rattle.fit.specs.Fit.{updated_of}
use Rattle.fit.specs.Room.{misfit_part, design_part}
use Rattle.fit.proofs.Rounds.{rounded}
use Rattle.fit.proofs.kernel.round.Goals as goal

pub returns-in_err-beta : goal.returns-in_err-beta
returns-in_err-beta c =
    let a = c.args in
    rounded (model_of a.bench.model) a.bench.arc a.p a.s.now _ a.bench.base a.known.count (omega arith) (omega (arith, c.linearise.ensures.apart.long)) c.linearise.ensures
    (a.bench.base + design_part + 45 * a.known.count - (a.bench.base + design_part)) (a.bench.base + misfit_part + 3 * a.known.count - (a.bench.base + misfit_part)) (omega arith) (omega arith)
    c.fifteen.result _ c.fifteen.ensures (c.from_residual.ensures ∙ sym (ap (option_map (updated_of a.p)) c.in_err-beta.was))

pub returns : goal.returns
returns c =
    let a = c.args in
    rounded (model_of a.bench.model) a.bench.arc a.p a.s.now _ a.bench.base a.known.count (omega arith) (omega (arith, c.linearise.ensures.apart.long)) c.linearise.ensures
    (a.bench.base + design_part + 45 * a.known.count - (a.bench.base + design_part)) (a.bench.base + misfit_part + 3 * a.known.count - (a.bench.base + misfit_part)) (omega arith) (omega arith)
    c.fifteen.result _ c.fifteen.ensures (ap Some c.updated.ensures ∙ sym (ap (option_map (updated_of a.p)) c.in_ok-beta.was))
