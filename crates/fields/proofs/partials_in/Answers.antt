-- `fields::partials_in`: in a prepared scratch with the field copied to its front, the value is the definition's, by `partials_by_law` of ScratchCalls. Assumes nothing.
use Rattle.std.proofs.Common.{arith}
use Rattle.fields.proofs.ScratchCalls.{partials_by_law}
use Rattle.fields.proofs.partials_in.Goals as goal

pub returns : goal.returns
returns c =
    let a = c.args.of.now in
    partials_by_law a.degree a.field.now c.args.scratch.now a.a.now a.b.now a.r a.lat a.lon c.triangle-l2.result _ _ _ c.requires.0 c.requires.1
    (c.triangle-l2.ensures.0 (omega arith)) c.prepare.ensures c.copy.ensures c.evaluate.ensures
