-- `model::kernel::Kind::blend` meets its contract. Assumes nothing.
use Rattle.std.proofs.Common.{arith}
use Rattle.model.proofs.Blend.{kind_is}
use Rattle.model.proofs.kernel.Kind.blend.Goals as goal

pub returns : goal.returns
returns c =
    let a = c.args in
    kind_is a.self.degree a.self.start a.j _ a.w a.field.now a.added.now _ (c.places.ensures.0 (omega arith)) c.blend_rows.ensures
