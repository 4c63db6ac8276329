-- `model::kernel::Kind::blend_rows` meets its contract. Assumes nothing.
use Rattle.std.proofs.Common.{refl, arith, rules, ◌+◌}
use Rattle.laws.specs.Tables.{tri_next, tri_mono}
use Rattle.legendre.proofs.Filling.{rows_none, rows_more}
use Rattle.model.specs.Model.{blended}
use Rattle.model.proofs.kernel.Kind.blend_rows.Goals as goal

pub loop-n-init : goal.loop-n-init
loop-n-init c = (refl, search rows_none)

pub blend_row-requires : goal.blend_row-requires
blend_row-requires c =
    let l = c.loop-n in
    let more = tri_mono (l.n + 1) (c.args.self.degree + 1) (omega arith) in
    let next = tri_next l.n in
    let start = c.triangle.ensures.0 (omega arith) in
    (omega arith, start, omega arith, omega arith, omega arith, omega arith)

pub loop-n-preserved : goal.loop-n-preserved
loop-n-preserved c =
    let l = c.loop-n in
    let a = c.args in
    (search rules, rows_more (blended a.self.start a.w a.field.now a.a.now a.b.now) l.out _ c.triangle.result l.n (c.triangle.ensures.0 (omega arith)) l.invariant.1 c.blend_row.ensures)
