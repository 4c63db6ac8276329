-- `fields::rescaled_rows`: before degree n the table holds the rescaled rows below n. Assumes nothing.
use Rattle.std.proofs.Common.{refl, arith, rules, ◌+◌}
use Rattle.laws.specs.Tables.{tri_next, tri_mono}
use Rattle.fields.specs.Rescaled.{rescaled_at}
use Rattle.legendre.proofs.Filling.{rows_none, rows_more}
use Rattle.fields.proofs.rescaled_rows.Goals as goal

pub loop-n-init : goal.loop-n-init
loop-n-init c = (refl, search rows_none)

pub rescaled_row-requires : goal.rescaled_row-requires
rescaled_row-requires c =
    let l = c.loop-n in
    let more = tri_mono (l.n + 1) (c.args.degree + 1) (omega arith) in
    let next = tri_next l.n in
    (omega arith, c.triangle.ensures.0 (omega arith), omega arith, omega arith, omega arith)

pub loop-n-preserved : goal.loop-n-preserved
loop-n-preserved c =
    let l = c.loop-n in
    let a = c.args in
    (search rules, rows_more (rescaled_at a.start a.given.now.gm a.given.now.radius a.given.now.field.now) l.out _ c.triangle.result l.n (c.triangle.ensures.0 (omega arith)) l.invariant.1 c.rescaled_row.ensures)
