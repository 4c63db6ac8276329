-- `model::kernel::Kind::blend_row` meets its contract. Assumes nothing.
use native.Mathlib.Omega.{arith}
use lib.ListN.{take}
use Rattle.laws.specs.Tables.{row_none, row_turn}
use Rattle.model.specs.Model.{blended}
use Rattle.model.proofs.Blend.{blended_here}
use Rattle.model.proofs.kernel.Kind.blend_row.Goals as goal

pub loop-m-init : goal.loop-m-init
loop-m-init c = row_none _ _ _

pub loop-m-preserved : goal.loop-m-preserved
loop-m-preserved c =
    let a = c.args in
    let l = c.loop-m in
    row_turn (blended a.self.start a.w a.field.now a.a.now a.b.now a.n) (take a.k a.out.now) l.out a.k l.m _ l.invariant (omega arith)
    (blended_here a.self.start a.k a.n l.m a.w a.field.now a.a.now a.b.now _ _ _ _ c.requires.1 (omega arith) (omega arith) (omega arith)
    c.factor_from_two-fa.ensures c.factor_from_two-fb.ensures c.with_added.ensures
    c.with_added-in-loop-m.ensures)
