-- `fields::rescaled_row`: behind the first k places stand the first m rescaled coefficients of row n. Assumes nothing.
use Rattle.std.proofs.Common.{refl, arith, rules, take}
use Rattle.laws.specs.Tables.{row_turn, row_none}
use Rattle.fields.specs.Rescaled.{rescaled_at}
use Rattle.fields.proofs.Coefficients.{rescaled_is}
use Rattle.fields.proofs.rescaled_row.Goals as goal

pub loop-m-init : goal.loop-m-init
loop-m-init c = (refl, search row_none)

pub loop-m-preserved : goal.loop-m-preserved
loop-m-preserved c =
    let a = c.args in
    let l = c.loop-m in (
      search rules,
      row_turn (rescaled_at a.start a.given.now.gm a.given.now.radius a.given.now.field.now a.n) (take a.k a.out.now) l.out a.k l.m _ l.invariant.1 (omega arith)
          (rescaled_is a.start a.k a.given.now.gm a.given.now.radius a.given.now.field.now _ a.n l.m (omega arith) (omega arith) (omega arith) c.factor-f.ensures),
    )
