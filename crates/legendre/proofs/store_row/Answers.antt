-- `legendre::store_row`: behind the first k places stand the first m numbers of the array. Assumes nothing.
use borrow.Author.Rules.{rules}
use mathlib.Core.Path.{refl}
use native.Mathlib.Omega.{arith}
use lib.ListN.{take}
use Rattle.laws.specs.Tables.{row_turn, row_none}
use Rattle.legendre.specs.Arrays.{at}
use Rattle.legendre.proofs.store_row.Goals as goal

pub loop-m-init : goal.loop-m-init
loop-m-init c = (refl, search row_none)

pub loop-m-preserved : goal.loop-m-preserved
loop-m-preserved c =
    let s = c.args in
    let h = c.loop-m in
    (search rules, row_turn (at s.x.now) (take s.degree.start s.out.now) h.out s.degree.start h.m _ h.invariant.1 (omega arith) refl)
