-- `legendre::factor_row`: behind the first k places stand the first m factors of row n. Assumes nothing.
use borrow.Author.Rules.{rules}
use mathlib.Core.Path.{refl}
use native.Mathlib.Omega.{arith}
use lib.ListN.{take}
use Rattle.laws.specs.Tables.{row_turn, row_none}
use Rattle.legendre.proofs.factor_row.Goals as goal

pub loop-m-init : goal.loop-m-init
loop-m-init g c = (refl, λ f h. search row_none)

pub loop-m-preserved : goal.loop-m-preserved
loop-m-preserved g c =
    let s = c.args in
    let h = c.loop-m in
    (search rules, λ f e. row_turn (f s.degree.n) (take s.degree.start s.out.now) h.out s.degree.start h.m _ (h.invariant.1 f e) (omega arith) (e _ _ _ c.factor.ensures))
