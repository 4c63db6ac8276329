-- `legendre::diagonal_row`: the first m places hold the diagonal, and pmm is its next number. Assumes nothing.
use borrow.Author.Rules.{rules}
use mathlib.Core.Path.{refl}
use native.Mathlib.Omega.{arith}
use Rattle.legendre.specs.Legendre.{diagonal}
use Rattle.legendre.proofs.Filling.{diagonal_none, diagonal_turn, diagonal_more}
use Rattle.legendre.proofs.diagonal_row.Goals as goal

pub loop-m-init : goal.loop-m-init
unfolding diagonal
loop-m-init c = (refl, search diagonal_none, refl)

pub loop-m-preserved : goal.loop-m-preserved
loop-m-preserved c =
    let h = c.loop-m in
    (search rules, diagonal_turn h.out h.m h.pmm (omega arith) h.invariant.1 h.invariant.2, diagonal_more h.m h.pmm _ h.invariant.2 c.diagonal_next-pmm.ensures)
