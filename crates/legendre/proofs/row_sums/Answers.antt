-- `legendre::row_sums`: the three sums after m orders are the definition's. Assumes nothing.
use Rattle.laws.specs.Floats.{◌⊕◌, one64}
use Rattle.laws.specs.Sums.{sum_to}
use Rattle.legendre.proofs.Index.{in_row}
use Rattle.legendre.proofs.Added.{sums_more, number_first, number_next}
use mathlib.Core.Path.{refl, ap, ◌∙◌}
use native.Mathlib.Omega.{arith}
use lib.Ieee.{Float}
use Rattle.legendre.proofs.row_sums.Goals as goal

pub bounds-c-k : goal.bounds-c-k
bounds-c-k c = in_row _ c.args.terms.now.c_full c.requires c.args.degree.begins (omega arith)

pub bounds-s-k : goal.bounds-s-k
bounds-s-k c = in_row _ c.args.terms.now.s_full c.requires c.args.degree.begins (omega arith)

pub loop-m-init : goal.loop-m-init
unfolding sum_to
loop-m-init c = (number_first, record { sv = refl; slat = refl; slon = refl })

pub loop-m-preserved : goal.loop-m-preserved
loop-m-preserved c =
    let h = c.loop-m in
    rw c.args.degree.begins (ap (λ (x : Float). x ⊕ one64) h.invariant.0 ∙ number_next h.m (omega arith), sums_more h.invariant.1 h.invariant.0)
