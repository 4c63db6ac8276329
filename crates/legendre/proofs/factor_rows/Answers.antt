-- `legendre::factor_rows`: before degree n the table holds the factors' rows below n. Assumes nothing.
use borrow.Author.Rules.{rules}
use Prim.Native.Nat.{◌+◌}
use mathlib.Core.Path.{refl, ap}
use native.Mathlib.Omega.{arith}
use Rattle.laws.specs.Tables.{tri, tri_mono, tri_next}
use Rattle.legendre.proofs.Filling.{rows_none, rows_next}
use Rattle.legendre.proofs.factor_rows.Goals as goal

pub loop-n-init : goal.loop-n-init
loop-n-init g c = (refl, λ f h. search rows_none)

pub factor_row-requires-clause-room : goal.factor_row-requires-clause-room
factor_row-requires-clause-room g c =
    let n = c.loop-n.n in
    let d = c.degree_at.result in
    omega (arith, d.begins, ap tri c.degree_at.ensures, tri_mono (n + 1) (c.args.last.n + 1) (omega arith), tri_next n)

pub loop-n-preserved : goal.loop-n-preserved
loop-n-preserved g c =
    let l = c.loop-n in
    (search rules, λ f h. rows_next f l.out _ l.n _ _ (l.invariant.1 f h) c.degree_at.ensures c.degree_at.result.begins (c.factor_row.ensures f h))
