-- `legendre::derive_rows`: before degree n the table holds the derivatives' rows below n, each by `derived_has` of RowsOfTables. Assumes nothing.
use Rattle.std.proofs.Common.{rules, refl, arith, ap, ℕ, List, ◌++◌, take, ◌∙◌}
use Rattle.std.specs.Prelude.{Float}
use Rattle.legendre.specs.Arrays.{from}
use Rattle.legendre.specs.Tables.{derived_from}
use Rattle.legendre.proofs.Index.{in_row, row_in}
use Rattle.legendre.proofs.Filling.{rows_none, rows_next}
use Rattle.legendre.proofs.RowsOfTables.{derived_has}
use Rattle.legendre.proofs.derive_rows.Goals as goal

pub loop-n-init : goal.loop-n-init
loop-n-init c = (refl, search rows_none)

pub load_row-requires : goal.load_row-requires
load_row-requires c = in_row _ c.requires.2 (omega arith) c.degree_at-degree.result.begins (omega arith)

pub derived_row-requires : goal.derived_row-requires
derived_row-requires c =
    let d = c.degree_at-degree.result in
    (in_row _ c.requires.0 (omega arith) d.begins (omega arith), in_row _ c.requires.1 (omega arith) d.begins (omega arith))

pub store_row-requires : goal.store_row-requires
store_row-requires c = row_in _ (c.loop-n.invariant.0 ∙ c.requires.3) (omega arith) c.degree_at-degree.result.begins

pub loop-n-preserved : goal.loop-n-preserved
loop-n-preserved c =
    let a = c.args in
    let l = c.loop-n in
    let d = c.degree_at-degree.result in
    let f : ℕ → ℕ → Float = derived_from a.lower.now a.upper.now a.p.now in
    let stored = c.store_row.ensures
    ∙ ap (λ (r : List Float). take d.start l.dp ++ r) (derived_has d.n d.start (from a.lower.now d.start) (from a.upper.now d.start) a.p.now _ _ c.load_row.ensures c.derived_row.ensures) in
    (search rules, rows_next f l.dp _ l.n _ _ l.invariant.1 c.degree_at-degree.ensures refl (rw d.begins at stored))
