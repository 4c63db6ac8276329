-- `legendre::compute_one`: one row of the Legendre functions and of their derivatives is the definition's row. Assumes nothing.
use Rattle.std.proofs.Common.{List, ◌++◌, take, ap, ◌∙◌}
use Rattle.std.specs.Prelude.{Float}
use Rattle.laws.specs.Tables.{tri}
use Rattle.legendre.proofs.RowsOfTables.{row_has}
use Rattle.legendre.proofs.compute_one.Goals as goal

pub returns : goal.returns
returns c =
    let a = c.args in
    let n = a.degree.n in
    let r = c.both_rows.ensures in (
      r.scaled,
      (rw a.degree.begins at c.store_row.ensures) ∙ ap (λ (l : List Float). take (tri n) a.p.now ++ l) (row_has r.functions),
      (rw a.degree.begins at c.store_row-2.ensures) ∙ ap (λ (l : List Float). take (tri n) a.dp.now ++ l) (row_has r.derivatives),
    )
