-- `legendre::compute_in`: with the tables in the work slice, what the rows fill is the definition's two tables. Assumes nothing.
use Rattle.legendre.proofs.RowsOfTables.{computed_is}
use Rattle.legendre.proofs.compute_in.Goals as goal

pub returns : goal.returns
returns c =
    let a = c.args in
    let g = a.given.now in
    let r = c.compute_rows.ensures in
    computed_is g.last.n g.a.now g.b.now g.work.now a.lat a.p.now a.dp.now _ _ _ _ _ (record { degree = g.last.small; a = g.a_full; b = g.b_full; work = g.long })
    (record { degree = g.last.small; a = c.requires.0; b = c.requires.1; work = g.long }) c.tables_in-tables.ensures.kept c.sine_cosine-w.ensures
    c.tables_in-tables.ensures.value r.0 r.1
