-- `legendre::one_row`: the sums of a row add one degree. Assumes nothing.
use Rattle.std.proofs.Common.{arith}
use Rattle.legendre.specs.Field.{evaluation_of}
use Rattle.legendre.proofs.Recur.{row_sums_are}
use Rattle.legendre.proofs.Added.{all_more}
use Rattle.legendre.proofs.one_row.Goals as goal

pub returns : goal.returns
returns c =
    let t = c.args.terms.now in
    let r = c.both_rows.ensures in
    let sums = row_sums_are (evaluation_of t) c.args.degree.n t.x.now t.y.now (λ m k. t.has_cosines m (omega arith)) (λ m k. t.has_sines m (omega arith))
    r.functions r.derivatives c.row_sums-z.ensures in
    (r.scaled, all_more c.requires.3 sums c.float_of-w.ensures)
