-- `legendre::both_rows`: the recursion's row times the powers is the definition's row of the functions, and what is derived from it is that of the derivatives. Assumes nothing.
use Rattle.std.proofs.Common.{arith}
use Rattle.legendre.specs.Rows.{Tables, lent}
use Rattle.legendre.proofs.Index.{in_row}
use Rattle.legendre.proofs.Recur.{p_is, d_is, holds_next}
use Rattle.legendre.proofs.both_rows.Goals as goal

pub derived_row-requires : goal.derived_row-requires
derived_row-requires c =
    let t = c.args.latitude.now.tables in
    let b = c.args.degree.begins in
    (in_row _ t.lower_full c.requires.0 b (omega arith), in_row _ t.upper_full c.requires.0 b (omega arith))

pub returns : goal.returns
returns c =
    let l = c.args.latitude.now in
    let T : Tables = lent l.tables in
    let n = c.args.degree.n in
    let h = c.requires in
    let hp = p_is T l.sine n _ _ h.1 h.2 (omega arith) l.cosine l.powers.now (λ m k. l.has_powers m (omega arith)) c.legendre_row.ensures.has in
    record {
      scaled = holds_next T l.sine n _ _ h.1 h.2 (omega arith) c.legendre_row.ensures.begins;
      functions = hp;
      derivatives = d_is T l.sine l.cosine n hp (rw c.args.degree.begins at c.derived_row.ensures);
    }
