-- `legendre::legendre_row`: the first m places are the next row in the place of the row before last, and p has its products with the powers. Assumes nothing.
use Rattle.std.proofs.Common.{◌≡◌, ◌+◌, arith, ap}
use Rattle.laws.specs.Floats.{◌⊗◌}
use Rattle.laws.specs.Tables.{tri}
use Rattle.legendre.specs.Arrays.{at}
use Rattle.legendre.specs.Rows.{Tables, lent, step_at, next_by}
use Rattle.legendre.proofs.Rows.{next_mid}
use Rattle.legendre.proofs.Index.{in_row}
use Rattle.legendre.proofs.FilledArrays.{pre_more, has_more}
use lib.ListN.{get_or}
use lib.Ieee.{Float, nan}
use Rattle.legendre.proofs.legendre_row.Goals as goal

pub bounds-a-k : goal.bounds-a-k
bounds-a-k c = in_row _ c.args.latitude.now.tables.a_full c.requires c.args.degree.begins (omega arith)

pub bounds-b-k : goal.bounds-b-k
bounds-b-k c = in_row _ c.args.latitude.now.tables.b_full c.requires c.args.degree.begins (omega arith)

pub loop-m-preserved : goal.loop-m-preserved
loop-m-preserved c =
    let s = c.args in
    let T : Tables = lent s.latitude.now.tables in
    let m = c.loop-m.m in
    let v : step_at T.a T.b s.latitude.now.sine (s.degree.start + m) (get_or s.q1.now m nan) (get_or c.loop-m.q2 m nan) ≡ next_by T s.latitude.now.sine s.degree.n (at s.q1.now) (at s.q2.now) m =
    rw s.degree.begins (next_mid s.degree.n (tri s.degree.n) s.latitude.now.sine _ T.a T.b s.q1.now s.q2.now c.loop-m.invariant.0 (omega arith)) in
    (pre_more _ c.loop-m.invariant.0 (omega arith) v, has_more _ c.loop-m.invariant.1 (omega arith) (ap (λ (x : Float). x ⊗ get_or s.latitude.now.powers.now m nan) v))
