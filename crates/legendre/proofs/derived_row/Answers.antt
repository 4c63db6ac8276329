-- `legendre::derived_row`: the first m places hold the row of the definition, whose first, middle and last places differ. Assumes nothing.
use Rattle.legendre.specs.Arrays.{from, at}
use Rattle.legendre.proofs.Rows.{der_mid, der_last}
use mathlib.Core.Path.{◌≡◌}
use native.Mathlib.Omega.{arith}
use Rattle.legendre.proofs.FilledArrays.{has_more}
use Rattle.legendre.proofs.derived_row.Goals as goal

pub loop-m-preserved : goal.loop-m-preserved
loop-m-preserved c =
    let s = c.args in
    has_more _ c.loop-m.invariant (omega arith) (der_mid s.degree.n (from s.lower.now s.degree.start) (from s.upper.now s.degree.start) (at s.p.now) c.loop-m.m (omega arith) (omega arith))

pub returns : goal.returns
returns c =
    let s = c.args in
    let e : c.loop-m.m ≡ s.degree.n = omega arith in
    has_more _ (rw e at c.loop-m.invariant) (omega arith) (der_last s.degree.n (from s.lower.now s.degree.start) (from s.upper.now s.degree.start) (at s.p.now) (omega arith))
