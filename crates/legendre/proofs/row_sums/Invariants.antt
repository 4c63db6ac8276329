-- `legendre::row_sums`: the three sums after m orders are the definition's. Assumes nothing.
use Rattle.legendre.specs.Arrays.{at, from}
use Rattle.legendre.specs.Sums.{RowSums, degree_of}
use Rattle.laws.specs.WholeNumbers.{number}
use Rattle.laws.specs.Tables.{tri}
use mathlib.Core.Path.{◌≡◌}
use Rattle.legendre.proofs.row_sums.Given as goal

abbrev pub invariant-loop-m : goal.invariant-loop-m
invariant-loop-m l =
    (l.order ≡ number l.m) × RowSums (degree_of (from l.terms.c.now (tri l.fn.degree.n)) (from l.terms.s.now (tri l.fn.degree.n)) (at l.terms.x.now) (at l.terms.y.now) (at l.values.p) (at l.values.d)) l.m l.v l.lat l.lon
