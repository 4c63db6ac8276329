-- `legendre::streamed`: before degree n the two arrays hold the rows n and n + 1 start from, and the sums are those of the degrees below n. Assumes nothing.
use Rattle.std.specs.Prelude.{suc, ◌+◌, ◌-◌, ◌≤◌}
use Rattle.legendre.specs.Rows.{lent, Holds}
use Rattle.legendre.specs.Sums.{AllSums}
use Rattle.legendre.specs.Field.{evaluation_of}
use Rattle.legendre.proofs.streamed.Given as goal

abbrev pub invariant-loop-n : goal.invariant-loop-n
invariant-loop-n l =
    (l.n ≤ l.terms.latitude.tables.last.n + 1) × Holds (lent l.terms.latitude.tables) l.terms.latitude.sine l.n l.qa
    × Holds (lent l.terms.latitude.tables) l.terms.latitude.sine (suc l.n) l.qb
    × AllSums (evaluation_of l.terms) l.terms.ratio l.n l.sum.total.v l.sum.total.r l.sum.total.lat l.sum.total.lon l.sum.power

abbrev pub decreases-loop-n : goal.decreases-loop-n
decreases-loop-n l = l.terms.latitude.tables.last.n + 1 - l.n
