-- `legendre::compute_rows`: before degree n both tables hold the rows below n, and the two arrays what the next rows start from. Assumes nothing.
use Rattle.std.specs.Prelude.{suc, ◌≡◌, ◌+◌, ◌-◌, ◌≤◌, length, take}
use Rattle.laws.specs.Tables.{tri, rows}
use Rattle.legendre.specs.Rows.{lent, legendre_by, derived_by, Holds}
use Rattle.legendre.proofs.compute_rows.Given as goal

abbrev pub invariant-loop-n : goal.invariant-loop-n
invariant-loop-n l =
    (l.n ≤ l.latitude.tables.last.n + 1) × Holds (lent l.latitude.tables) l.latitude.sine l.n l.qa × Holds (lent l.latitude.tables) l.latitude.sine (suc l.n) l.qb
    × (length l.p ≡ length l.initial.p) × (length l.dp ≡ length l.initial.dp)
    × (take (tri l.n) l.p ≡ rows (legendre_by (lent l.latitude.tables) l.latitude.sine l.latitude.cosine) l.n)
    × (take (tri l.n) l.dp ≡ rows (derived_by (lent l.latitude.tables) l.latitude.sine l.latitude.cosine) l.n)

abbrev pub decreases-loop-n : goal.decreases-loop-n
decreases-loop-n l = l.latitude.tables.last.n + 1 - l.n
