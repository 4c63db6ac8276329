-- `legendre::derive_rows`: before degree n the table holds the derivatives' rows below n. Assumes nothing.
use Rattle.std.specs.Prelude.{◌≡◌, length, take}
use Rattle.laws.specs.Tables.{tri, rows}
use Rattle.legendre.specs.Tables.{derived_from}
use Rattle.legendre.proofs.derive_rows.Given as goal

abbrev pub invariant-loop-n : goal.invariant-loop-n
invariant-loop-n l = (length l.dp ≡ length l.initial.dp) × (take (tri l.n) l.dp ≡ rows (derived_from l.lower l.upper l.p) l.n)
