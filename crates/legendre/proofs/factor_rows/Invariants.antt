-- `legendre::factor_rows`: before degree n the table holds the factors' rows below n. Assumes nothing.
use Rattle.std.specs.Prelude.{ℕ, Float}
use mathlib.Core.Path.{◌≡◌}
use lib.ListN.{length, take}
use Rattle.laws.specs.Tables.{tri, rows}
use Rattle.legendre.specs.Prepared.{Gives}
use Rattle.legendre.proofs.factor_rows.Given as goal

abbrev pub invariant-loop-n : goal.invariant-loop-n
invariant-loop-n g l =
    (length l.out ≡ length l.initial.out) × ((f : ℕ → ℕ → Float) → Gives (goal.F-post g l.factor) f → take (tri l.n) l.out ≡ rows f l.n)
