-- `legendre::factor_row`: behind the first k places stand the first m factors of row n. Assumes nothing.
use Rattle.std.specs.Prelude.{ℕ, ◌+◌, Float}
use mathlib.Core.Path.{◌≡◌}
use mathlib.Core.List.{◌++◌}
use lib.ListN.{length, take}
use Rattle.laws.specs.Tables.{row}
use Rattle.legendre.specs.Prepared.{Gives}
use Rattle.legendre.proofs.factor_row.Given as goal

abbrev pub invariant-loop-m : goal.invariant-loop-m
invariant-loop-m g l =
    (length l.out ≡ length l.initial.out)
    × ((f : ℕ → ℕ → Float) → Gives (goal.F-post g l.factor) f → take (l.k + l.m) l.out ≡ take l.k l.initial.out ++ row (f l.n) l.m)
