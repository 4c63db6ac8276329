-- `fields::rescaled_row`: behind the first k places stand the first m rescaled coefficients of row n. Assumes nothing.
use Rattle.std.specs.Prelude.{◌≡◌, ◌+◌, ◌++◌, length, take}
use Rattle.laws.specs.Tables.{row}
use Rattle.fields.specs.Rescaled.{rescaled_at}
use Rattle.fields.proofs.rescaled_row.Given as goal

abbrev pub invariant-loop-m : goal.invariant-loop-m
invariant-loop-m l =
    (length l.out ≡ length l.initial.out) × (take (l.k + l.m) l.out ≡ take l.k l.initial.out ++ row (rescaled_at l.start l.given.gm l.given.radius l.given.field.now l.n) l.m)
