-- `legendre::store_row`: behind the first k places stand the first m numbers of the array. Assumes nothing.
use Prim.Native.Nat.{◌+◌}
use mathlib.Core.Path.{◌≡◌}
use mathlib.Core.List.{◌++◌}
use lib.ListN.{length, take}
use Rattle.laws.specs.Tables.{row}
use Rattle.legendre.specs.Arrays.{at}
use Rattle.legendre.proofs.store_row.Given as goal

abbrev pub invariant-loop-m : goal.invariant-loop-m
invariant-loop-m l = (length l.out ≡ length l.initial.out) × (take (l.k + l.m) l.out ≡ take l.k l.initial.out ++ row (at l.x) l.m)
