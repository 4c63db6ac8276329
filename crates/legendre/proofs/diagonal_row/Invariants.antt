-- `legendre::diagonal_row`: the first m places hold the diagonal, and pmm is its next number. Assumes nothing.
use mathlib.Core.Path.{◌≡◌}
use lib.ListN.{length, take}
use Rattle.laws.specs.Tables.{row}
use Rattle.legendre.specs.Legendre.{diagonal}
use Rattle.legendre.proofs.diagonal_row.Given as goal

abbrev pub invariant-loop-m : goal.invariant-loop-m
invariant-loop-m l = (length l.out ≡ length l.initial.out) × (take l.m l.out ≡ row diagonal l.m) × (l.pmm ≡ diagonal l.m)
