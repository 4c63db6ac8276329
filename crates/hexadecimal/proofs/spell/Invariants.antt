-- The digits still to come, and those that stand there, are all. Assumes nothing.
use mathlib.Core.Path.{◌≡◌}
use mathlib.Core.List.{◌++◌}
use lib.ListN.{length, drop}
use Rattle.hexadecimal.specs.Digits.{digits_of}
use Rattle.hexadecimal.proofs.spell.Given as goal

abbrev pub invariant-loop-i : goal.invariant-loop-i
invariant-loop-i l = digits_of l.base.of l.i l.rest ++ drop l.i l.out ≡ digits_of l.base.of (length l.initial.out) l.value
