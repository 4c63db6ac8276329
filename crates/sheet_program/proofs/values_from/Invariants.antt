-- What is copied, followed by the values that are left, is the whole list. Assumes nothing.
use mathlib.Core.Path.{◌≡◌}
use mathlib.Core.List.{◌++◌}
use Prim.Native.Nat.{◌-◌}
use lib.ListN.{length, take}
use Rattle.sheet_program.specs.Text.{values_from}
use Rattle.sheet_program.proofs.values_from.Given as goal

abbrev pub invariant-loop-i : goal.invariant-loop-i
invariant-loop-i g l = take l.i l.out ++ values_from (g.T.Said.said l.numbers) l.from l.lines.step l.lines.width l.i (length l.initial.out - l.i) ≡ values_from (g.T.Said.said l.numbers) l.from l.lines.step l.lines.width 0 (length l.initial.out)
