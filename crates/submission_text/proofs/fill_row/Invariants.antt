-- The numbers written, with the words left, are the line's column of numbers. Assumes nothing.
use mathlib.Core.Path.{◌≡◌}
use mathlib.Core.List.{◌++◌}
use Prim.Native.Nat.{◌-◌, ◌*◌}
use lib.ListN.{length, take}
use Rattle.submission_text.specs.Text.{column}
use Rattle.submission_text.proofs.fill_row.Given as goal

abbrev pub invariant-loop-k : goal.invariant-loop-k
invariant-loop-k l = take l.k l.out ++ column l.line (17 * l.k) (length l.initial.out - l.k) ≡ column l.line 0 (length l.initial.out)
