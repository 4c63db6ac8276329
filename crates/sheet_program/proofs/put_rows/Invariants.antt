-- What is printed, followed by the text of the rows that are left, is the text of all. Assumes nothing.
use mathlib.Core.Path.{◌≡◌}
use mathlib.Core.List.{◌++◌}
use Prim.Native.Nat.{◌+◌, ◌-◌, ◌*◌}
use lib.ListN.{take}
use Rattle.sheet_program.specs.Text.{rows_text}
use Rattle.sheet_program.proofs.put_rows.Given as goal

abbrev pub invariant-loop-k : goal.invariant-loop-k
invariant-loop-k l = take (68 * l.k) l.out ++ rows_text (l.i + l.k) (l.n - l.k) l.sheet.times.now l.sheet.raws.now l.sheet.detrended.now l.sheet.passed.now ≡ rows_text l.i l.n l.sheet.times.now l.sheet.raws.now l.sheet.detrended.now l.sheet.passed.now
