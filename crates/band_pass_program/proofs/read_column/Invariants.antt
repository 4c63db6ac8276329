-- The numbers read, with those still to be read, are the column. Assumes nothing.
use mathlib.Core.Path.{◌≡◌}
use mathlib.Core.List.{◌++◌}
use Prim.Native.Nat.{◌+◌, ◌-◌, ◌*◌}
use lib.ListN.{length, take}
use Rattle.band_pass_program.specs.Text.{column}
use Rattle.band_pass_program.proofs.read_column.Given as goal

abbrev pub invariant-loop-k : goal.invariant-loop-k
invariant-loop-k l = take l.k l.out ++ column l.text (l.from + 33 * l.k) (length l.initial.out - l.k) ≡ column l.text l.from (length l.initial.out)
