-- The lines written, with those still to be written, are all. Assumes nothing.
use mathlib.Core.Path.{◌≡◌}
use mathlib.Core.List.{◌++◌}
use Prim.Native.Nat.{◌*◌}
use lib.ListN.{take, drop}
use Rattle.band_pass_program.specs.Text.{lines_text}
use Rattle.band_pass_program.proofs.Samples.put_lines.Given as goal

abbrev pub invariant-loop-i : goal.invariant-loop-i
invariant-loop-i l = take (33 * l.i) l.out ++ lines_text (drop l.i l.self.times.now) (drop l.i l.self.values.now) ≡ lines_text l.self.times.now l.self.values.now
