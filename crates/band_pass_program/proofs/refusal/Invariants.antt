-- The text from here on is refused as the whole is. Assumes nothing.
use mathlib.Core.Path.{◌≡◌}
use Prim.Native.Nat.{◌-◌, ◌*◌}
use Rattle.band_pass_program.specs.Text.{refusal_from}
use Rattle.band_pass_program.proofs.refusal.Given as goal

abbrev pub invariant-loop-line : goal.invariant-loop-line
invariant-loop-line l = refusal_from (4096 - l.line) l.text (33 * l.line) ≡ refusal_from 4096 l.text 0
