-- Whether the words left make a row is whether all do. Assumes nothing.
use mathlib.Core.Path.{◌≡◌}
use Prim.Native.Nat.{◌-◌, ◌*◌}
use Rattle.submission_text.specs.Text.{is_row}
use Rattle.submission_text.proofs.is_row.Given as goal

abbrev pub invariant-loop-k : goal.invariant-loop-k
invariant-loop-k l = is_row l.line (17 * l.k) (l.words - l.k) ≡ is_row l.line 0 l.words
