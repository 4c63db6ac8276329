-- What is still to be read, behind what was, says what the whole does. Assumes nothing.
use mathlib.Core.Path.{◌≡◌}
use Prim.Native.Nat.{◌<◌}
use lib.ListN.{drop}
use Rattle.hexadecimal.specs.Digits.{spelled_in}
use Rattle.hexadecimal.proofs.DigitLoops.{limit, stands}
use Rattle.hexadecimal.proofs.spelled.Given as goal

abbrev pub invariant-loop-b : goal.invariant-loop-b
invariant-loop-b l = record {
  fits : l.value < limit;
  says : stands l.base.of l.value (drop l.b-index l.text) ≡ spelled_in l.base.of l.text;
}
