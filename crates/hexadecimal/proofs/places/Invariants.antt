-- What is left has the digits that are still to be counted. Assumes nothing.
use mathlib.Core.Path.{◌≡◌}
use Prim.Native.Nat.{◌+◌, ◌-◌}
use Rattle.hexadecimal.specs.Digits.{places_in, places_of}
use Rattle.hexadecimal.proofs.places.Given as goal

abbrev pub invariant-loop-count : goal.invariant-loop-count
invariant-loop-count l = places_in (20 - l.count) l.rest + l.count ≡ places_of l.value + 1
