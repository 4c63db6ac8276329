-- `filter::work::reflect`: what is written, with the values still to be reflected, is the mirrored part. Assumes nothing.
use mathlib.Core.Path.{◌≡◌}
use mathlib.Core.List.{◌++◌, reverse}
use Prim.Native.Nat.{◌-◌}
use lib.ListN.{length, take, drop, get_or}
use lib.Ieee.{nan}
use Rattle.filter.specs.Filter.{reflected}
use Rattle.filter.proofs.Turns.{mirrored}
use Rattle.filter.proofs.work.reflect.Given as goal

abbrev pub invariant-loop-k : goal.invariant-loop-k
invariant-loop-k l =
    take l.k l.out ++ reflected (get_or l.x l.about nan) (reverse (take (length l.initial.out - l.k) (drop (l.end - length l.initial.out) l.x)))
    ≡ mirrored (get_or l.x l.about nan) (length l.initial.out) l.end l.x
