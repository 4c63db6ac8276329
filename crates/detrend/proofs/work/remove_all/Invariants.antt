-- `detrend::work::remove_all`: what is done, with the revolutions left on the rest, is the removal over all nodes. Assumes nothing.
use mathlib.Core.Path.{◌≡◌}
use mathlib.Core.List.{◌++◌}
use Prim.Native.Nat.{◌-◌, ◌/◌, ◌<◌, ◌≤◌}
use borrow.Rule.Slice.PartMut.{mid_of}
use lib.Ieee.{nan}
use lib.ListN.{length, take, drop, get_or}
use Rattle.detrend.specs.Revolutions.{windows_of, removed_of}
use Rattle.detrend.proofs.work.remove_all.Given as goal

abbrev pub invariant-loop-k : goal.invariant-loop-k
invariant-loop-k l =
    let n = length l.initial.s / 8 in
    let times = take n l.initial.s in
    (0 < l.k) × (l.k ≤ length l.nodes) × (l.first ≤ n) × (length l.s ≡ length l.initial.s) × (take n l.s ≡ times)
    × (take l.first (mid_of n n l.s) ++ windows_of (get_or l.nodes (l.k - 1) nan) (drop l.k l.nodes) (drop l.first times) (drop l.first (mid_of n n l.s))
    ≡ removed_of l.nodes times (mid_of n n l.initial.s))
