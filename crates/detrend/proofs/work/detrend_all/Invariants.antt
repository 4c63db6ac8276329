-- `detrend::work::detrend_all`: the ranges from k on, applied to what stands there, give what all ranges give. Assumes nothing.
use mathlib.Core.Path.{◌≡◌}
use mathlib.Core.Bool.{true}
use Prim.Native.Nat.{◌/◌, ◌≤◌}
use borrow.Rule.Slice.PartMut.{mid_of}
use lib.ListN.{length, take, drop}
use Rattle.detrend.specs.Revolutions.{detrended_of}
use Rattle.detrend.specs.Ranges.{ranges_fit}
use Rattle.detrend.proofs.work.detrend_all.Given as goal

abbrev pub invariant-loop-k : goal.invariant-loop-k
invariant-loop-k l =
    let n = length l.initial.s / 8 in
    let firsts = l.parts.firsts.now in
    let ends = l.parts.ends.now in
    let starts = l.parts.starts.now in
    let periods = l.parts.periods.now in
    let times = take n l.initial.s in
    (l.k ≤ length firsts) × (length l.s ≡ length l.initial.s) × (take n l.s ≡ times) × (ranges_fit (drop l.k firsts) (drop l.k ends) n ≡ true)
    × (detrended_of (drop l.k firsts) (drop l.k ends) (drop l.k starts) (drop l.k periods) times (mid_of n n l.s)
    ≡ detrended_of firsts ends starts periods times (mid_of n n l.initial.s))
