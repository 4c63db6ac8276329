-- `detrend::work::detrend_all`: the ranges from k on, applied to what stands there, give what all ranges give. Assumes nothing.
use borrow.Author.Rules.{rules}
use mathlib.Core.Path.{◌≡◌}
use Prim.Native.Nat.{◌/◌}
use lib.ListN.{length}
use native.Mathlib.Omega.{arith}
use Rattle.detrend.proofs.Ranges.{range_low, range_sum, range_next, ranges_turn, ranges_times, ranges_all}
use Rattle.detrend.proofs.work.detrend_all.Goals as goal

pub overflow_sub-count : goal.overflow_sub-count
overflow_sub-count c = search (rules, range_low)

pub detrend_part-requires : goal.detrend_part-requires
detrend_part-requires c =
    let same : length c.loop-k.s / 8 ≡ length c.args.s.now / 8 = omega arith in
    rw same (search (rules, range_sum))

pub loop-k-preserved : goal.loop-k-preserved
loop-k-preserved c =
    let same : length c.loop-k.s / 8 ≡ length c.args.s.now / 8 = omega arith in
    let here = rw same at c.detrend_part.ensures in
    (omega arith, search rules, search (rules, ranges_times), search (rules, range_next), search (rules, ranges_turn))

pub returns : goal.returns
returns c = search (rules, ranges_all)
