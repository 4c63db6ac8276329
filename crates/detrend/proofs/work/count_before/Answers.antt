use Rattle.std.proofs.Common.{rules}
use lib.Ieee.{Float, lt}
use Rattle.std.proofs.lemmas.List.Sorted.{IsPartitionPoint-from_clause}
use Rattle.detrend.proofs.Listing.{in_front, divided}
use Rattle.detrend.proofs.work.count_before.Goals as goal

pub returns : goal.returns
returns c =
    let bound = c.partition_point.ensures.bound in
    let parted = IsPartitionPoint-from_clause (λ (t : Float). lt t c.args.b) c.args.times.now c.partition_point.result
    c.partition_point.ensures.partitioned (in_front c.args.b c.args.times.now c.requires) (λ a r f k. search rules) in
    (divided c.args.b c.args.times.now c.partition_point.result c.requires bound parted, bound)
