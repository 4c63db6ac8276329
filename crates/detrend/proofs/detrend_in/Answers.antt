use Rattle.std.proofs.Common.{◌≡◌, ◌∙◌, ◌*◌, ◌-◌, length, rules, arith}
use borrow.Rule.Slice.PartMut.{mid_of}
use Rattle.detrend.proofs.PartsInPlace.{length_mid}
use Rattle.detrend.proofs.Ranges.{detrended_in_law}
use Rattle.detrend.proofs.detrend_in.Goals as goal

pub returns : goal.returns
returns c =
    let n = length c.args.times.now in
    let area = mid_of 0 (8 * n - 0) c.args.scratch.now in
    let room : length area ≡ 8 * n = length_mid 0 (8 * n - 0) c.args.scratch.now (omega arith) ∙ omega arith in
    search (rules, detrended_in_law)
