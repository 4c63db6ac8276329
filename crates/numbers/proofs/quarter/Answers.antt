-- `numbers::quarter` meets its contract. Assumes nothing.
use Rattle.std.proofs.Common.{◌≡◌, ℤ, SFits, pos, ◌+ℤ◌, lit<, w64, to_z, of_z}
use mir.ValLaws.{to_z-of_z, sfits_le}
use lib.Signed.{rem_z, mag_rem}
use Rattle.numbers.proofs.SignedHalves.{Plain, quot_fits, plain, Lifted, lifted}
use Rattle.numbers.proofs.quarter.Goals.{Else-m-lt0, Then-m-lt0}
use Rattle.numbers.proofs.quarter.Goals as goal

read : (k : ℤ) → SFits w64 k → to_z w64 (of_z w64 k) ≡ k
read k f = to_z-of_z w64 k f

read-rem : (k : ℤ) → SFits w64 k → to_z w64 (of_z w64 (rem_z k (pos 4))) ≡ rem_z k (pos 4)
read-rem k f = to_z-of_z w64 (rem_z k (pos 4)) (sfits_le (mag_rem k (pos 4)) f)

below : (c : Then-m-lt0) → Lifted c.args.k (rem_z c.args.k (pos 4))
below c = lifted c.args.k (rw (read c.args.k c.ranges.k, read-rem c.args.k c.ranges.k) at c.if-m-lt0.true)

above : (c : Else-m-lt0) → Plain c.args.k (rem_z c.args.k (pos 4))
above c = plain c.args.k (rw (read c.args.k c.ranges.k, read-rem c.args.k c.ranges.k) at c.if-m-lt0.false)

pub nonzero_rem-m : goal.nonzero_rem-m
nonzero_rem-m c = (lit< tt, rw (read c.args.k c.ranges.k) (quot_fits c.args.k c.ranges.k))

pub overflow_add-result : goal.overflow_add-result
overflow_add-result c = rw (read c.args.k c.ranges.k, read-rem c.args.k c.ranges.k) (below c).sum

pub overflow_cast-result : goal.overflow_cast-result
overflow_cast-result c = rw (read c.args.k c.ranges.k, read-rem c.args.k c.ranges.k, to_z-of_z w64 (rem_z c.args.k (pos 4) +ℤ pos 4) (below c).sum) ((below c).then.sign, (below c).then.fit)

pub overflow_cast-result-else-m-lt0 : goal.overflow_cast-result-else-m-lt0
overflow_cast-result-else-m-lt0 c = rw (read c.args.k c.ranges.k, read-rem c.args.k c.ranges.k) ((above c).sign, (above c).fit)

pub returns-then-m-lt0 : goal.returns-then-m-lt0
returns-then-m-lt0 c = rw (read c.args.k c.ranges.k, read-rem c.args.k c.ranges.k, to_z-of_z w64 (rem_z c.args.k (pos 4) +ℤ pos 4) (below c).sum) (below c).then.right

pub returns-else-m-lt0 : goal.returns-else-m-lt0
returns-else-m-lt0 c = rw (read c.args.k c.ranges.k, read-rem c.args.k c.ranges.k) (above c).right
