-- `numbers::halved` meets its contract. Assumes nothing.
use Rattle.std.proofs.Common.{◌≡◌, ℤ, SFits, pos, ◌+ℤ◌, ◌-ℤ◌, lit<, w64, to_z, of_z}
use mir.ValLaws.{to_z-of_z}
use lib.Signed.{quot_z}
use Rattle.numbers.proofs.SignedHalves.{Down, down, Up, up}
use Rattle.numbers.proofs.halved.Goals.{Else-h-lt0, Then-h-lt0}
use Rattle.numbers.proofs.halved.Goals as goal

read : (h : ℤ) → SFits w64 h → to_z w64 (of_z w64 h) ≡ h
read h f = to_z-of_z w64 h f

below : (c : Then-h-lt0) → Down c.args.h
below c = down c.args.h c.requires (rw (read c.args.h c.ranges.h) at c.if-h-lt0.true)

above : (c : Else-h-lt0) → Up c.args.h
above c = up c.args.h c.requires (rw (read c.args.h c.ranges.h) at c.if-h-lt0.false)

pub overflow_sub-result : goal.overflow_sub-result
overflow_sub-result c = rw (read c.args.h c.ranges.h) (below c).less

pub nonzero_div-result : goal.nonzero_div-result
nonzero_div-result c = (lit< tt, rw (read c.args.h c.ranges.h, to_z-of_z w64 (c.args.h -ℤ pos 1) (below c).less) (below c).half)

pub overflow_add-result : goal.overflow_add-result
overflow_add-result c = rw (read c.args.h c.ranges.h) (above c).more

pub nonzero_div-result-else-h-lt0 : goal.nonzero_div-result-else-h-lt0
nonzero_div-result-else-h-lt0 c = (lit< tt, rw (read c.args.h c.ranges.h, to_z-of_z w64 (c.args.h +ℤ pos 1) (above c).more) (above c).half)

pub returns-then-h-lt0 : goal.returns-then-h-lt0
returns-then-h-lt0 c = rw (read c.args.h c.ranges.h, to_z-of_z w64 (c.args.h -ℤ pos 1) (below c).less, to_z-of_z w64 (quot_z (c.args.h -ℤ pos 1) (pos 2)) (below c).half) (below c).right

pub returns-else-h-lt0 : goal.returns-else-h-lt0
returns-else-h-lt0 c = rw (read c.args.h c.ranges.h, to_z-of_z w64 (c.args.h +ℤ pos 1) (above c).more, to_z-of_z w64 (quot_z (c.args.h +ℤ pos 1) (pos 2)) (above c).half) (above c).right
