-- `detrend::work::subtract_fit`: the first i values are less their fit, the others unchanged. Assumes nothing.
use mathlib.Core.Path.{◌≡◌}
use Prim.Native.Nat.{◌*◌, ◌≤◌}
use borrow.Rule.Slice.PartMut.{mid_of, put_mid}
use lib.ListN.{length, take}
use Rattle.detrend.specs.Work.{less_rows}
use Rattle.detrend.proofs.work.subtract_fit.Given as goal

abbrev pub invariant-loop-i : goal.invariant-loop-i
invariant-loop-i l =
    (l.i ≤ l.count) × (length l.s ≡ length l.initial.s)
    × (l.s ≡ put_mid l.from l.i l.initial.s (take l.i (less_rows l.beta (mid_of l.rows (6 * l.count) l.initial.s) (mid_of l.from l.count l.initial.s))))
