-- `detrend::work::fill_rows`: after i times the work area has their rows from `to` on and is unchanged elsewhere. Assumes nothing.
use mathlib.Core.Path.{◌≡◌}
use Prim.Native.Nat.{◌*◌, ◌≤◌}
use borrow.Rule.Slice.PartMut.{mid_of, put_mid}
use lib.ListN.{length}
use Rattle.detrend.specs.Fit.{rows_of}
use Rattle.detrend.proofs.work.fill_rows.Given as goal

abbrev pub invariant-loop-i : goal.invariant-loop-i
invariant-loop-i l =
    (l.i ≤ l.count) × (length l.s ≡ length l.initial.s) × (l.s ≡ put_mid l.to (6 * l.i) l.initial.s (rows_of l.start l.period (mid_of l.from l.i l.initial.s)))
