-- After i records, i times and i residuals are written: the loop's invariant. Assumes nothing.
use Rattle.std.proofs.Common.{◌≡◌, ◌≤◌, length}
use Rattle.record_detrending.proofs.Reading.{reading}
use Rattle.record_detrending.proofs.read.Given as goal

abbrev pub invariant-loop-i : goal.invariant-loop-i
invariant-loop-i l = (l.i ≤ length l.epochs) × (l.work ≡ reading l.epochs l.initial.work l.i)
