-- After i records, i of them have their residuals: the loop's invariant. Assumes nothing.
use Rattle.std.proofs.Common.{◌≡◌, ◌≤◌, length}
use Rattle.record_detrending.proofs.PuttingBack.{put_upto}
use Rattle.record_detrending.proofs.put_back.Given as goal

abbrev pub invariant-loop-i : goal.invariant-loop-i
invariant-loop-i l = (l.i ≤ length l.initial.epochs) × (l.epochs ≡ put_upto l.initial.epochs l.values l.i)
