-- `kept_epochs::gather_from`: after i observations the kept ones among them are listed and counted, and only the front of the work slice has changed. Assumes nothing.
use Prim.Native.Nat.{◌≤◌, ◌-◌}
use lib.ListN.{length}
use Rattle.kept_epochs.specs.Lent.{given_of}
use Rattle.kept_epochs.specs.KeptEpochs.{SoFar}
use Rattle.kept_epochs.proofs.gather_from.Given as goal

abbrev pub invariant-loop-i : goal.invariant-loop-i
invariant-loop-i l =
    (l.i ≤ length l.given.observed.times.now) × SoFar (given_of l.given) l.base l.i l.initial.s l.outtimes l.outraws l.s l.count

abbrev pub decreases-loop-i : goal.decreases-loop-i
decreases-loop-i l =
    length l.given.observed.times.now - l.i
