-- `residuals::filling::fill_from`: after i observations the records kept among them are listed, counted and judged finite, and the lengths stay. Assumes nothing.
use mathlib.Core.Path.{◌≡◌}
use Rattle.std.specs.Prelude.{Some}
use Prim.Native.Nat.{◌≤◌, ◌-◌}
use lib.ListN.{length}
use Rattle.inputs.specs.Lent.{inputs_of, observed_of}
use Rattle.residuals.specs.Calls.{epoch_columns}
use Rattle.residuals.specs.Filling.{SoFar}
use Rattle.residuals.proofs.filling.fill_from.Given as goal

abbrev pub invariant-loop-i : goal.invariant-loop-i
invariant-loop-i l =
    (l.i ≤ length l.samples.observed.times.now) × (length l.outtimes ≡ length l.initial.outtimes) × (length l.outresiduals ≡ length l.initial.outresiduals)
    × (length l.outterms ≡ length l.initial.outterms) × (length l.outmids ≡ length l.initial.outmids)
    × (length l.outvels ≡ length l.initial.outvels) × (length l.w ≡ length l.initial.w)
    × SoFar (inputs_of l.rows.inputs) (observed_of l.samples.observed) l.base l.i (Some l.count)
    (epoch_columns l.outtimes l.outresiduals l.outterms l.outmids l.outvels) l.w

abbrev pub decreases-loop-i : goal.decreases-loop-i
decreases-loop-i l =
    length l.samples.observed.times.now - l.i
