-- What the steps of detrending a list of records do to it and to the scratch (document 01, module 6). Assumes nothing.
use Rattle.std.specs.Prelude.{ℕ, ◌+◌, ◌-◌, Bool, true, false, List, ◌++◌, Float, length, take, drop, replicate, Err}
use Rattle.std.specs.Float.Ieee.Scale.{finite}
use borrow.Rule.Slice.PartMut.{mid_of}
use Rattle.std.specs.List.{list_all}
use Rattle.laws.specs.Floats.{zero64}
use Rattle.laws.specs.Loops.{cleared}
use Rattle.slices.specs.Calls.{Verdict, accepted}
use Rattle.slices.specs.declared.refusal.Refusal.TheVariants.{NotFinite}
use Rattle.epoch_record.specs.EpochRecord.{times_of, residuals_of}
use Rattle.epoch_record.specs.declared.Epoch.{Epoch}
use Rattle.detrend.specs.Revolutions.{removed_of}

-- the times and residuals of the records at the head of w
unfoldable pub read_into : List Epoch → List Float → List Float
read_into es w = times_of es ++ (residuals_of es ++ drop (length es + length es) w)

-- what is answered, and what stands in the work area
pub record Settled : Type 0 where
  pub answer : Verdict
  pub work : List Float

-- the n numbers at the head of a work area, +0.0 behind them, or +0.0 throughout where one is not finite
abbrev pub settled_by : Bool → List Float → List Float → Settled
settled_by true new w = record { answer = accepted; work = new ++ replicate (length w - length new) zero64 }
settled_by false new w = record { answer = Err NotFinite; work = cleared w }

-- the values that stand behind n times, with each revolution's fit removed
abbrev pub values_of : List Float → ℕ → List Float → List Float
values_of ns n w = removed_of ns (take n w) (mid_of n n w)

unfoldable pub settled_of : List Float → ℕ → List Float → Settled
settled_of ns n w = settled_by (list_all finite (values_of ns n w)) (values_of ns n w) w
