-- The public call `remove_per_revolution` over a list of records (document 01, module 6, "Outcomes" and "Bounds"): which refusal, the work, what is left
-- behind. Of a record only its residual is an output. Assumes nothing.
use Rattle.std.specs.Prelude.{ℕ, ◌/◌, Bool, true, false, List, [], ◌∷◌, leb, Float, length, Ok, Err}
use Rattle.std.specs.Float.Ieee.Scale.{finite}
use Rattle.std.specs.List.{list_all}
use Rattle.laws.specs.Checks.{is_time, rising}
use Rattle.laws.specs.Loops.{cleared}
use Rattle.slices.specs.Calls.{Verdict, accepted, first_failed}
use Rattle.slices.specs.declared.refusal.Refusal.TheVariants.{Count, Length, Value, Order, NotFinite}
use Rattle.epoch_record.specs.EpochRecord.{times_of, residuals_of, epoch_fits, put_back}
use Rattle.epoch_record.specs.declared.Epoch.{Epoch}
use Rattle.detrend.specs.Revolutions.{removed_of}

-- room is the length of the scratch, of which 8 numbers a record are needed
unfoldable pub remove_refusal : List Epoch → List Float → ℕ → Verdict
remove_refusal es ns room =
    first_failed
    ((leb (length es) 100000, Count)
    ∷ (leb (length ns) 64, Count)
    ∷ (leb (length es) (room / 8), Length)
    ∷ (list_all epoch_fits es, Value)
    ∷ (list_all is_time ns, Value)
    ∷ (rising (times_of es), Order)
    ∷ (rising ns, Order)
    ∷ [])

-- what the call returned, and what stands in the records and in the scratch
pub record LeftRecords : Type 0 where
  pub answer : Verdict
  pub epochs : List Epoch
  pub scratch : List Float

abbrev pub left_records : Verdict → List Epoch → List Float → LeftRecords
left_records r es s = record { answer = r; epochs = es; scratch = s }

-- the residuals to be handed out, each in its record: all finite, or +0.0 in every record
abbrev pub handed_by : Bool → List Float → List Epoch → List Float → LeftRecords
handed_by true new es s = left_records accepted (put_back es new) (cleared s)
handed_by false new es s = left_records (Err NotFinite) (put_back es (cleared new)) (cleared s)

-- the residuals with each revolution's fit removed
abbrev pub detrended_residuals : List Epoch → List Float → List Float
detrended_residuals es ns = removed_of ns (times_of es) (residuals_of es)

unfoldable pub handed_records : List Epoch → List Float → List Float → LeftRecords
handed_records es ns s = handed_by (list_all finite (detrended_residuals es ns)) (detrended_residuals es ns) es s

abbrev pub unless_refused : Verdict → List Epoch → List Float → List Float → LeftRecords
unless_refused (Ok _) es ns s = handed_records es ns s
unless_refused (Err e) es ns s = left_records (Err e) es s

unfoldable pub remove_call : List Epoch → List Float → List Float → LeftRecords
remove_call es ns s = unless_refused (remove_refusal es ns (length s)) es ns s
