-- The whole path as a call (document 01, module 8, "Outcomes" and "Bounds"): which refusal, what is published, what is left behind. Assumes nothing.
use Rattle.std.specs.Prelude.{◌≡◌, ℕ, Bool, ◌&&◌, List, leb, eqb, Float, length, Result, Ok}
use Rattle.std.specs.Float.Ieee.Scale.{finite}
use Rattle.std.specs.List.{list_all}
use Rattle.laws.specs.Checks.{is_time, rising, degree_fine}
use Rattle.slices.specs.Calls.{Left, settled, Verdict, accepted}
use Rattle.slices.specs.declared.refusal.Refusal.{Refusal}
use Rattle.finality.specs.Sheet.{sheet, kept, final}
use Rattle.inputs.specs.Inputs.{Fixed, Lists, first_of, inputs_in, inputs_counted, inputs_fit, inputs_fine, inputs_rise, whole_scratch_fits}
use Rattle.vectors.specs.declared.Vector.{Vector}
use Rattle.windows.specs.Stage.{field_gravity}
use Rattle.sheet.specs.Submission.{stages_by, submission_by}
use Rattle.sheet.specs.declared.Counts.{Counts}

-- ---- which refusal

unfoldable pub lists_counted : Fixed → Lists → Bool
lists_counted F l = inputs_counted (inputs_in F l) && (leb (length l.tracks.nodes) 64 && leb (length l.tracks.observed.obs_times) 100000)

-- a value and a byte for each observation, and the outputs as long, as `outputs` says
unfoldable pub lists_fit : Fixed → Lists → Bool → ℕ → Bool
lists_fit F l outputs room =
    let obs = l.tracks.observed in
    let m = length obs.obs_times in
    inputs_fit (inputs_in F l)
    && (((eqb (length obs.values) m && eqb (length obs.good) m) && outputs)
    && whole_scratch_fits F.degree (length l.fields.field_times) (length l.tracks.nodes) m room)

unfoldable pub lists_fine : Fixed → Lists → Bool
lists_fine F l =
    inputs_fine (inputs_in F l)
    && (list_all is_time l.tracks.nodes && (list_all is_time l.tracks.observed.obs_times && list_all finite l.tracks.observed.values))

unfoldable pub lists_rise : Fixed → Lists → Bool
lists_rise F l = inputs_rise (inputs_in F l) && (rising l.tracks.nodes && rising l.tracks.observed.obs_times)

unfoldable pub refusal_of : Fixed → Lists → Bool → ℕ → Verdict
refusal_of F l outputs room =
    first_of (degree_fine F.degree) (lists_counted F l) (lists_fit F l outputs room) (lists_fine F l) (lists_rise F l) accepted

-- a place for each observation in each output
abbrev pub places_fit : Lists → List (List Float) → Bool
places_fit l outputs = list_all (λ (o : List Float). eqb (length o) (length l.tracks.observed.obs_times)) outputs

abbrev pub sheet_refusal : Fixed → Lists → List (List Float) → ℕ → Verdict
sheet_refusal S l outputs room = refusal_of S l (places_fit l outputs) room

-- ---- what is published: for each kept epoch its time, raw residual, detrended residual and passed value, +0.0 after the last

-- with a field's gravity
abbrev pub columns_by : (List Float → Vector → Vector) → Fixed → Lists → List (List Float)
columns_by gravity S l = sheet (stages_by gravity S) (submission_by gravity S l)

unfoldable pub columns_of : Fixed → Lists → List (List Float)
columns_of S l = columns_by (field_gravity S) S l

-- how many epochs are kept, and how many of them are final
abbrev pub kept_by : (List Float → Vector → Vector) → Fixed → Lists → ℕ
kept_by gravity S l = length (kept (stages_by gravity S) (submission_by gravity S l))

unfoldable pub kept_count : Fixed → Lists → ℕ
kept_count S l = kept_by (field_gravity S) S l

abbrev pub final_by : (List Float → Vector → Vector) → Fixed → Lists → ℕ
final_by gravity S l = final (stages_by gravity S) (submission_by gravity S l)

unfoldable pub final_count : Fixed → Lists → ℕ
final_count S l = final_by (field_gravity S) S l

-- ---- what the work leaves: all epochs that are kept, and the columns
pub record Worked (S : Fixed) (l : Lists) (kept : ℕ) (columns : List (List Float)) (s s' : List Float) : Type 0 where
  pub count : kept ≡ kept_count S l
  pub columns_are : columns ≡ columns_of S l
  pub long : length s' ≡ length s

-- ---- the call; its outputs are the columns, in this order
abbrev pub sheet_call : Fixed → Lists → List (List Float) → List Float → Left (Result Counts Refusal)
sheet_call S l outputs scratch =
    settled (sheet_refusal S l outputs (length scratch)) (Ok (record { kept = kept_count S l; finals = final_count S l })) (columns_of S l) outputs scratch
