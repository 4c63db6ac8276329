-- What the two calls refuse, answer and leave behind (document 01, module 5 and "Outcomes"). Assumes nothing.
use Rattle.std.specs.Prelude.{ℕ, Bool, true, false, cond, ◌&&◌, List, [], map, leb, eqb, Float, length, replicate, Option, Some, None, Result, Ok, Err}
use Rattle.std.specs.Float.Ieee.Scale.{finite}
use Rattle.laws.specs.Floats.{zero64}
use Rattle.std.specs.List.{list_all}
use Rattle.laws.specs.Checks.{is_time, rising, degree_fine}
use Rattle.laws.specs.Loops.{cleared, filled_up}
use Rattle.slices.specs.Calls.{Left, left, Verdict, accepted}
use Rattle.slices.specs.declared.refusal.Refusal.{Refusal}
use Rattle.slices.specs.declared.refusal.Refusal.TheVariants.{NotFinite}
use Rattle.finality.specs.Sheet.{Observation, kept_of}
use Rattle.inputs.specs.Inputs.{first_of, scratch_fits, Observed, Inputs, inputs_counted}
use Rattle.inputs.specs.Inputs.{inputs_fit, inputs_fine, inputs_rise}
use Rattle.epoch_record.specs.declared.Epoch.{Epoch}
use Rattle.residuals.specs.Inputs.{epoch_of}
use Rattle.epoch.specs.Kept.{observations_in}

-- ---- refusals before the work

-- of one epoch at t with an observed value v
unfoldable pub epoch_refusal : Inputs → Float → Float → ℕ → Verdict
epoch_refusal inp t v scratch =
    first_of (degree_fine inp.model.fixed.degree) (inputs_counted inp)
    (inputs_fit inp && scratch_fits inp.model.fixed.degree (length inp.model.fields.field_times) 0 scratch)
    (inputs_fine inp && (is_time t && finite v)) (inputs_rise inp) accepted

-- ---- one epoch

-- every number of a record
unfoldable pub epoch_finite : Epoch → Bool
epoch_finite e = finite e.t && (finite e.residual && (list_all finite e.terms && (list_all finite e.mid && list_all finite e.vel)))

-- whether it is kept, and its record; refused where a number of the record is not finite
abbrev pub EpochAnswer : Type 0
EpochAnswer = Result (Option Epoch) Refusal

abbrev pub answered : Option Epoch → EpochAnswer
answered None = Ok None
answered (Some e) = cond (epoch_finite e) (Ok (Some e)) (Err NotFinite)

-- refused before the work: scratch is as it was; else it is cleared
abbrev pub epoch_left : Verdict → Option Epoch → List Float → Left EpochAnswer
epoch_left (Err r) e scratch = left (Err r) [] scratch
epoch_left (Ok _) e scratch = left (answered e) [] (cleared scratch)

-- from the epoch that is kept, or none
abbrev pub epoch_from : Option Epoch → Inputs → Observation → List Float → Left EpochAnswer
epoch_from e inp o scratch = epoch_left (epoch_refusal inp o.at o.observed (length scratch)) e scratch

-- `epoch`
abbrev pub epoch_call : Inputs → Observation → List Float → Left EpochAnswer
epoch_call inp o scratch = epoch_from (epoch_of inp o) inp o scratch

-- ---- all epochs

-- one number for each of m observations; so many places in each output
unfoldable pub samples_fit : ℕ → ℕ → ℕ → ℕ → ℕ → ℕ → ℕ → ℕ → Bool
samples_fit m values good times residuals terms mids vels =
    (eqb values m && eqb good m) && ((eqb times m && eqb residuals m) && (eqb terms m && (eqb mids m && eqb vels m)))

-- the five outputs: times, residuals, terms, midpoints, velocities
pub record EpochColumns : Type 0 where
  pub times : List Float
  pub residuals : List Float
  pub terms : List (List Float)
  pub mids : List (List Float)
  pub vels : List (List Float)

abbrev pub epoch_columns : List Float → List Float → List (List Float) → List (List Float) → List (List Float) → EpochColumns
epoch_columns times residuals terms mids vels = record { times = times; residuals = residuals; terms = terms; mids = mids; vels = vels }

abbrev pub outputs_fit : Observed → EpochColumns → Bool
outputs_fit obs outs =
    samples_fit (length obs.obs_times) (length obs.values) (length obs.good) (length outs.times) (length outs.residuals) (length outs.terms)
    (length outs.mids) (length outs.vels)

-- `samples`: whether the observations' lists and the outputs fit
unfoldable pub residuals_refusal : Inputs → Observed → Bool → ℕ → Verdict
residuals_refusal inp obs samples scratch =
    first_of (degree_fine inp.model.fixed.degree) (inputs_counted inp && leb (length obs.obs_times) 100000)
    ((inputs_fit inp && scratch_fits inp.model.fixed.degree (length inp.model.fields.field_times) (length obs.obs_times) scratch) && samples)
    (inputs_fine inp && (list_all is_time obs.obs_times && list_all finite obs.values))
    (inputs_rise inp && rising obs.obs_times) accepted

-- the records' numbers, +0.0 after the last
unfoldable pub filled_columns : ℕ → List Epoch → EpochColumns
filled_columns m es = record {
  times = filled_up zero64 m (map (λ (e : Epoch). e.t) es);
  residuals = filled_up zero64 m (map (λ (e : Epoch). e.residual) es);
  terms = filled_up (replicate 5 zero64) m (map (λ (e : Epoch). e.terms) es);
  mids = filled_up (replicate 3 zero64) m (map (λ (e : Epoch). e.mid) es);
  vels = filled_up (replicate 3 zero64) m (map (λ (e : Epoch). e.vel) es);
}

pub record ColumnsLeft : Type 0 where
  pub answer : Result ℕ Refusal
  pub outputs : EpochColumns
  pub scratch : List Float

abbrev pub columns_left : Result ℕ Refusal → EpochColumns → List Float → ColumnsLeft
columns_left answer outputs scratch = record { answer = answer; outputs = outputs; scratch = scratch }

-- handed out where every number is finite, else refused and +0.0 everywhere
abbrev pub handed_out : Bool → ℕ → List Epoch → List Float → ColumnsLeft
handed_out true m es scratch = columns_left (Ok (length es)) (filled_columns m es) (cleared scratch)
handed_out false m es scratch = columns_left (Err NotFinite) (filled_columns m []) (cleared scratch)

abbrev pub settled_columns : Verdict → ℕ → List Epoch → EpochColumns → List Float → ColumnsLeft
settled_columns (Err r) m es outs scratch = columns_left (Err r) outs scratch
settled_columns (Ok _) m es outs scratch = handed_out (list_all epoch_finite es) m es scratch

-- the records of the epochs that are kept
abbrev pub kept_from : (Observation → Option Epoch) → Observed → List Epoch
kept_from epoch obs = kept_of epoch (observations_in obs)

unfoldable pub kept_in : Inputs → Observed → List Epoch
kept_in inp obs = kept_from (epoch_of inp) obs

-- from the epochs that are kept
abbrev pub residuals_from : List Epoch → Inputs → Observed → EpochColumns → List Float → ColumnsLeft
residuals_from es inp obs outs scratch =
    settled_columns (residuals_refusal inp obs (outputs_fit obs outs) (length scratch)) (length obs.obs_times) es outs scratch

-- `residuals`
abbrev pub residuals_call : Inputs → Observed → EpochColumns → List Float → ColumnsLeft
residuals_call inp obs outs scratch = residuals_from (kept_in inp obs) inp obs outs scratch
