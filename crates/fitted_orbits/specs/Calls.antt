-- The public call `fitted_orbits` (document 01, "Outcomes" and "Bounds"): which refusal, the work, what is left. Assumes nothing.
use Rattle.std.specs.Prelude.{ℕ, ◌-◌, ◌*◌, Bool, true, false, ◌&&◌, List, [], map, leb, eqb, ℤ, pos, Float, length, Result, Ok, Err}
use Rattle.std.specs.Float.Ieee.Scale.{finite}
use Rattle.laws.specs.Floats.{zero64}
use Rattle.std.specs.List.{list_all}
use Rattle.laws.specs.Checks.{is_time, rising, rising_seconds, degree_fine}
use Rattle.laws.specs.Loops.{cleared, filled_up}
use Rattle.inputs.specs.Inputs.{Model, first_of, fields_fine, few, model_sized, whole_scratch_fits, model_fine, rows_fine, Keyed}
use Rattle.vectors.specs.declared.Vector.{Vector}
use Rattle.finality.specs.Tables.{key_of}
use Rattle.finality.specs.Brackets.{covers}
use Rattle.integrate.specs.Force.{full_force}
use Rattle.fit.specs.Fit.{state_for}
use Rattle.slices.specs.Calls.{Verdict, accepted}
use Rattle.slices.specs.declared.refusal.Refusal.{Refusal}
use Rattle.slices.specs.declared.refusal.Refusal.TheVariants.{NotFinite}
use Rattle.fitted_orbits.specs.declared.work.Done.{Done}
use Rattle.fitted_orbits.specs.Orbits.{Window, window_fit, between, joined, numbers_of}

-- ---- the arguments

-- what the call is lent: the model, the states by key, the nodes
pub record Given : Type 0 where
  pub model : Model
  pub states : Keyed
  pub nodes : List Float

abbrev pub given : Model → Keyed → List Float → Given
given model states nodes = record { model = model; states = states; nodes = nodes }

-- its outputs
pub record Outputs : Type 0 where
  pub keys : List ℤ
  pub states : List Float
  pub rms : List Float

abbrev pub outputs : List ℤ → List Float → List Float → Outputs
outputs keys states rms = record { keys = keys; states = states; rms = rms }

-- ---- which refusal

-- for n nodes: 3,500 keys, six numbers beside each, and one rms for each pair of neighbours
unfoldable pub places_fit : ℕ → ℕ → ℕ → ℕ → Bool
places_fit n keys states rms = leb n 64 && (eqb keys (3500 * (n - 1)) && (eqb states (6 * (3500 * (n - 1))) && eqb rms (n - 1)))

abbrev pub lengths_fit : Given → Outputs → ℕ → Bool
lengths_fit g o scratch =
    (model_sized g.model && eqb (length g.states.values) (6 * length g.states.keys))
    && (places_fit (length g.nodes) (length o.keys) (length o.states) (length o.rms)
    && whole_scratch_fits g.model.fixed.degree (length g.model.fields.field_times) (length g.nodes) 0 scratch)

-- fit: whether all lengths do
unfoldable pub refusal : Given → Bool → Verdict
refusal g fit =
    first_of (degree_fine g.model.fixed.degree)
    ((fields_fine (length g.model.fields.field_times) && few (length g.states.keys)) && leb (length g.nodes) 64)
    fit
    (model_fine g.model && (rows_fine g.states && list_all is_time g.nodes))
    (rising g.model.fields.field_times && (rising_seconds g.states.keys && rising g.nodes)) accepted

-- ---- the work

-- a window fitted by a full attraction, and by that of the model
abbrev pub window_under : (Float → Vector → Vector) → Model → Keyed → Float → Float → List Window
window_under full M states = window_fit (covers M.fields.field_times) full (state_for states)

abbrev pub fitted_between : Model → Keyed → Float → Float → List Window
fitted_between M = window_under (full_force M) M

-- the windows fitted by a full attraction
abbrev pub windows_by : (Float → Vector → Vector) → Given → List Window
windows_by full g = between (window_under full g.model g.states) g.nodes

unfoldable pub fitted_windows : Given → List Window
fitted_windows g = windows_by (full_force g.model) g

-- ---- what is left

-- for k pairs of neighbouring nodes: the seconds of all states, their numbers, and the rms of each window, 0 and +0.0 after the last
unfoldable pub listed : ℕ → List Window → Outputs
listed k ws = outputs (filled_up (pos 0) (3500 * k) (map key_of (joined ws))) (filled_up zero64 (6 * (3500 * k)) (numbers_of (joined ws)))
    (filled_up zero64 k (map (λ (w : Window). w.0) ws))

pub record Left : Type 0 where
  pub answer : Result Done Refusal
  pub outputs : Outputs
  pub scratch : List Float

abbrev pub left : Result Done Refusal → Outputs → List Float → Left
left answer o scratch = record { answer = answer; outputs = o; scratch = scratch }

-- handed out where every number is finite, else refused and zeros everywhere
abbrev pub handed : Bool → ℕ → List Window → List Float → Left
handed true k ws scratch = left (Ok (record { states = length (joined ws); windows = length ws })) (listed k ws) (cleared scratch)
handed false k ws scratch = left (Err NotFinite) (listed k []) (cleared scratch)

-- a refusal before the work, with all unchanged; else what is handed out
abbrev pub settled : Verdict → ℕ → List Window → Outputs → List Float → Left
settled (Err e) k ws o scratch = left (Err e) o scratch
settled (Ok _) k ws o scratch = handed (list_all finite (listed k ws).states && list_all finite (listed k ws).rms) k ws scratch

-- of windows that were fitted
abbrev pub orbits_from : List Window → Given → Outputs → List Float → Left
orbits_from windows g o scratch = settled (refusal g (lengths_fit g o (length scratch))) (length g.nodes - 1) windows o scratch

-- `fitted_orbits`
abbrev pub orbits_call : Given → Outputs → List Float → Left
orbits_call g o scratch = orbits_from (fitted_windows g) g o scratch
