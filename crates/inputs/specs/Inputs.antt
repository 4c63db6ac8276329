-- What the calls of modules 3 to 5 and the whole path are lent, as records of three parts, and what is tested of it (document 01, "Outcomes" and "Bounds").
-- Assumes nothing.
use Rattle.std.specs.Prelude.{◌≡◌, ℕ, ◌+◌, ◌-◌, ◌*◌, ◌≤◌, ◌<◌, Bool, ◌&&◌, cond, List, leb, eqb, ℤ, Float, length, Err}
use Rattle.std.specs.Float.Ieee.Scale.{finite}
use Rattle.std.specs.List.{list_all}
use Rattle.laws.specs.Checks.{is_time, is_key, rising, rising_seconds}
use Rattle.laws.specs.Tables.{tri}
use Rattle.slices.specs.Calls.{Verdict}
use Rattle.slices.specs.declared.refusal.Refusal.{Refusal}
use Rattle.slices.specs.declared.refusal.Refusal.TheVariants.{Degree, Count, Length, Value, Order}

-- ---- the inputs, in three parts

-- what is fixed for a record of years: the degree, the static field, the Legendre tables a and b
pub record Fixed : Type 0 where
  pub degree : ℕ
  pub static : List Float
  pub a : List Float
  pub b : List Float

-- what is added to the static field in time: the times of fields, and these end to end
pub record Fields : Type 0 where
  pub field_times : List Float
  pub added : List Float

-- a time-variable model
pub record Model : Type 0 where
  pub fixed : Fixed
  pub fields : Fields

-- whole seconds, and the numbers that belong to them, end to end: six for a state, one for an accelerometer value
pub record Keyed : Type 0 where
  pub keys : List ℤ
  pub values : List Float

-- of the satellites C and D
pub record Pair : Type 0 where
  pub c : Keyed
  pub d : Keyed

-- observed range accelerations: their times, values, and bytes that are 0 when not good
pub record Observed : Type 0 where
  pub obs_times : List Float
  pub values : List Float
  pub good : List ℕ

-- what the residuals of epochs read (the source's `Inputs`): the model, both satellites' states and their accelerometer values
pub record Inputs : Type 0 where
  pub model : Model
  pub states : Pair
  pub accs : Pair

-- a satellite pair's own tracks
pub record Tracks : Type 0 where
  pub states : Pair
  pub accs : Pair
  pub nodes : List Float
  pub observed : Observed

-- the lists of a submission that grow
pub record Lists : Type 0 where
  pub fields : Fields
  pub tracks : Tracks

-- of a submission: its model, and what its residuals read
abbrev pub model_in : Fixed → Lists → Model
model_in F l = record { fixed = F; fields = l.fields }

abbrev pub inputs : Model → Pair → Pair → Inputs
inputs M states accs = record { model = M; states = states; accs = accs }

abbrev pub inputs_in : Fixed → Lists → Inputs
inputs_in F l = inputs (model_in F l) l.tracks.states l.tracks.accs

-- ---- the same of lists one by one

abbrev pub model_with : ℕ → List Float → List Float → List Float → List Float → List Float → Model
model_with N static a b field_times added =
    record { fixed = record { degree = N; static = static; a = a; b = b }; fields = record { field_times = field_times; added = added } }

abbrev pub keyed : List ℤ → List Float → Keyed
keyed keys values = record { keys = keys; values = values }

-- keys and numbers of both satellites
abbrev pub pair_with : List ℤ → List Float → List ℤ → List Float → Pair
pair_with keys_c values_c keys_d values_d = record { c = keyed keys_c values_c; d = keyed keys_d values_d }

abbrev pub observed_with : List Float → List Float → List ℕ → Observed
observed_with obs_times values good = record { obs_times = obs_times; values = values; good = good }

abbrev pub lists : Model → Pair → Pair → List Float → Observed → Lists
lists M states accs nodes obs =
    record { fields = M.fields; tracks = record { states = states; accs = accs; nodes = nodes; observed = obs } }

-- ---- tests

-- what is said of the first of five tests that fails, where `refused` says each refusal; `rest` is what the tests behind them say
abbrev pub first_said : {A : Type 0} → (Refusal → A) → Bool → Bool → Bool → Bool → Bool → A → A
first_said refused degree counts lengths values order rest =
    cond degree (cond counts (cond lengths (cond values (cond order rest (refused Order)) (refused Value)) (refused Length)) (refused Count)) (refused Degree)

abbrev pub first_of : Bool → Bool → Bool → Bool → Bool → Verdict → Verdict
first_of = first_said Err

-- how many coefficients of one kind a field of degree N has, and how many numbers
abbrev pub kind : ℕ → ℕ
kind N = tri (N + 1)

abbrev pub field_size : ℕ → ℕ
field_size N = 2 + 2 * kind N

-- the numbers before the states of a run: the field at one time, and what the degree alone gives
abbrev pub front_size : ℕ → ℕ
front_size N = 8 * kind N

-- the numbers that document 01 asks for the work of one fit, and for each pair of neighbouring nodes, which has a slot for each satellite
abbrev pub fit_room : ℕ
fit_room = 150000

abbrev pub slot_room : ℕ
slot_room = 24600

abbrev pub window_room : ℕ
window_room = 2 * slot_room

-- what `front_size` answers: none for a degree above 180
abbrev pub Front : ℕ → ℕ → Type 0
Front N r = (N ≤ 180 → r ≡ front_size N) × (r ≤ 131768) × (180 < N → r ≡ 0)

-- ---- 1 is `degree_fine`

-- ---- 2: of fields; of the states and accelerometer values of C and D

abbrev pub fields_fine : ℕ → Bool
fields_fine n = leb 2 n && leb n 32

abbrev pub few : ℕ → Bool
few n = leb n 200000

unfoldable pub counts_fine : ℕ → ℕ → ℕ → ℕ → ℕ → Bool
counts_fine fields c d acc_c acc_d = fields_fine fields && ((few c && few d) && (few acc_c && few acc_d))

-- ---- 3: lengths. Each is judged where degree and counts are within their bounds

-- the static field, the added fields end to end, and the Legendre tables
unfoldable pub model_fits : ℕ → ℕ → ℕ → ℕ → ℕ → ℕ → Bool
model_fits N fields field added a b =
    leb N 180 && (leb fields 32 && ((eqb field (field_size N) && eqb added (fields * field_size N)) && (eqb a (kind N) && eqb b (kind N))))

abbrev pub model_sized : Model → Bool
model_sized M =
    model_fits M.fixed.degree (length M.fields.field_times) (length M.fixed.static) (length M.fields.added) (length M.fixed.a)
    (length M.fixed.b)

-- six numbers a state
unfoldable pub states_fit : ℕ → ℕ → Bool
states_fit n values = few n && eqb values (6 * n)

-- of C and D, each with the length of its list of values
unfoldable pub tables_fit : ℕ → ℕ → ℕ → ℕ → ℕ → ℕ → ℕ → ℕ → Bool
tables_fit c cs d ds acc_c accs_c acc_d accs_d = (states_fit c cs && states_fit d ds) && (eqb accs_c acc_c && eqb accs_d acc_d)

-- the least scratch of a call on so many observations
abbrev pub least_scratch : ℕ → ℕ → ℕ → ℕ
least_scratch N fields count = 2 * (fields * kind N) + 8 * kind N + fit_room + 10 * count

unfoldable pub scratch_fits : ℕ → ℕ → ℕ → ℕ → Bool
scratch_fits N fields count scratch = leb N 180 && (leb fields 32 && (leb count 100000 && leb (least_scratch N fields count) scratch))

-- the lengths for a call on the model alone, or of one that fills two lists as long as the tables
unfoldable pub lengths_fit : ℕ → ℕ → ℕ → ℕ → ℕ → ℕ → ℕ → Bool
lengths_fit N fields field added a b scratch = model_fits N fields field added a b && scratch_fits N fields 0 scratch

abbrev pub sizes_fit : Model → ℕ → Bool
sizes_fit M scratch =
    lengths_fit M.fixed.degree (length M.fields.field_times) (length M.fixed.static) (length M.fields.added) (length M.fixed.a)
    (length M.fixed.b) scratch

-- the scratch of the whole path, with 49,200 numbers more for each pair of neighbouring nodes
unfoldable pub whole_scratch_fits : ℕ → ℕ → ℕ → ℕ → ℕ → Bool
whole_scratch_fits N fields nodes count scratch =
    leb N 180 && (leb fields 32 && (leb nodes 64 && (leb count 100000 && leb (least_scratch N fields count + window_room * (nodes - 1)) scratch)))

-- ---- 4: finite numbers, times and keys within their bounds

unfoldable pub model_fine : Model → Bool
model_fine M =
    (list_all finite M.fixed.static && list_all finite M.fields.added) &&
    (list_all is_time M.fields.field_times && (list_all finite M.fixed.a && list_all finite M.fixed.b))

unfoldable pub keyed_fine : List ℤ → List Float → Bool
keyed_fine keys values = list_all is_key keys && list_all finite values

-- ---- 5: strictly rising

unfoldable pub rise : List Float → List ℤ → List ℤ → List ℤ → List ℤ → Bool
rise field_times c d acc_c acc_d = rising field_times && ((rising_seconds c && rising_seconds d) && (rising_seconds acc_c && rising_seconds acc_d))

-- ---- 2 to 5 of what residuals read

abbrev pub inputs_counted : Inputs → Bool
inputs_counted inp =
    counts_fine (length inp.model.fields.field_times) (length inp.states.c.keys) (length inp.states.d.keys)
    (length inp.accs.c.keys) (length inp.accs.d.keys)

abbrev pub inputs_fit : Inputs → Bool
inputs_fit inp =
    model_sized inp.model
    && tables_fit (length inp.states.c.keys) (length inp.states.c.values) (length inp.states.d.keys) (length inp.states.d.values)
    (length inp.accs.c.keys) (length inp.accs.c.values) (length inp.accs.d.keys) (length inp.accs.d.values)

abbrev pub rows_fine : Keyed → Bool
rows_fine l = keyed_fine l.keys l.values

abbrev pub pair_fine : Pair → Bool
pair_fine p = rows_fine p.c && rows_fine p.d

abbrev pub inputs_fine : Inputs → Bool
inputs_fine inp = model_fine inp.model && (pair_fine inp.states && pair_fine inp.accs)

abbrev pub inputs_rise : Inputs → Bool
inputs_rise inp =
    rise inp.model.fields.field_times inp.states.c.keys inp.states.d.keys inp.accs.c.keys inp.accs.d.keys
