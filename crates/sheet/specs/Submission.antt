-- A submission, from the lists that a call is lent: keys beside six numbers a state, keys beside accelerometer values, field times beside the fields
-- end to end, and observations as times, values and bytes that are 0 when not good. Assumes nothing.
use Rattle.std.specs.Prelude.{◌≡◌, ◌*◌, ◌<◌, List, T, length, Float}
use Rattle.inputs.specs.Inputs.{Fixed, Lists, field_size}
use Rattle.finality.specs.Stages.{Stages}
use Rattle.finality.specs.Kernels.{stages_of}
use Rattle.finality.specs.Sheet.{Submission, Begins}
use Rattle.std.specs.List.{list_all}
use Rattle.laws.specs.Checks.{is_time, rising, rising_seconds}
use Rattle.model.specs.Stages.{timed}
use Rattle.vectors.specs.declared.Vector.{Vector}
use Rattle.integrate.specs.RowsBySecond.{states_in, values_in}
use Rattle.windows.specs.Stage.{field_gravity}
use Rattle.epoch.specs.Kept.{observations_in}
use Rattle.sheet.specs.Stages.{kernels_by, kernels}

-- the stages of crate `finality`, by the modules' own work, from a field's gravity
abbrev pub stages_by : (List Float → Vector → Vector) → Fixed → Stages
stages_by gravity S = stages_of (kernels_by gravity S.degree S.static)

abbrev pub stages : Fixed → Stages
stages S = stages_of (kernels S)

abbrev pub submission_by : (gravity : List Float → Vector → Vector) (S : Fixed) → Lists → Submission (stages_by gravity S)
submission_by gravity S l =
    record {
      fields = timed S.degree l.fields.field_times l.fields.added;
      states_c = states_in l.tracks.states.c;
      states_d = states_in l.tracks.states.d;
      acc_c = values_in l.tracks.accs.c;
      acc_d = values_in l.tracks.accs.d;
      nodes = l.tracks.nodes;
      obs = observations_in l.tracks.observed;
    }

abbrev pub submission_of : (S : Fixed) → Lists → Submission (stages S)
submission_of S l = submission_by (field_gravity S) S l

-- what the tests 1 to 5 of the whole path say of its lists, as far as final entries depend on them
pub record Passed (S : Fixed) (l : Lists) : Type 0 where
  pub fields : 1 < length l.fields.field_times
  pub added : length l.fields.added ≡ length l.fields.field_times * field_size S.degree
  pub states_c : length l.tracks.states.c.values ≡ 6 * length l.tracks.states.c.keys
  pub states_d : length l.tracks.states.d.values ≡ 6 * length l.tracks.states.d.keys
  pub acc_c : length l.tracks.accs.c.values ≡ length l.tracks.accs.c.keys
  pub acc_d : length l.tracks.accs.d.values ≡ length l.tracks.accs.d.keys
  pub values : length l.tracks.observed.values ≡ length l.tracks.observed.obs_times
  pub good : length l.tracks.observed.good ≡ length l.tracks.observed.obs_times
  pub field_times : T (list_all is_time l.fields.field_times) × T (rising l.fields.field_times)
  pub keys_c_rise : T (rising_seconds l.tracks.states.c.keys)
  pub keys_d_rise : T (rising_seconds l.tracks.states.d.keys)
  pub acc_keys_c_rise : T (rising_seconds l.tracks.accs.c.keys)
  pub acc_keys_d_rise : T (rising_seconds l.tracks.accs.d.keys)
  pub node_times : T (list_all is_time l.tracks.nodes) × T (rising l.tracks.nodes)
  pub observed_times : T (list_all is_time l.tracks.observed.obs_times) × T (rising l.tracks.observed.obs_times)

-- each list of the second begins with the whole of the first's
pub record ListsGrow (l l' : Lists) : Type 0 where
  pub field_times : Begins l.fields.field_times l'.fields.field_times
  pub added : Begins l.fields.added l'.fields.added
  pub keys_c : Begins l.tracks.states.c.keys l'.tracks.states.c.keys
  pub states_c : Begins l.tracks.states.c.values l'.tracks.states.c.values
  pub keys_d : Begins l.tracks.states.d.keys l'.tracks.states.d.keys
  pub states_d : Begins l.tracks.states.d.values l'.tracks.states.d.values
  pub acc_keys_c : Begins l.tracks.accs.c.keys l'.tracks.accs.c.keys
  pub acc_c : Begins l.tracks.accs.c.values l'.tracks.accs.c.values
  pub acc_keys_d : Begins l.tracks.accs.d.keys l'.tracks.accs.d.keys
  pub acc_d : Begins l.tracks.accs.d.values l'.tracks.accs.d.values
  pub nodes : Begins l.tracks.nodes l'.tracks.nodes
  pub times : Begins l.tracks.observed.obs_times l'.tracks.observed.obs_times
  pub values : Begins l.tracks.observed.values l'.tracks.observed.values
  pub good : Begins l.tracks.observed.good l'.tracks.observed.good
