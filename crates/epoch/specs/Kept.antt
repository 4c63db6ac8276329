-- One epoch over rows by whole second, and the epochs that are kept (document 01, module 5). Assumes nothing.
use Rattle.std.specs.Prelude.{ℕ, Bool, cond, ◌&&◌, List, ltb, Float, get_or}
use Rattle.std.specs.Prelude.{Option, None}
use Rattle.std.specs.Float.{nan}
use Rattle.numbers.specs.Seconds.{whole_second}
use Rattle.finality.specs.Brackets.{covers}
use Rattle.finality.specs.Tables.{Table, find}
use Rattle.finality.specs.Sheet.{Observation, where_found}
use Rattle.vectors.specs.declared.Vector.{Vector}
use Rattle.epoch_record.specs.declared.Epoch.{Epoch}
use Rattle.inputs.specs.Inputs.{Model, Observed}
use Rattle.integrate.specs.Force.{gravity_at}
use Rattle.integrate.specs.RowsBySecond.{map_from}
use Rattle.integrate.specs.declared.kernel.State.{State}
use Rattle.epoch.specs.Epoch.{epoch_with}

-- ---- one epoch

-- the record from both states and accelerometer values, the field's gravity being a function of the time and the place
abbrev pub record_by : (Float → Vector → Vector) → Float → Float → State → State → Float → Float → Epoch
record_by gravity t observed c d axc axd = epoch_with (gravity t) t observed c.position c.velocity d.position d.velocity axc axd

unfoldable pub record_at : Model → Float → Float → State → State → Float → Float → Epoch
record_at m t observed c d axc axd = record_by (gravity_at m) t observed c d axc axd

-- an observation's record, or none, from what four look-ups found
abbrev pub Seen : Type 0
Seen = Observation → Option State → Option State → Option Float → Option Float → Option Epoch

-- of a good and covered observation
abbrev pub seen_with : (Float → Float → State → State → Float → Float → Epoch) → List Float → Seen
seen_with make times o x y p q = cond (o.good && covers times o.at) (where_found (make o.at o.observed) x y p q) None

unfoldable pub seen_by : Model → Seen
seen_by m o x y p q = seen_with (record_at m) m.fields.field_times o x y p q

-- kept (document 01's own term) is a good and covered epoch whose four values stand at the whole part of its time; over the tables of both satellites' states
-- and accelerometer values
abbrev pub epoch_over : Seen → Table State → Table State → Table Float → Table Float → Observation → Option Epoch
epoch_over seen states_c states_d acc_c acc_d o =
    let k = whole_second o.at in
    seen o (find k states_c) (find k states_d) (find k acc_c) (find k acc_d)

unfoldable pub epoch_by : Model → Table State → Table State → Table Float → Table Float → Observation → Option Epoch
epoch_by m states_c states_d acc_c acc_d o = epoch_over (seen_by m) states_c states_d acc_c acc_d o

-- ---- all epochs

-- a byte is 0 when not good
abbrev pub is_good : ℕ → Bool
is_good byte = ltb 0 byte

abbrev pub observation : Float → Float → ℕ → Observation
observation t observed byte = record { at = t; observed = observed; good = is_good byte }

-- one for each time, with the value and the byte at its place
unfoldable pub observations_in : Observed → List Observation
observations_in o = map_from (λ t i. observation t (get_or o.values i nan) (get_or o.good i 0)) 0 o.obs_times
