-- The epochs that are kept of what the calls are lent (document 01, module 5; the source's `Inputs`). Assumes nothing.
use Rattle.std.specs.Prelude.{Option}
use Rattle.finality.specs.Sheet.{Observation}
use Rattle.std.specs.Prelude.{Float}
use Rattle.vectors.specs.declared.Vector.{Vector}
use Rattle.epoch_record.specs.declared.Epoch.{Epoch}
use Rattle.inputs.specs.Inputs.{Inputs}
use Rattle.integrate.specs.RowsBySecond.{states_in, values_in}
use Rattle.epoch.specs.Kept.{record_by, seen_with, epoch_over, epoch_by}

-- an epoch that is kept, the field's gravity being a function of the time and the place
abbrev pub epoch_under : (Float → Vector → Vector) → Inputs → Observation → Option Epoch
epoch_under gravity inp =
    epoch_over (seen_with (record_by gravity) inp.model.fields.field_times) (states_in inp.states.c) (states_in inp.states.d)
    (values_in inp.accs.c) (values_in inp.accs.d)

-- the same with the gravity of the model (`gravity_at`)
abbrev pub epoch_of : Inputs → Observation → Option Epoch
epoch_of inp = epoch_by inp.model (states_in inp.states.c) (states_in inp.states.d) (values_in inp.accs.c) (values_in inp.accs.d)
