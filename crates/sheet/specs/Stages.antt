-- The stages of the whole path with the modules' own work (document 01, modules 3 to 7), as crate `finality` takes them. Assumes nothing.
use Rattle.std.specs.Prelude.{ℕ, List, [], Float}
use Rattle.inputs.specs.Inputs.{Fixed}
use Rattle.finality.specs.Kernels.{Kernels}
use Rattle.model.specs.Stages.{combined_field, blend_fields}
use Rattle.vectors.specs.declared.Vector.{Vector}
use Rattle.integrate.specs.declared.kernel.State.{State}
use Rattle.windows.specs.Stage.{field_gravity, fit_from}
use Rattle.epoch_record.specs.declared.Epoch.{Epoch}
use Rattle.epoch_record.specs.EpochRecord.{time, residual}
use Rattle.epoch.specs.Epoch.{epoch_with}
use Rattle.detrend.specs.Revolutions.{revolved_of}
use Rattle.filter.specs.Filter.{pass}

-- one epoch (module 5), from a field's gravity
unfoldable pub epoch_under : (List Float → Vector → Vector) → Float → Float → List Float → State → State → Float → Float → Epoch
epoch_under gravity t observed field c d axc axd =
    epoch_with (gravity field) t observed c.position c.velocity d.position d.velocity axc axd

abbrev pub epoch_stage : Fixed → Float → Float → List Float → State → State → Float → Float → Epoch
epoch_stage S = epoch_under (field_gravity S)

-- all of them, for a degree, a static field and the gravity of a field
abbrev pub kernels_by : (List Float → Vector → Vector) → ℕ → List Float → Kernels
kernels_by gravity N static =
    record {
      Added = List Float;
      Field = List Float;
      State = State;
      Epoch = Epoch;
      missing = [];
      combined = combined_field N static;
      blend = blend_fields;
      fit = fit_from gravity;
      epoch = epoch_under gravity;
      time = time;
      residual = residual;
      revolution = revolved_of;
      pass = pass;
    }

abbrev pub kernels : Fixed → Kernels
kernels S = kernels_by (field_gravity S) S.degree S.static
