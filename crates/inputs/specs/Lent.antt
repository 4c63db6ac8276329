-- The lists of a submission without where they lie in memory. Assumes nothing.
use Rattle.inputs.specs.Inputs.{Model, Keyed, Pair, Inputs, Observed, Lists, Fixed, model_with, keyed, inputs, observed_with, lists}
use Rattle.inputs.specs.declared.lent.Model.{Model as LentModel}
use Rattle.inputs.specs.declared.lent.Keyed.{Keyed as LentKeyed}
use Rattle.inputs.specs.declared.lent.Pair.{Pair as LentPair}
use Rattle.inputs.specs.declared.lent.Inputs.{Inputs as LentInputs}
use Rattle.inputs.specs.declared.lent.Observed.{Observed as LentObserved}
use Rattle.inputs.specs.declared.lent.Submission.{Submission}

abbrev pub model_of : LentModel → Model
model_of m = model_with m.degree m.static_field.now m.table_a.now m.table_b.now m.field_times.now m.added.now

abbrev pub keyed_of : LentKeyed → Keyed
keyed_of l = keyed l.keys.now l.values.now

abbrev pub pair_of : LentPair → Pair
pair_of p = record { c = keyed_of p.c; d = keyed_of p.d }

abbrev pub inputs_of : LentInputs → Inputs
inputs_of i = inputs (model_of i.model) (pair_of i.states) (pair_of i.accs)

abbrev pub observed_of : LentObserved → Observed
observed_of o = observed_with o.times.now o.values.now o.good.now

-- of a submission: what is fixed, and the lists that grow
abbrev pub fixed_of : Submission → Fixed
fixed_of s = (model_of s.inputs.model).fixed

abbrev pub lists_of : Submission → Lists
lists_of s = lists (model_of s.inputs.model) (pair_of s.inputs.states) (pair_of s.inputs.accs) s.nodes.now (observed_of s.observed)
