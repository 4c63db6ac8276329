-- What is read, without where it lies in memory. Assumes nothing.
use Rattle.std.specs.Prelude.{ℕ, Bool, length}
use Rattle.inputs.specs.Lent.{model_of, pair_of, observed_of}
use Rattle.kept_epochs.specs.declared.Given.{Given as LentGiven}
use Rattle.kept_epochs.specs.KeptEpochs.{Given, given, gather_serves}

abbrev pub given_of : LentGiven → Given
given_of g = given (model_of g.model) (pair_of g.accs) g.windows (observed_of g.observed)

-- whether the slices serve, with so many places in each output and in the work slice
abbrev pub serves_of : LentGiven → ℕ → ℕ → ℕ → Bool
serves_of g outtimes outraws room =
    gather_serves g.model.degree g.accs.c.keys.now g.accs.d.keys.now g.observed.times.now (length g.observed.values.now)
    (length g.observed.good.now) outtimes outraws room
