-- The lent lists without where they lie in memory. Assumes nothing.
use Rattle.std.specs.Prelude.{List, Float}
use Rattle.finality.specs.Sheet.{Ends}
use Rattle.horizon.specs.Horizon.{ends_of}
use Rattle.horizon.specs.Calls.{Given, given}
use Rattle.horizon.specs.declared.tracks.Tracks.{Tracks}

abbrev pub ends_in : Tracks → Ends
ends_in l = ends_of l.states_c.now l.states_d.now l.acc_c.now l.acc_d.now l.fields.now l.observed.now

abbrev pub given_in : List Float → Tracks → Given
given_in nodes l = given nodes l.states_c.now l.states_d.now l.acc_c.now l.acc_d.now l.fields.now l.observed.now
