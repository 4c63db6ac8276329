-- One observation tried over the lists. Assumes nothing.
use mathlib.Core.Path.{◌≡◌}
use Prim.Native.Nat.{ℕ, ◌≤◌}
use mathlib.Core.List.{List}
use lib.Ieee.{Float}
use lib.ListN.{length, take}
use Rattle.inputs.specs.Inputs.{Inputs}
use Rattle.numbers.specs.Seconds.{whole_second}
use Rattle.finality.specs.Tables.{find}
use Rattle.epoch.specs.declared.Sighting.{Sighting}
use Rattle.epoch_record.specs.declared.Epoch.{Epoch}
use Rattle.std.specs.Prelude.{Option}
use Rattle.integrate.specs.RowsBySecond.{states_in, values_in}
use Rattle.epoch.specs.Kept.{epoch_by, observation}
use Rattle.epoch.specs.Work.{sighting_of, Usable, Tried as Seen}
use Rattle.residuals.specs.Work.{Tried}

pub tried : (inp : Inputs) (t v : Float) (good base : ℕ) (w w' : List Float) (s : Option Sighting) (r : Option Epoch) →
    s ≡ sighting_of (find (whole_second t) (states_in inp.states.c)) (find (whole_second t) (states_in inp.states.d)) (find (whole_second t) (values_in inp.accs.c))
    (find (whole_second t) (values_in inp.accs.d)) →
    base ≤ length w → Usable inp.model (take base w) → Seen inp.model (observation t v good) base s w w' r → Tried inp (observation t v good) base w w' r
unfolding epoch_by
tried inp t v good base w w' s r e h u m = record { is = m.is h u _ _ _ _ e; long = m.only.long; usable = m.usable h u }
