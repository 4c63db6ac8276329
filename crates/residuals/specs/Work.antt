-- What the code hands on between its parts. Assumes nothing.
use Rattle.std.specs.Prelude.{ℕ, ◌≤◌, ◌≡◌, true, List, Float, length, take, Option}
use Rattle.inputs.specs.Inputs.{front_size, Inputs}
use Rattle.laws.specs.Checks.{rising_seconds}
use Rattle.finality.specs.Sheet.{Observation}
use Rattle.epoch_record.specs.declared.Epoch.{Epoch}
use Rattle.epoch.specs.Work.{Usable}
use Rattle.residuals.specs.Inputs.{epoch_of}

-- all that the work needs of the lists and of scratch: keys that rise, and room for the numbers of the degree
pub record Ready (inp : Inputs) (scratch : ℕ) : Type 0 where
  pub degree : inp.model.fixed.degree ≤ 180
  pub states_c : rising_seconds inp.states.c.keys ≡ true
  pub states_d : rising_seconds inp.states.d.keys ≡ true
  pub acc_c : rising_seconds inp.accs.c.keys ≡ true
  pub acc_d : rising_seconds inp.accs.d.keys ≡ true
  pub room : front_size inp.model.fixed.degree ≤ scratch

-- one observation was tried, in a work slice that stays usable
pub record Tried (inp : Inputs) (o : Observation) (base : ℕ) (w w' : List Float) (r : Option Epoch) : Type 0 where
  pub is : r ≡ epoch_of inp o
  pub long : length w' ≡ length w
  pub usable : Usable inp.model (take base w')
