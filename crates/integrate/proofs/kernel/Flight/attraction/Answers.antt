-- `integrate::kernel::Flight::attraction`: the full pull or that of J2, as the force says, each by its law of proofs/ForceAndStep.antt. Assumes nothing.
use Rattle.integrate.proofs.ForceAndStep.{full_chosen, j2_chosen}
use Rattle.std.proofs.Common.{rules}
use Rattle.integrate.proofs.kernel.Flight.attraction.Goals as goal

pub returns-in-Full : goal.returns-in-Full
returns-in-Full c = search (rules, full_chosen)

pub returns-in-J2 : goal.returns-in-J2
returns-in-J2 c = search (rules, j2_chosen)
