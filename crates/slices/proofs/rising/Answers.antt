use Rattle.std.proofs.Common.{refl, rules}
use Rattle.std.specs.Float.Ieee.{lt}
use Rattle.slices.proofs.Sorted.{ascending_tested}
use Rattle.slices.proofs.rising.Goals as goal

pub returns : goal.returns
returns c = ascending_tested lt _ _ c.is_sorted_by.ensures.cases (λ a b f k. (search rules, refl))
