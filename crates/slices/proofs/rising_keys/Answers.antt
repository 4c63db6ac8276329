use Rattle.std.proofs.Common.{refl, rules}
use Rattle.std.specs.Int.Signed.{lt_z}
use Rattle.slices.proofs.Sorted.{ascending_tested}
use Rattle.slices.proofs.rising_keys.Goals as goal

pub returns : goal.returns
returns c = ascending_tested lt_z _ _ c.is_sorted_by.ensures.cases (λ a b f k. (search rules, refl))
