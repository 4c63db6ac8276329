-- Document 01's checked instances of the index. Assumes nothing.
use mathlib.Core.Path.{◌≡◌, refl}
use Rattle.laws.specs.Tables.{tri}
use Rattle.fields.specs.Calls.{index_of}
use Rattle.std.specs.Prelude.{Ok, Err}
use Rattle.slices.specs.declared.refusal.Refusal.TheVariants.{Count}

pub index_2_1 : index_of 2 1 ≡ Ok 4
unfolding index_of tri
index_2_1 = refl

pub index_180_180 : index_of 180 180 ≡ Ok 16470
unfolding index_of tri
index_180_180 = refl

-- outside: the order above the degree, the degree above 180
pub index_1_2 : index_of 1 2 ≡ Err Count
unfolding index_of
index_1_2 = refl

pub index_181_0 : index_of 181 0 ≡ Err Count
unfolding index_of
index_181_0 = refl
