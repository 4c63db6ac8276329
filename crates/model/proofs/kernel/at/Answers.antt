-- `model::kernel::at` meets its contract. Assumes nothing.
use mathlib.Core.Path.{sym, ◌∙◌}
use Rattle.model.proofs.Blend.{room_of}
use Rattle.model.proofs.kernel.at.Goals as goal

pub field_at-requires : goal.field_at-requires
field_at-requires c = room_of _ _ (sym c.at_fits.ensures ∙ c.if-at_fits.true)
