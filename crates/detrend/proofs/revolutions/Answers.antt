use Rattle.std.proofs.Common.{sym, ◌∙◌}
use Rattle.detrend.proofs.Listing.{revolutions_fine}
use Rattle.detrend.proofs.revolutions.Goals as goal

pub list_revolutions-requires : goal.list_revolutions-requires
list_revolutions-requires c = revolutions_fine _ _ _ _ _ _ (sym c.revolutions_refusal.ensures ∙ c.in_ok-revolutions_refusal.was)
