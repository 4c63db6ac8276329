use Rattle.std.proofs.Common.{sym, ◌∙◌}
use Rattle.detrend.proofs.Ranges.{detrend_fine}
use Rattle.detrend.proofs.detrend.Goals as goal

pub detrend_in-requires : goal.detrend_in-requires
detrend_in-requires c = detrend_fine _ _ _ _ _ _ _ (sym c.detrend_refusal.ensures ∙ c.in_ok-detrend_refusal.was)
