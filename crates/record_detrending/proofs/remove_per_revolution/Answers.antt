use Rattle.std.proofs.Common.{sym, ◌∙◌}
use Rattle.record_detrending.proofs.Refusals.{remove_large}
use Rattle.record_detrending.proofs.remove_per_revolution.Goals as goal

pub remove_in-requires : goal.remove_in-requires
remove_in-requires c = remove_large _ _ _ (sym c.refusal.ensures ∙ c.in_ok-refusal.was)
