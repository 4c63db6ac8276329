use Rattle.std.proofs.Common.{refl, rules, ◌∙◌}
use lib.Ieee.{lt}
use Rattle.epoch_record.specs.declared.Epoch.{Epoch}
use Rattle.slices.proofs.Sorted.{ascending_tested}
use Rattle.record_detrending.proofs.Refusals.{rising_times}
use Rattle.record_detrending.proofs.rising.Goals as goal

pub returns : goal.returns
returns c = ascending_tested (λ (a b : Epoch). lt a.t b.t) c.args.epochs.now _ c.is_sorted_by.ensures.cases (λ a b f k. (search rules, refl)) ∙ rising_times c.args.epochs.now
