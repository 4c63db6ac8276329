-- `model::at` meets its contract. Assumes nothing.
use mathlib.Core.Path.{sym, ◌∙◌}
use Rattle.model.proofs.Checks.{at_passes}
use Rattle.model.proofs.at.Goals as goal

pub invariant_of-whole : goal.invariant_of-whole
invariant_of-whole c = record { room = (at_passes _ c.args.t _ _ _ (sym c.at_refusal.ensures ∙ c.in_ok-at_refusal.was)).lists }

pub work-requires : goal.work-requires
work-requires c =
    let f = at_passes _ c.args.t _ _ _ (sym c.at_refusal.ensures ∙ c.in_ok-at_refusal.was) in
    record { cosine_room = f.cosines; sine_room = f.sines }
