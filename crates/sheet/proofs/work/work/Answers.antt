use mathlib.Core.List.{[], ◌∷◌}
use Rattle.sheet.proofs.WorkPublishes.{worked}
use Rattle.sheet.proofs.work.work.Goals as goal

pub returns : goal.returns
returns c =
    worked _ _ _ _ (c.args.outdetrended.now ∷ c.args.outpassed.now ∷ []) _ c.requires _ _ _ _ _ _ _ _ _ _ c.saturating_sub.ensures c.fill.ensures c.gather-kept.ensures c.fill-2.ensures
