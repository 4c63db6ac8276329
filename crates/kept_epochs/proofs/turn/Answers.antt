-- `kept_epochs::turn`: one observation looked up, tried and added takes the list from i observations to i + 1, by `turned` of proofs/Turns.antt. Assumes nothing.
use mathlib.Core.Path.{refl}
use lib.ListN.{get_or}
use Rattle.kept_epochs.specs.Lent.{given_of}
use Rattle.kept_epochs.proofs.Turns.{turned}
use Rattle.kept_epochs.proofs.turn.Goals as goal

pub returns : goal.returns
returns c s₀ so =
    let s = c.args in
    let p = c.requires in
    turned (given_of s.given) s.base s.i s.count
    s.outtimes.now s.outraws.now s.s.now p.1 _ _ (get_or s.given.observed.good.now s.i 0) c.element-t.ensures c.element-value.ensures refl _
    c.look-found.ensures _ _ c.try_seen-made.ensures p.0.room _ _ _ c.add.ensures s₀ so
