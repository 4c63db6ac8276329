-- `residuals::filling::turn`: one observation tried and added takes the lists from i observations to i + 1, by `turned_at` of proofs/Turns.antt. Assumes nothing.
use mathlib.Core.Path.{refl}
use lib.ListN.{get_or}
use Rattle.inputs.specs.Lent.{inputs_of, observed_of}
use Rattle.residuals.specs.Calls.{epoch_columns}
use Rattle.residuals.proofs.Turns.{room_left, turned_at}
use Rattle.residuals.proofs.filling.turn.Goals as goal

pub try_epoch-made-requires : goal.try_epoch-made-requires
try_epoch-made-requires c = (c.requires.2.room, c.requires.2.usable)

pub add-requires : goal.add-requires
add-requires c =
    let s = c.args in
    let p = c.requires in
    room_left (inputs_of s.rows.inputs) (observed_of s.samples.observed) s.base s.i s.k
    (epoch_columns s.outtimes.now s.outresiduals.now s.outterms.now s.outmids.now s.outvels.now) s.w.now p.1 p.2

pub returns : goal.returns
returns c =
    let s = c.args in
    let p = c.requires in
    turned_at (inputs_of s.rows.inputs) (observed_of s.samples.observed) s.base s.i s.k
    (epoch_columns s.outtimes.now s.outresiduals.now s.outterms.now s.outmids.now s.outvels.now) s.w.now p.1 p.2 _ _
    (get_or s.samples.observed.good.now s.i 0) c.element-t.ensures c.element-value.ensures refl _ _ _ _ c.try_epoch-made.ensures c.add.ensures
