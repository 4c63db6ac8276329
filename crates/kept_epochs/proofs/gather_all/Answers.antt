-- `kept_epochs::gather_all`: from cleared outputs and an opened work slice, the loop over the observations. Assumes nothing.
use Rattle.kept_epochs.specs.Lent.{given_of}
use Rattle.kept_epochs.proofs.GatherGuard.{started, finished}
use Rattle.kept_epochs.proofs.gather_all.Goals as goal

pub gather_from-requires : goal.gather_from-requires
gather_from-requires c =
    let s = c.args in
    started (given_of s.given) s.outtimes.now
    s.outraws.now s.s.now _ c.requires c.front_size-base.ensures _ _ _ c.clear.ensures c.clear-2.ensures c.«open».ensures

pub returns : goal.returns
returns c =
    let s = c.args in
    finished (given_of s.given) s.outtimes.now
    s.outraws.now s.s.now _ c.requires c.front_size-base.ensures _ _ _ _ _ c.«open».ensures c.gather_from.ensures
