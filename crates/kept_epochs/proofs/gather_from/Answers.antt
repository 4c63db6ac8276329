-- `kept_epochs::gather_from`: after i observations the kept ones among them are listed and counted, and only the front of the work slice has changed. Assumes nothing.
use native.Mathlib.Omega.{arith}
use Rattle.kept_epochs.specs.Lent.{given_of}
use Rattle.kept_epochs.proofs.Turns.{ends}
use Rattle.kept_epochs.proofs.gather_from.Goals as goal

pub returns : goal.returns
returns c =
    let s = c.args in
    let l = c.loop-i in
    ends (given_of s.given) s.base l.i s.s.now
    l.outtimes l.outraws l.s l.count l.invariant.0 (omega arith) l.invariant.1
