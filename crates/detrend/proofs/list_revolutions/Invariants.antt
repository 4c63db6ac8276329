-- `detrend::list_revolutions`: after k nodes the four lists hold the long revolutions between them, zeros behind. Assumes nothing.
use Rattle.detrend.proofs.Listing.{Listing}
use Rattle.detrend.proofs.list_revolutions.Given as goal

abbrev pub invariant-loop-k : goal.invariant-loop-k
invariant-loop-k l = Listing l.times l.nodes l.k l.count l.firsts l.ends l.starts l.periods
