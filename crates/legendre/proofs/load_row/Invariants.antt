-- `legendre::load_row`: the first m places of the array are those of the row that begins at k. Assumes nothing.
use Rattle.legendre.specs.Arrays.{from, Has}
use Rattle.legendre.proofs.load_row.Given as goal

abbrev pub invariant-loop-m : goal.invariant-loop-m
invariant-loop-m l = Has l.m (from l.p l.k) l.x
