-- `legendre::order_rows`: the first m places hold cosine and sine of the multiples of the longitude. Assumes nothing.
use Rattle.legendre.specs.Arrays.{Has}
use Rattle.legendre.specs.Sums.{cosines, sines}
use Rattle.legendre.proofs.order_rows.Given as goal

abbrev pub invariant-loop-m : goal.invariant-loop-m
invariant-loop-m l = Has l.m (cosines l.lon) l.x × Has l.m (sines l.lon) l.y
