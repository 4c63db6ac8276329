-- `legendre::derived_row`: the first m places hold the row of the definition, whose first, middle and last places differ. Assumes nothing.
use Rattle.legendre.specs.Legendre.{derived_row}
use Rattle.legendre.specs.Arrays.{from, at, Has}
use Rattle.legendre.proofs.derived_row.Given as goal

abbrev pub invariant-loop-m : goal.invariant-loop-m
invariant-loop-m l = Has l.m (derived_row l.fn.degree.n (from l.lower l.fn.degree.start) (from l.upper l.fn.degree.start) (at l.p)) l.d
