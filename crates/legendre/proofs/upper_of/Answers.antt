use Rattle.legendre.specs.Legendre.{upper_of}
use borrow.Author.Tests.{eq-eqb, ne_eqb}
use Rattle.legendre.proofs.upper_of.Goals as goal

pub returns-then-m-eq0 : goal.returns-then-m-eq0
unfolding upper_of
returns-then-m-eq0 c = rw (eq-eqb c.args.m 0 c.if-m-eq0.true) (cc)

pub returns : goal.returns
unfolding upper_of
returns c = rw (ne_eqb c.args.m 0 c.if-m-eq0.false) (cc)
