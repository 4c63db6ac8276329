use Rattle.legendre.specs.Legendre.{lower_of}
use borrow.Author.Tests.{eq-eqb, ne_eqb}
use Rattle.legendre.proofs.lower_of.Goals as goal

pub returns-then-m-eq1 : goal.returns-then-m-eq1
unfolding lower_of
returns-then-m-eq1 c = rw (eq-eqb c.args.m 1 c.if-m-eq1.true) (cc)

pub returns : goal.returns
unfolding lower_of
returns c = rw (ne_eqb c.args.m 1 c.if-m-eq1.false) (cc)
