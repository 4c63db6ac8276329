use borrow.Author.Tests.{eq-eqb, ne_eqb}
use Rattle.legendre.proofs.diagonal_next.Goals as goal

pub returns-then-m-eq1 : goal.returns-then-m-eq1
returns-then-m-eq1 c = rw (eq-eqb c.args.m 1 c.if-m-eq1.true) (cc)

pub returns : goal.returns
returns c =
    rw (ne_eqb c.args.m 1 c.if-m-eq1.false) (cc)
