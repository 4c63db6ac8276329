use Rattle.legendre.specs.Legendre.{a_of}
use borrow.Author.Tests.{eq-eqb, ne_eqb}
use Rattle.legendre.proofs.a_of.Goals as goal

pub returns-then-m-n : goal.returns-then-m-n
unfolding a_of
returns-then-m-n c = rw (eq-eqb _ _ c.if-m-n.true)

pub returns : goal.returns
unfolding a_of
returns c = rw (ne_eqb _ _ c.if-m-n.false) (cc)
