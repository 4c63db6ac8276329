use Prim.Native.Nat.{◌+◌}
use native.Mathlib.Omega.{arith}
use Rattle.legendre.specs.Legendre.{b_of}
use borrow.Author.Tests.{le-leb, lt-leb}
use Rattle.legendre.proofs.b_of.Goals as goal

pub returns-then-saturating_sub-le1 : goal.returns-then-saturating_sub-le1
unfolding b_of
returns-then-saturating_sub-le1 c = rw (le-leb c.args.n (c.args.m + 1) (omega arith))

pub returns : goal.returns
unfolding b_of
returns c = rw (lt-leb c.args.n (c.args.m + 1) (omega arith)) (cc)
