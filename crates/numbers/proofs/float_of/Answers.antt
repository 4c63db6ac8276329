use Prim.Native.Nat.{◌^◌}
use lib.Dec.{le→leb}
use lib.Ieee.{in_float}
use Rattle.laws.specs.WholeNumbers.{number}
use native.Mathlib.Omega.{arith}
use borrow.Author.Rules.{rules}
use Rattle.numbers.proofs.float_of.Goals as goal

pub int_to_float-result : goal.int_to_float-result
unfolding in_float
int_to_float-result c = le→leb c.args.n (2 ^ 53) (omega arith)

pub returns-then-n-lt4294967296 : goal.returns-then-n-lt4294967296
unfolding number
returns-then-n-lt4294967296 c = search rules

pub returns-else-n-lt4294967296 : goal.returns-else-n-lt4294967296
unfolding number
returns-else-n-lt4294967296 c = search rules
