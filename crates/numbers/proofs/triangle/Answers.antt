use Rattle.laws.specs.Tables.{square_small, tri, tri_small}
use mathlib.Core.Path.{refl}
use native.Mathlib.Omega.{arith}
use Rattle.numbers.proofs.triangle.Goals as goal

pub overflow_mul-result : goal.overflow_mul-result
overflow_mul-result c = omega (arith, square_small c.args.n (omega arith))

pub returns-then-n-le181 : goal.returns-then-n-le181
unfolding tri
returns-then-n-le181 c = ((λ _. refl), tri_small c.args.n (omega arith))
