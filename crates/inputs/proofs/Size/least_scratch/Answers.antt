-- `inputs::Size::least_scratch`: the sum is the definition's and wraps nowhere, since 32 fields of 16,471 places stay small (`product_small`). Assumes nothing.
use mathlib.Core.Path.{ap}
use Prim.Native.Nat.{ℕ, ◌+◌, ◌*◌}
use native.Mathlib.Omega.{arith}
use Rattle.inputs.proofs.Passed.{product_small}
use Rattle.inputs.specs.Inputs.{fit_room}
use Rattle.inputs.proofs.Size.least_scratch.Goals as goal

pub overflow_mul-result : goal.overflow_mul-result
overflow_mul-result c =
    omega (arith, product_small c.args.self.fields c.places-l.result (omega arith) (omega arith))

pub overflow_mul-result-2 : goal.overflow_mul-result-2
overflow_mul-result-2 c =
    omega (arith, product_small c.args.self.fields c.places-l.result (omega arith) (omega arith))

pub overflow_add-result : goal.overflow_add-result
overflow_add-result c =
    omega (arith, product_small c.args.self.fields c.places-l.result (omega arith) (omega arith))

pub overflow_add-result-2 : goal.overflow_add-result-2
overflow_add-result-2 c =
    omega (arith, product_small c.args.self.fields c.places-l.result (omega arith) (omega arith))

pub overflow_add-result-3 : goal.overflow_add-result-3
overflow_add-result-3 c =
    omega (arith, product_small c.args.self.fields c.places-l.result (omega arith) (omega arith))

pub returns : goal.returns
returns c = (
  ap (λ (l : ℕ). 2 * (c.args.self.fields * l) + 8 * l + fit_room + 10 * c.args.count) (c.places-l.ensures.0 (omega arith)),
  omega (arith, product_small c.args.self.fields c.places-l.result (omega arith) (omega arith)),
)
