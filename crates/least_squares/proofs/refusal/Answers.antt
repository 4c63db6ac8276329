use Rattle.std.proofs.Common.{mul-le-mul, le_refl, length, arith, sym, ◌∙◌}
use Rattle.slices.specs.declared.refusal.Refusal.TheVariants.{Count}
use Rattle.slices.specs.Calls.{accepted}
use Rattle.slices.proofs.Calls.{cond_passes}
use Rattle.least_squares.proofs.Calls.{few_columns}
use Rattle.least_squares.proofs.refusal.Goals as goal

-- a slice of f64 has fewer than 2 ^ 60 places
pub overflow_mul-y : goal.overflow_mul-y
overflow_mul-y c = omega (arith, mul-le-mul (le_refl (length c.args.y.now)) (few_columns c.args.p _ c.up_to.ensures (cond_passes _ accepted Count (sym c.tested.ensures ∙ c.in_ok-tested.was)).0))
