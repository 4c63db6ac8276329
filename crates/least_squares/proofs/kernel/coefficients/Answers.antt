use Rattle.std.proofs.Common.{sym, ◌∙◌}
use Rattle.least_squares.proofs.KernelShapes.{shape_true}
use Rattle.least_squares.proofs.kernel.coefficients.Goals as goal

pub invariant_of-solve : goal.invariant_of-solve
invariant_of-solve c =
    let (full, few, _) = shape_true _ _ _ _ (sym c.shape.ensures ∙ c.if-shape.true) in
    record { few = few; full = full }

pub solve-requires : goal.solve-requires
solve-requires c = (shape_true _ _ _ _ (sym c.shape.ensures ∙ c.if-shape.true)).2
