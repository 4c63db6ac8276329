-- The first i places hold the first i coefficients. Assumes nothing.
use mathlib.Core.Path.{refl}
use native.Mathlib.Omega.{arith}
use lib.ListN.{length-set}
use Rattle.least_squares.proofs.MatrixLoops.{row_more}
use Rattle.laws.specs.Tables.{row}
use Rattle.least_squares.specs.LeastSquares.{coefficient_at}
use Rattle.least_squares.proofs.equations.Equations.solution.Goals as goal

pub loop-i-init : goal.loop-i-init
unfolding row
loop-i-init c = (omega arith, c.requires, refl)

pub loop-i-preserved : goal.loop-i-preserved
unfolding coefficient_at
loop-i-preserved c =
    let loop = c.loop-i in
    (omega arith, simp length-set loop.invariant.1, row_more loop.beta _ loop.i _ loop.invariant.2 (omega arith) refl)
