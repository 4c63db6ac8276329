-- `least_squares::equations::Design::residuals`: the first r places hold the first r residuals of the definition. Assumes nothing.
use Rattle.std.proofs.Common.{◌≡◌, refl, ap, ◌∙◌, ℕ, ◌+◌, ◌*◌, ◌-◌, ◌≤◌, List, length, drop, get_or, min, length-set, length-drop, arith}
use Rattle.std.specs.Prelude.{Float}
use Rattle.std.specs.Float.{nan}
use lib.Seq.{get_or-drop, get_or-take, length-take-le}
use borrow.Rule.Slice.PartMut.{mid_of}
use Rattle.laws.specs.Floats.{◌⊗◌}
use Rattle.laws.specs.Sums.{sum_to, sum_same}
use Rattle.laws.specs.Tables.{row}
use Rattle.least_squares.proofs.MatrixLoops.{row_more, row_whole, row_end}
use Rattle.least_squares.specs.LeastSquares.{fitted, fitted_at, residual_at, residuals_of}
use Rattle.least_squares.proofs.equations.Design.residuals.Goals as goal

-- a row of the design, lent
lent_row : (rows beta : List Float) (p r : ℕ) → length beta ≡ p → r * p + p ≤ length rows → fitted (mid_of (r * p) (r * p + p - r * p) rows) beta ≡ fitted_at rows beta p r
unfolding fitted fitted_at
lent_row rows beta p r l h =
    let x : List Float = mid_of (r * p) (r * p + p - r * p) rows in
    let k : r * p + p - r * p ≡ p = omega arith in
    let lx : length x ≡ p = length-take-le (r * p + p - r * p) (drop (r * p) rows) (rw (length-drop (r * p) rows) (omega arith)) ∙ k in
    let n : min (length x) (length beta) ≡ p = rw (lx, l) (omega arith) in
    ap (sum_to (λ (j : ℕ). get_or x j nan ⊗ get_or beta j nan)) n
    ∙ sum_same p (λ i b. ap (λ (v : Float). v ⊗ get_or beta i nan) (get_or-take (r * p + p - r * p) (drop (r * p) rows) i nan (omega arith) ∙ get_or-drop (r * p) rows i nan))

pub loop-r-init : goal.loop-r-init
unfolding row
loop-r-init c = (omega arith, c.requires.1, refl)

pub loop-r-preserved : goal.loop-r-preserved
unfolding residual_at
loop-r-preserved c =
    let loop = c.loop-r in
    let inside : loop.r * c.args.self.p + c.args.self.p ≤ length c.args.self.rows.now = omega (arith, row_end loop.r (length c.args.self.y.now) c.args.self.p c.loop-r-test.true) in (
      omega arith,
      simp length-set loop.invariant.1,
      row_more loop.residuals _ loop.r _ loop.invariant.2 (omega arith) (simp (c.fitted.ensures, lent_row c.args.self.rows.now c.args.beta.now c.args.self.p loop.r c.requires.0 inside)),
    )

pub returns : goal.returns
unfolding residuals_of
returns c =
    let loop = c.loop-r in
    row_whole loop.residuals _ loop.r (length c.args.self.y.now) loop.invariant.2 (omega arith) loop.invariant.1
