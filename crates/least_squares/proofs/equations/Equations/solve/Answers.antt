-- After c columns the array is the definition's stage c, and every pivot so far was large enough. Assumes nothing.
use mathlib.Core.Path.{◌≡◌, refl, sym, ◌∙◌}
use mathlib.Core.Bool.{false≢true}
use native.Mathlib.Omega.{arith}
use Rattle.least_squares.proofs.MatrixLoops.{stage_more, singular_is, fine_more, fine_not}
use Rattle.least_squares.specs.Flat.{fine_in, stage_in}
use Rattle.least_squares.proofs.equations.Equations.solve.Goals as goal

pub loop-c-init : goal.loop-c-init
unfolding fine_in stage_in
loop-c-init c = (omega arith, refl, refl, refl)

pub returns-then-too_small : goal.returns-then-too_small
returns-then-too_small c =
    let s = c.args.self.now in
    let loop = c.loop-c in
    let q = c.pivot-q in
    let largest_is = rw loop.invariant.3 at q.ensures.0 in (
      sym (fine_not s.p s.a loop.c s.p (omega arith)
          (sym (singular_is s.p s.a loop.c loop.self.a q.result loop.invariant.2 largest_is _ c.too_small.ensures) ∙ c.if-too_small.true)),
      λ e. absurd (false≢true e),
      loop.invariant.3,
    )

pub loop-c-preserved : goal.loop-c-preserved
loop-c-preserved c =
    let s = c.args.self.now in
    let loop = c.loop-c in
    let q = c.pivot-q in
    let same : c.swap_rows.new.self.p ≡ s.p = c.swap_rows.ensures.1 ∙ loop.invariant.3 in
    let largest_is = rw loop.invariant.3 at q.ensures.0 in
    let inside = c.loop-c-test.true in (
      omega (arith, loop.invariant.3),
      fine_more s.p s.a loop.c loop.invariant.1
          (sym (singular_is s.p s.a loop.c loop.self.a q.result loop.invariant.2 largest_is _ c.too_small.ensures) ∙ c.if-too_small.false),
      stage_more s.p s.a loop.c loop.self.a q.result loop.invariant.2 largest_is _ _ (rw loop.invariant.3 at c.swap_rows.ensures.0) (rw same at c.eliminate.ensures.0),
      c.eliminate.ensures.1 ∙ same,
    )
