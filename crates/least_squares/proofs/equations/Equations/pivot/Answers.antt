-- The best row so far is the definition's choice among the rows seen. Assumes nothing.
use Rattle.least_squares.proofs.MatrixLoops.{largest_none, largest_more}
use mathlib.Core.Path.{◌≡◌, sym, ap, ◌∙◌}
use Prim.Native.Nat.{ℕ, ◌+◌, ◌-◌}
use native.Mathlib.Omega.{arith}
use Rattle.least_squares.specs.Elimination.{largest, reaches}
use Rattle.least_squares.specs.Flat.{view}
use Rattle.numbers.specs.Numbers.{magnitude}
use Rattle.least_squares.proofs.equations.Equations.pivot.Goals as goal
use Rattle.least_squares.proofs.equations.Equations.pivot.Goals.{then-reaches, else-reaches}

pub loop-i-init : goal.loop-i-init
loop-i-init c = (omega arith, omega arith, omega arith, largest_none _ _)

pub loop-i-preserved : goal.loop-i-preserved
loop-i-preserved c =
    let s = c.args in
    let loop = c.loop-i in
    let m = view s.self.now.a in
    let t : c.reaches.result ≡ reaches (magnitude (m loop.i s.c)) (magnitude (m (largest m s.c (loop.i - (s.c + 1))) s.c)) =
    c.reaches.ensures ∙ simp (c.magnitude-b.ensures, c.magnitude-x.ensures)
    (ap (λ (r : ℕ). reaches (magnitude (m loop.i s.c)) (magnitude (m r s.c))) loop.invariant.3) in
    elim c.if-reaches.branch [
      | then-reaches w ↦ (omega arith, omega arith, omega arith, w.best-is ∙ rw (sym t ∙ w.if-reaches.true) at (largest_more m s.c loop.i loop.invariant.0))
      | else-reaches w ↦ (omega arith, omega arith, omega arith, w.best-is ∙ loop.invariant.3 ∙ rw (sym t ∙ w.if-reaches.false) at (largest_more m s.c loop.i loop.invariant.0))
    ]
