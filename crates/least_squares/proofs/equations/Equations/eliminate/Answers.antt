-- After i rows the array holds the matrix with column c eliminated from these rows. Assumes nothing.
use Rattle.std.proofs.Common.{ap, refl, ◌∙◌}
use Rattle.least_squares.specs.Flat.{flatten}
use Rattle.least_squares.specs.declared.equations.Equations.{Equations}
use mathlib.Core.Path.{◌≡◌, ◌∙◌}
use Prim.Native.Nat.{◌+◌}
use native.Mathlib.Omega.{arith}
use Rattle.least_squares.proofs.MatrixLoops.{as_it_is, whole, flat_holds, holds_same, eliminated_none, eliminated_skip, eliminated_more}
use Rattle.least_squares.specs.Flat.{reduced_to, view}
use Rattle.least_squares.proofs.equations.Equations.eliminate.Goals as goal
use Rattle.least_squares.proofs.equations.Equations.eliminate.Goals.{then-i-c, else-i-c}

pub loop-i-init : goal.loop-i-init
loop-i-init c =
    let s = c.args in
    (omega arith, holds_same _ _ _ (as_it_is s.self.now.a s.self.now.long) (λ i j a b. eliminated_none s.c 0 (s.self.now.p + 1) (view s.self.now.a) i j), refl)

pub loop-i-preserved : goal.loop-i-preserved
loop-i-preserved c =
    let s = c.args in
    let loop = c.loop-i in
    let m = view s.self.now.a in
    let h = loop.invariant.1 in
    elim c.if-i-c.branch [
      | then-i-c w ↦
          let reduced : c.if-i-c.self.a ≡ flatten (reduced_to s.c loop.i (s.self.now.p + 1) (view loop.self.a)) =
          ap (λ (e : Equations). e.a) w.self-is ∙ rw loop.invariant.2 at w.reduce_row.ensures.0 in (
            omega arith,
            rw reduced
                (holds_same _ _ _ (flat_holds (reduced_to s.c loop.i (s.self.now.p + 1) (view loop.self.a)))
                (λ i j a b. eliminated_more s.c loop.i (s.self.now.p + 1) m (view loop.self.a) w.if-i-c.true (omega arith) (omega arith) h.at i j a b)),
            ap (λ (e : Equations). e.p) w.self-is ∙ w.reduce_row.ensures.1 ∙ loop.invariant.2,
          )
      | else-i-c w ↦ (
        omega arith,
        rw (ap (λ (e : Equations). e.a) w.self-is) (holds_same _ _ _ h (λ i j a b. eliminated_skip s.c loop.i (s.self.now.p + 1) m w.if-i-c.false i j)),
        ap (λ (e : Equations). e.p) w.self-is ∙ loop.invariant.2,
      )
    ]

pub returns : goal.returns
returns c =
    let end : c.loop-i.i ≡ c.args.self.now.p = omega arith in
    (whole _ _ (rw end at c.loop-i.invariant.1), c.loop-i.invariant.2)
