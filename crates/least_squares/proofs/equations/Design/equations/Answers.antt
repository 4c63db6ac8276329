-- Two loops that fill the normal equations row by row; the inner one says what it adds to any matrix held. Assumes nothing.
use Rattle.std.proofs.Common.{replicate}
use Rattle.laws.specs.Floats.{zero64}
use mathlib.Core.Path.{◌≡◌, refl, ◌∙◌}
use Prim.Native.Nat.{◌+◌}
use native.Mathlib.Omega.{arith}
use Rattle.least_squares.proofs.MatrixLoops.{as_it_is, holds_same, store, filled_none, filled_at, filled_more, filled_row}
use Rattle.least_squares.proofs.MatrixLoops.{filled, filled_all}
use Rattle.least_squares.specs.Flat.{view}
use Rattle.least_squares.specs.LeastSquares.{normal_at}
use Rattle.least_squares.proofs.equations.Design.equations.Goals as goal

pub loop-i-init : goal.loop-i-init
loop-i-init c =
    (omega arith, refl, holds_same _ _ _ (as_it_is (replicate 240 zero64) refl) (λ i j a b. filled_none 0 (c.args.self.p + 1) 0 _ (view (replicate 240 zero64)) i j))

pub loop-j-preserved : goal.loop-j-preserved
loop-j-preserved c =
    let s = c.args in
    let i = c.loop-i.i in
    let loop = c.loop-j in
    let n = normal_at s.self.rows.now s.self.y.now s.self.p in (
      omega arith,
      λ x h. store loop.a (filled i (s.self.p + 1) loop.j n x) (filled i (s.self.p + 1) (loop.j + 1) n x) i loop.j _ (omega arith) (omega arith) (loop.invariant.1 x h)
          (c.entry.ensures ∙ filled_at i (s.self.p + 1) loop.j n x)
          (λ i' j' a b t. filled_more i (s.self.p + 1) loop.j n x i' j' t),
    )

pub loop-i-preserved : goal.loop-i-preserved
loop-i-preserved c =
    let s = c.args in
    let loop = c.loop-i in
    let n = normal_at s.self.rows.now s.self.y.now s.self.p in
    let end : c.loop-j.j ≡ s.self.p + 1 = omega arith in (
      omega arith,
      refl,
      holds_same _ _ _ (rw end at (c.loop-j.invariant.1 (view (replicate 240 zero64)) loop.invariant.2)) (λ i j a b. filled_row loop.i (s.self.p + 1) 0 n (view (replicate 240 zero64)) i j),
    )

pub returns : goal.returns
returns c =
    let end : c.loop-i.i ≡ c.args.self.p = omega arith in
    (filled_all c.args.self.rows.now c.args.self.y.now c.args.self.p _ _ refl (rw end at c.loop-i.invariant.2), refl)
