-- After k columns the array holds the matrix with row i reduced in these columns. Assumes nothing.
use Rattle.least_squares.proofs.MatrixLoops.{holds_same, reduced_none, reduced_more, reduced_at, reduced_col}
use mathlib.Core.Path.{◌≡◌, refl, ◌∙◌}
use Prim.Native.Nat.{◌+◌}
use native.Mathlib.Omega.{arith}
use Rattle.least_squares.proofs.MatrixLoops.{as_it_is, store, whole}
use Rattle.least_squares.specs.Flat.{reduced_to, view}
use Rattle.least_squares.proofs.equations.Equations.reduce_row.Goals as goal

pub loop-k-init : goal.loop-k-init
loop-k-init c =
    let s = c.args in
    (omega arith, refl, refl, holds_same _ _ _ (as_it_is s.self.now.a s.self.now.long) (λ i j a b. reduced_none s.c s.i 0 (view s.self.now.a) i j))

pub loop-k-preserved : goal.loop-k-preserved
loop-k-preserved c =
    let s = c.args in
    let loop = c.loop-k in
    let m = view s.self.now.a in
    let h = loop.invariant.3 in (
      omega arith,
      refl,
      loop.invariant.2,
      store loop.self.a (reduced_to s.c s.i loop.k m) (reduced_to s.c s.i (loop.k + 1) m) s.i loop.k _ (omega arith) (omega arith) h
          (simp (
            h.at s.i loop.k (omega arith) (omega arith) ∙ reduced_col s.c s.i loop.k m s.i,
            h.at s.c loop.k (omega arith) (omega arith) ∙ reduced_col s.c s.i loop.k m s.c,
          )
          (reduced_at s.c s.i loop.k m))
          (λ i' j a b n. reduced_more s.c s.i loop.k m i' j n),
    )

pub returns : goal.returns
returns c =
    let end : c.loop-k.k ≡ c.args.self.now.p + 1 = omega arith in
    (whole _ _ (rw end at c.loop-k.invariant.3), c.loop-k.invariant.2)
