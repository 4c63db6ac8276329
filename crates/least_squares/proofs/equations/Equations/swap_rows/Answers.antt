-- After k columns the array holds the matrix with the two rows swapped in these columns. Assumes nothing.
use Rattle.least_squares.proofs.MatrixLoops.{holds_same, store_put, swapped_none, swapped_col, swapped_more}
use mathlib.Core.Path.{◌≡◌, refl, sym, ◌∙◌}
use Prim.Native.Nat.{◌+◌, ◌*◌}
use lib.Ieee.{nan}
use Rattle.std.proofs.lemmas.List.Edits.{swap_is}
use native.Mathlib.Omega.{arith}
use Rattle.least_squares.proofs.MatrixLoops.{as_it_is, whole}
use Rattle.least_squares.specs.Flat.{view}
use Rattle.least_squares.proofs.equations.Equations.swap_rows.Goals as goal

pub loop-k-init : goal.loop-k-init
loop-k-init c =
    let s = c.args in
    (omega arith, refl, refl, holds_same _ _ _ (as_it_is s.self.now.a s.self.now.long) (λ i j a b. swapped_none s.c s.q 0 (view s.self.now.a) i j))

pub loop-k-preserved : goal.loop-k-preserved
loop-k-preserved c =
    let s = c.args in
    let loop = c.loop-k in
    let m = view s.self.now.a in
    let h = loop.invariant.3 in
    let u = h.at s.c loop.k (omega arith) (omega arith) ∙ swapped_col s.c s.q loop.k m s.c in
    let v = h.at s.q loop.k (omega arith) (omega arith) ∙ swapped_col s.c s.q loop.k m s.q in
    let is = c.swap.ensures.after ∙ sym (swap_is loop.self.a (s.c * 16 + loop.k) (s.q * 16 + loop.k) nan (omega (arith, h.long)) (omega (arith, h.long))) in (
      omega arith,
      refl,
      loop.invariant.2,
      rw (is, u, v)
          (holds_same _ _ _
          (store_put _ _ s.q loop.k _ (omega arith) (omega arith) (store_put loop.self.a _ s.c loop.k _ (omega arith) (omega arith) h))
          (λ i j a b. swapped_more s.c s.q loop.k m i j)),
    )

pub returns : goal.returns
returns c =
    let end : c.loop-k.k ≡ c.args.self.now.p + 1 = omega arith in
    (whole _ _ (rw end at c.loop-k.invariant.3), c.loop-k.invariant.2)
