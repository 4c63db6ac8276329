-- `detrend::work::remove_all`: what is done, with the revolutions left on the rest, is the removal over all nodes. Assumes nothing.
use mathlib.Core.Path.{◌≡◌, refl, ◌∙◌}
use Prim.Native.Nat.{ℕ, ◌/◌}
use lib.ListN.{length}
use native.Mathlib.Omega.{arith}
use borrow.Author.Rules.{rules}
use Rattle.detrend.proofs.RevolutionWalk.{removed_starts, removed_turn, removed_done, starts_inside}
use Rattle.detrend.proofs.work.remove_all.Goals as goal

pub loop-k-init : goal.loop-k-init
loop-k-init c = (omega arith, omega arith, search (rules, starts_inside), refl, refl, search (rules, removed_starts))

pub loop-k-preserved : goal.loop-k-preserved
loop-k-preserved c =
    let s = c.args in
    let l = c.loop-k in
    let n : ℕ = length s.s.now / 8 in
    let w = c.window-first in
    let same : length l.s / 8 ≡ n = omega arith in
    let here = rw same at w.ensures in (
      omega arith,
      omega arith,
      here.inside,
      search rules,
      here.times ∙ l.invariant.4,
      removed_turn n l.first l.k w.result s.nodes.now l.s s.s.now w.new.s (omega arith) (omega arith) (omega arith) l.invariant.3 l.invariant.4 here l.invariant.5,
    )

pub returns : goal.returns
returns c = search (rules, removed_done)
