-- `windows::kernel::fit_each`: the slots before w hold the states of their windows, and behind a fit's work nothing outside these slots has moved. Assumes nothing.
use Rattle.inputs.specs.Lent.{model_of, keyed_of}
use Rattle.std.proofs.Common.{◌≡◌, ℕ, ◌-◌, length, subst, arith}
use Rattle.windows.specs.Windows.{states_left, Filled}
use Rattle.windows.proofs.Filling.{filled_more}
use Rattle.windows.proofs.kernel.fit_each.Goals as goal

pub loop-w-preserved : goal.loop-w-preserved
loop-w-preserved c =
    let a = c.args in
    (omega arith, filled_more _ a.nodes.now c.loop-w.w _ _ _ a.track.base a.first c.requires.1 c.loop-w.invariant.1 c.window.ensures)

pub returns : goal.returns
returns c =
    let a = c.args in
    let e : c.loop-w.w ≡ length a.nodes.now - 1 = omega (arith, c.loop-w.invariant.0) in
    subst (λ (m : ℕ). Filled (states_left (model_of a.track.model) (keyed_of a.track.states)) a.nodes.now m a.s.now c.loop-w.s a.track.base a.first) e c.loop-w.invariant.1
