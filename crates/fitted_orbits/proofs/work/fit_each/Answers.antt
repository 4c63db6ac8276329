-- `fitted_orbits::work::fit_each`: after w pairs of nodes the outputs have gained the windows of these pairs, and no length has changed. Assumes nothing.
use mathlib.Core.Path.{refl, ◌∙◌}
use native.Mathlib.Omega.{arith}
use Rattle.inputs.specs.Lent.{model_of, keyed_of}
use Rattle.fitted_orbits.specs.Calls.{outputs, fitted_between}
use Rattle.fitted_orbits.proofs.Windows.{each_none, each_more}
use Rattle.fitted_orbits.proofs.work.fit_each.Goals as goal

pub loop-w-init : goal.loop-w-init
loop-w-init c = let a = c.args in (
  omega arith,
  refl,
  each_none (fitted_between (model_of a.track.model) (keyed_of a.track.states)) a.nodes.now (outputs a.outkeys.now a.outstates.now a.rms.now),
)

pub loop-w-preserved : goal.loop-w-preserved
loop-w-preserved c =
    let a = c.args in
    let l = c.loop-w in (
      omega arith,
      c.window-done.auto.s ∙ l.invariant.1,
      each_more (fitted_between (model_of a.track.model) (keyed_of a.track.states)) a.nodes.now l.w l.done _
          (outputs a.outkeys.now a.outstates.now a.rms.now) (outputs l.outkeys l.outstates l.rms) _ (omega arith) l.invariant.2 c.window-done.ensures,
    )
