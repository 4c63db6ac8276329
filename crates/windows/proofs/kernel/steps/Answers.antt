-- `windows::kernel::steps`: the number of steps is the definition's and at most 5302, by the bounds of proofs/Times.antt and crate `finality`. Assumes nothing.
use Rattle.std.proofs.Common.{◌≡◌, T, sym, ap, ◌∙◌, subst, arith}
use lib.Ieee.{Float, le}
use Rattle.laws.specs.Floats.{zero64, ◌⊕◌, ◌⊖◌, ◌⊘◌}
use Rattle.laws.specs.WholeNumbers.{ceil}
use Rattle.laws.specs.Times.{step}
use Rattle.finality.specs.Arcs.{half_hour, steps}
use Rattle.finality.proofs.WindowTimes.{steps_short}
use Rattle.windows.specs.Slots.{highest}
use Rattle.windows.proofs.Times.{steps_low, steps_high}
use Rattle.windows.proofs.kernel.steps.Goals as goal

pub ceil-requires : goal.ceil-requires
ceil-requires c =
    let a = c.args in
    let pre = c.requires in (
      subst (λ (t : Float). T (le zero64 ((a.b ⊕ half_hour ⊖ t) ⊘ step))) (sym c.start.ensures) (steps_low a.a a.b pre.0 pre.1 pre.2),
      subst (λ (t : Float). T (le ((a.b ⊕ half_hour ⊖ t) ⊘ step) highest)) (sym c.start.ensures) (steps_high a.a a.b pre.0 pre.1 pre.2),
    )

pub returns : goal.returns
unfolding steps
returns c =
    let a = c.args in
    let pre = c.requires in
    let e : c.ceil.result ≡ steps a.a a.b = c.ceil.ensures ∙ ap (λ (t : Float). ceil ((a.b ⊕ half_hour ⊖ t) ⊘ step)) c.start.ensures in
    (e, omega (arith, e, steps_short a.a a.b pre.0 pre.1 pre.2 pre.3))
