-- `legendre::order_rows`: the first m places hold cosine and sine of the multiples of the longitude. Assumes nothing.
use mathlib.Core.Path.{ap, ◌∙◌}
use native.Mathlib.Omega.{arith}
use lib.Ieee.{Float}
use Rattle.laws.specs.Floats.{◌⊗◌}
use Rattle.numbers.specs.declared.SineCosine.{SineCosine}
use Rattle.numbers.specs.Numbers.{sine, cosine, sine_cosine}
use Rattle.legendre.proofs.FilledArrays.{has_more}
use Rattle.legendre.proofs.order_rows.Goals as goal

pub loop-m-preserved : goal.loop-m-preserved
unfolding sine_cosine
loop-m-preserved c =
    let h = c.loop-m in
    let e = c.float_of.ensures in
    let lon = c.args.lon in
    let both = c.sine_cosine-z.ensures in (
      has_more _ h.invariant.0 (omega arith) (ap (λ (z : SineCosine). z.cosine) both ∙ ap (λ (k : Float). cosine (k ⊗ lon)) e),
      has_more _ h.invariant.1 (omega arith) (ap (λ (z : SineCosine). z.sine) both ∙ ap (λ (k : Float). sine (k ⊗ lon)) e),
    )
