-- `legendre::unscale_row`: the first m places hold the powers of the cosine over the scale, and x is the next. Assumes nothing.
use Rattle.legendre.specs.Legendre.{unscale}
use mathlib.Core.Path.{refl}
use native.Mathlib.Omega.{arith}
use native.Mathlib.Numerals.{add-one}
use Rattle.legendre.proofs.FilledArrays.{has_none, has_more}
use Rattle.legendre.proofs.unscale_row.Goals as goal

pub loop-m-init : goal.loop-m-init
unfolding unscale
loop-m-init c = (refl, has_none (omega arith))

pub loop-m-preserved : goal.loop-m-preserved
unfolding unscale
loop-m-preserved c = (rw (add-one, c.loop-m.invariant.0), has_more _ c.loop-m.invariant.1 (omega arith) c.loop-m.invariant.0)
