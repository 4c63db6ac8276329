-- `legendre::unscale_row`: the first m places hold the powers of the cosine over the scale, and x is the next. Assumes nothing.
use Rattle.legendre.specs.Legendre.{unscale}
use Rattle.legendre.specs.Arrays.{Has}
use mathlib.Core.Path.{◌≡◌}
use Rattle.legendre.proofs.unscale_row.Given as goal

abbrev pub invariant-loop-m : goal.invariant-loop-m
invariant-loop-m l = (l.x ≡ unscale l.u l.m) × Has l.m (unscale l.u) l.r
