-- `sun_moon::kernel::series`: the sum so far, with the terms left added to it, is the sum over all terms. Assumes nothing.
use Rattle.std.specs.Prelude.{◌≡◌, drop, Float}
use Rattle.sun_moon.specs.SunMoon.{series}
use Rattle.sun_moon.proofs.kernel.series.Given as goal

-- what is left of the table gives the whole
abbrev pub invariant-loop-term : goal.invariant-loop-term
invariant-loop-term g l =
    (f : Float → Float) → ((x y : Float) → goal.F-post g l.wave x y → y ≡ f x) → series f l.a l.sum (drop l.term-index l.terms) ≡ series f l.a l.start l.terms
