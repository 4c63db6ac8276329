-- `sun_moon::kernel::series`: the sum so far, with the terms left added to it, is the sum over all terms. Assumes nothing.
use Rattle.sun_moon.proofs.Series.{series_step, series_end}
use Rattle.sun_moon.proofs.kernel.series.Goals as goal

pub loop-term-preserved : goal.loop-term-preserved
loop-term-preserved g c f h =
    series_step f _ _ _ _ _ _ _ c.angle.ensures (h _ _ c.wave.ensures) c.loop-term-test.true (c.loop-term.invariant f h)

pub returns : goal.returns
returns g c f h = series_end f _ _ _ _ _ c.loop-term-test.false (c.loop-term.invariant f h)
