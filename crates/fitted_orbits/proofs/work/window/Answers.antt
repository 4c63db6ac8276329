-- `fitted_orbits::work::window`: a long window and a refused fit add nothing, any other fit its states inside and its rms; by proofs/Windows.antt. Assumes nothing.
use Rattle.std.proofs.Common.{T, sym, ap, subst, arith}
use Rattle.fit.specs.Fit.{answer_of}
use Rattle.fitted_orbits.specs.Calls.{outputs}
use Rattle.windows.proofs.Arcs.{Fine}
use Rattle.windows.proofs.Filling.{arc_few, arc_inside}
use Rattle.fitted_orbits.proofs.Windows.{long_adds, track_fits, refused_adds, fitted_adds_at}
use Rattle.fitted_orbits.proofs.work.window.Goals as goal

pub returns-then-not-span : goal.returns-then-not-span
returns-then-not-span c = let a = c.args in long_adds _ _ _ a.span.from a.span.to a.done (outputs a.outkeys.now a.outstates.now a.rms.now) c.if-not-span.true

pub keep-states-requires : goal.keep-states-requires
keep-states-requires c =
    let a = c.args in
    let short : Fine a.span.from a.span.to = record { ends = a.span.ends; short = subst T (sym c.if-not-span.false) tt } in
    let fits = track_fits a.track a.span.from a.span.to short a.s.now _ _ _ c.requires.0 c.arc_between-arc.ensures c.fit_arc.ensures in (
      arc_few a.span.from a.span.to short _ c.arc_between-arc.ensures,
      arc_inside a.span.from a.span.to short _ c.arc_between-arc.ensures,
      omega (arith, fits.only.long, c.requires.0),
      omega (arith, c.requires.1.keys),
      omega (arith, c.requires.1.states),
    )

pub returns-in-Fitted : goal.returns-in-Fitted
returns-in-Fitted c =
    let a = c.args in
    let short : Fine a.span.from a.span.to = record { ends = a.span.ends; short = subst T (sym c.if-not-span.false) tt } in
    let fits = track_fits a.track a.span.from a.span.to short a.s.now _ _ _ c.requires.0 c.arc_between-arc.ensures c.fit_arc.ensures in
    fitted_adds_at _ _ _ a.span.from a.span.to short a.track.model.degree a.s.now _ _ _ a.done (outputs a.outkeys.now a.outstates.now a.rms.now) _ c.in-Fitted.x _ _ _ _ _ (ap answer_of c.in-Fitted.is)
    a.track.placed c.arc_between-arc.ensures fits c.keep-states.ensures c.put_rms-windows.ensures.0 c.put_rms-windows.ensures.1

pub returns : goal.returns
returns c =
    let a = c.args in
    let short : Fine a.span.from a.span.to = record { ends = a.span.ends; short = subst T (sym c.if-not-span.false) tt } in
    let fits = track_fits a.track a.span.from a.span.to short a.s.now _ _ _ c.requires.0 c.arc_between-arc.ensures c.fit_arc.ensures in
    refused_adds _ _ _ a.span.from a.span.to short a.track.model.degree a.s.now _ a.done (outputs a.outkeys.now a.outstates.now a.rms.now) _ _ (ap answer_of c.in_default.is) fits
