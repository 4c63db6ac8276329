-- `windows::kernel::leave`: a long window leaves nothing, a fitted arc its states inside, a refused one none; each by its law of proofs/Filling.antt. Assumes nothing.
use Rattle.std.proofs.Common.{T, sym, ap, subst, arith}
use Rattle.fit.specs.Fit.{answer_of}
use Rattle.windows.proofs.Arcs.{Fine}
use Rattle.windows.proofs.Filling.{long_leaves, track_fits, arc_start, arc_steps, arc_few, arc_inside, fitted_leaves, refused_leaves}
use Rattle.windows.proofs.kernel.leave.Goals as goal

pub returns-then-not-span : goal.returns-then-not-span
returns-then-not-span c = let a = c.args in long_leaves _ _ _ a.span.from a.span.to a.span.ends a.s.now a.track.base a.at c.if-not-span.true

pub keep-requires : goal.keep-requires
keep-requires c =
    let a = c.args in
    let fine : Fine a.span.from a.span.to = record { ends = a.span.ends; short = subst T (sym c.if-not-span.false) tt } in
    let fit = track_fits a.track a.span.from a.span.to fine a.s.now _ _ _ (omega arith) c.arc_between-arc.ensures c.fit_arc.ensures in (
      arc_few a.span.from a.span.to fine _ c.arc_between-arc.ensures,
      arc_inside a.span.from a.span.to fine _ c.arc_between-arc.ensures,
      omega arith,
      omega (arith, fit.only.long),
    )

pub returns-in-Fitted : goal.returns-in-Fitted
returns-in-Fitted c =
    let a = c.args in
    let fine : Fine a.span.from a.span.to = record { ends = a.span.ends; short = subst T (sym c.if-not-span.false) tt } in
    let fit = track_fits a.track a.span.from a.span.to fine a.s.now _ _ _ (omega arith) c.arc_between-arc.ensures c.fit_arc.ensures in
    fitted_leaves _ _ _ a.span.from a.span.to a.span.ends fine.short a.s.now _ _ a.track.base a.at _ _ _ _ _ (ap answer_of c.in-Fitted.is)
    (arc_start a.span.from a.span.to fine _ c.arc_between-arc.ensures) (arc_steps a.span.from a.span.to fine _ c.arc_between-arc.ensures) (omega arith) fit c.keep.ensures

pub returns-in-Refused : goal.returns-in-Refused
returns-in-Refused c =
    let a = c.args in
    let fine : Fine a.span.from a.span.to = record { ends = a.span.ends; short = subst T (sym c.if-not-span.false) tt } in
    let fit = track_fits a.track a.span.from a.span.to fine a.s.now _ _ _ (omega arith) c.arc_between-arc.ensures c.fit_arc.ensures in
    refused_leaves _ _ _ a.span.from a.span.to a.span.ends fine.short a.s.now _ a.track.base a.at _ _ (ap answer_of c.in-Refused.is) (omega arith) fit
