-- `windows::kernel::arc_between`: the start and the steps of a window shorter than 7,000 s, else an arc of no steps. Assumes nothing.
use Rattle.std.proofs.Common.{sym, ◌∙◌}
use Rattle.laws.specs.Order.{lt→le}
use Rattle.windows.proofs.Arcs.{fine_says}
use Rattle.windows.proofs.kernel.arc_between.Goals as goal

pub start-requires : goal.start-requires
start-requires c = (fine_says c.args.from c.args.to (sym c.window_fine.ensures ∙ c.if-window_fine.true)).ends.from

pub steps-requires : goal.steps-requires
steps-requires c =
    let a = c.args in
    let f = fine_says a.from a.to (sym c.window_fine.ensures ∙ c.if-window_fine.true) in
    (f.ends.from, f.ends.to, lt→le a.from a.to f.ends.order, f.short)
