-- `legendre::partials_in`: what the rows sum up from the parts of the work slice is the definition's potential with its derivatives. Assumes nothing.
use Rattle.std.proofs.Common.{arith}
use Rattle.legendre.proofs.Kernel.{partials_are}
use Rattle.legendre.proofs.partials_in.Goals as goal

pub returns : goal.returns
returns c =
    let a = c.args in
    let g = a.given.now in
    partials_are g.last.n a.gm a.radius g.a.now g.b.now g.work.now a.r a.lat a.lon _ _ _ _ _ (record { degree = g.last.small; a = g.a_full; b = g.b_full; work = g.long })
    (c.triangle-l.ensures.0 (omega arith)) c.tables_in-tables.ensures.kept c.sine_cosine-w.ensures c.tables_in-tables.ensures.value c.streamed-z.ensures
