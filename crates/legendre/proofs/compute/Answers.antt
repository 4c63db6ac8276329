-- `legendre::compute`: the work is done where the lengths fit, and nothing changes otherwise. Assumes nothing.
use Rattle.std.proofs.Common.{◌≡◌, false}
use Rattle.legendre.specs.Tables.{both_fit}
use Rattle.legendre.proofs.RowsOfTables.{computed_not}
use Rattle.legendre.proofs.compute.Goals.{else-fits-via-then-fits+else-fits-2, else-fits-via-else-fits}
use Rattle.legendre.proofs.compute.Goals as goal

pub returns-else-fits : goal.returns-else-fits
returns-else-fits c =
    let a = c.args in
    let unfit : both_fit a.degree a.a.now a.b.now a.work.now a.p.now a.dp.now ≡ false = elim c.else-fits.branch [
      | else-fits-via-then-fits+else-fits-2 w ↦ rw (← c.fits.ensures, ← w.fits-then-fits.ensures, w.if-fits.true, w.if-fits-2.false)
      | else-fits-via-else-fits w ↦ rw (← c.fits.ensures, w.if-fits.false)
    ] in
    computed_not a.degree a.a.now a.b.now a.work.now a.lat a.p.now a.dp.now unfit
