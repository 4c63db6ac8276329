-- `published::table::row` counts by what it judges. Assumes nothing.
use Rattle.published.proofs.table.row.Goals as goal

pub returns : goal.returns
returns c = simp (c.count.ensures, c.is_within-within.ensures)
