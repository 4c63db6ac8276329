-- `published::sky::axis_distance`: the four calls are those of the definition. Assumes nothing.
use Rattle.published.proofs.sky.axis_distance.Goals as goal

pub returns : goal.returns
returns c = simp (c.norm-2.ensures, c.norm.ensures, c.cross.ensures, c.sub-axis.ensures)
