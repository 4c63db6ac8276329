-- `solid_tide::degree3::degree_sums`: the sums before degree n are the definition's. Assumes nothing.
use mathlib.Core.Path.{refl, ap, ◌∙◌}
use Rattle.laws.specs.Sums.{sum_to}
use Rattle.legendre.specs.Sums.{power, all_r, all_lat, all_lon}
use Rattle.solid_tide.specs.Gravity.{add_degree, degree_sums}
use Rattle.solid_tide.proofs.Series.{one_degree}
use Rattle.solid_tide.proofs.degree3.degree_sums.Goals as goal

pub loop-n-init : goal.loop-n-init
unfolding degree_sums power all_r all_lat all_lon sum_to
loop-n-init c = refl

pub loop-n-preserved : goal.loop-n-preserved
loop-n-preserved c = c.add_to-t.ensures ∙ ap (add_degree _ _ _) c.loop-n.invariant ∙ one_degree _ _ _
