-- `solid_tide::degree3::Degree::order_sums`: the sums before order m are the definition's. Assumes nothing.
use mathlib.Core.Path.{refl, ap, ◌∙◌}
use Rattle.laws.specs.Sums.{sum_to}
use Rattle.solid_tide.specs.Gravity.{add_order, order_sums}
use Rattle.solid_tide.proofs.Series.{one_order}
use Rattle.solid_tide.proofs.degree3.Degree.order_sums.Goals as goal

pub loop-m-init : goal.loop-m-init
unfolding order_sums sum_to
loop-m-init c = refl

pub loop-m-preserved : goal.loop-m-preserved
loop-m-preserved c = c.add_order-s.ensures ∙ ap (add_order _ _ _) c.loop-m.invariant ∙ one_order _ _ _
