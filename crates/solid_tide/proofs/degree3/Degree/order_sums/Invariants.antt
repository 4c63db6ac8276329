-- `solid_tide::degree3::Degree::order_sums`: the sums before order m are the definition's. Assumes nothing.
use Rattle.std.specs.Prelude.{◌≡◌}
use Rattle.solid_tide.specs.Gravity.{order_sums}
use Rattle.solid_tide.proofs.degree3.Degree.order_sums.Given as goal

abbrev pub invariant-loop-m : goal.invariant-loop-m
invariant-loop-m l = l.s ≡ order_sums l.self.tables.now l.self.n l.m
