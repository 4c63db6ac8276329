-- `solid_tide::degree3::degree_sums`: the sums before degree n are the definition's. Assumes nothing.
use Rattle.std.specs.Prelude.{◌≡◌}
use Rattle.solid_tide.specs.Gravity.{degree_sums}
use Rattle.solid_tide.proofs.degree3.degree_sums.Given as goal

abbrev pub invariant-loop-n : goal.invariant-loop-n
invariant-loop-n l = l.t ≡ degree_sums l.f l.q l.n
