-- `fitted_orbits::work::keep`: after k steps the states among them that lie in the window stand behind the first ones; n counts them, and the lengths stay. Assumes nothing.
use Prim.Native.Nat.{◌+◌, ◌-◌, ◌≤◌}
use Rattle.fitted_orbits.proofs.Keeping.{Keeping}
use Rattle.fitted_orbits.proofs.work.keep.Given as goal

abbrev pub invariant-loop-k : goal.invariant-loop-k
invariant-loop-k l = (l.k ≤ l.steps + 1) × (l.n ≤ l.first + 3500) × Keeping l.t0 l.span.from l.span.to l.s l.base l.first l.k l.n l.initial.outkeys l.outkeys l.initial.outstates l.outstates

abbrev pub decreases-loop-k : goal.decreases-loop-k
decreases-loop-k l = l.steps + 1 - l.k
