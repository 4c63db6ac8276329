-- `fit::kernel::design`: the first i columns are those of the runs with their parameter moved; from the observations on only the design changes. Assumes nothing.
use Rattle.fit.specs.Fit.{moved_of}
use Rattle.fit.specs.WorkLeaves.{Designed}
use Rattle.integrate.specs.Force.{run_of, attraction_of}
use Rattle.integrate.specs.declared.kernel.Force.TheVariants.{J2}
use Rattle.std.proofs.Common.{ℕ, ◌-◌, ◌*◌, ◌≤◌}
use Rattle.inputs.specs.Lent.{model_of}
use Rattle.fit.proofs.kernel.design.Given as goal

abbrev pub invariant-loop-i : goal.invariant-loop-i
invariant-loop-i l = (l.i ≤ 15) × Designed (λ (j : ℕ). run_of (attraction_of J2 (model_of l.bench.model)) l.bench.arc (moved_of l.p j)) l.bench.arc.steps l.initial.s l.s l.bench.base (3 * l.known.count) l.i

abbrev pub decreases-loop-i : goal.decreases-loop-i
decreases-loop-i l = 15 - l.i
