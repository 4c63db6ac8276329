-- `fit::kernel::observe`: after c of the fifth steps the n known positions among them stand in order, and n is at most c. Assumes nothing.
use Rattle.inputs.specs.Lent.{keyed_of}
use Rattle.fit.proofs.Notes.{Sofar}
use Rattle.fit.specs.Fit.{state_for}
use Rattle.std.proofs.Common.{◌+◌, ◌-◌, ◌/◌, ◌≤◌}
use Rattle.fit.proofs.kernel.observe.Given as goal

abbrev pub invariant-loop-c : goal.invariant-loop-c
invariant-loop-c l = (l.c ≤ l.bench.arc.steps / 5 + 1) × Sofar (state_for (keyed_of l.bench.states)) l.bench.arc.t0 l.initial.s l.s l.bench.base l.c l.count

abbrev pub decreases-loop-c : goal.decreases-loop-c
decreases-loop-c l = l.bench.arc.steps / 5 + 1 - l.c
