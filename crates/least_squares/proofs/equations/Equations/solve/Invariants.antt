-- After c columns the array is the definition's stage c, and every pivot so far was large enough. Assumes nothing.
use mathlib.Core.Path.{◌≡◌}
use mathlib.Core.Bool.{true}
use Prim.Native.Nat.{◌≤◌}
use Rattle.least_squares.specs.Flat.{fine_in, stage_in}
use Rattle.least_squares.proofs.equations.Equations.solve.Given as goal

abbrev pub invariant-loop-c : goal.invariant-loop-c
invariant-loop-c l =
    (l.c ≤ l.initial.self.p) × (fine_in l.initial.self.p l.initial.self.a l.c ≡ true) × (l.self.a ≡ stage_in l.initial.self.p l.initial.self.a l.c) × (l.self.p ≡ l.initial.self.p)
