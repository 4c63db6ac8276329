-- The best row so far is the definition's choice among the rows seen. Assumes nothing.
use mathlib.Core.Path.{◌≡◌}
use Prim.Native.Nat.{◌+◌, ◌-◌, ◌≤◌, ◌<◌}
use Rattle.least_squares.specs.Elimination.{largest}
use Rattle.least_squares.specs.Flat.{view}
use Rattle.least_squares.proofs.equations.Equations.pivot.Given as goal

abbrev pub invariant-loop-i : goal.invariant-loop-i
invariant-loop-i l =
    (l.c < l.i) × (l.i ≤ l.self.p) × (l.best < l.i) × (l.best ≡ largest (view l.self.a) l.c (l.i - (l.c + 1)))
