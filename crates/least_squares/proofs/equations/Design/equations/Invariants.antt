-- Two loops that fill the normal equations row by row; the inner one says what it adds to any matrix held. Assumes nothing.
use mathlib.Core.Path.{◌≡◌}
use Prim.Native.Nat.{◌+◌, ◌≤◌}
use Rattle.least_squares.proofs.MatrixLoops.{Holds}
use Rattle.least_squares.proofs.MatrixLoops.{filled}
use Rattle.least_squares.specs.Elimination.{Matrix}
use Rattle.least_squares.specs.Flat.{view}
use Rattle.least_squares.specs.LeastSquares.{normal_at}
use Rattle.least_squares.proofs.equations.Design.equations.Given as goal

abbrev pub invariant-loop-j : goal.invariant-loop-j
invariant-loop-j l =
    let normal = normal_at l.self.rows.now l.self.y.now l.self.p in
    (l.j ≤ l.w) × ((x : Matrix) → Holds l.initial.a (filled l.i l.w 0 normal x) → Holds l.a (filled l.i l.w l.j normal x))

abbrev pub invariant-loop-i : goal.invariant-loop-i
invariant-loop-i l =
    (l.i ≤ l.self.p) × (l.w ≡ l.self.p + 1) × Holds l.a (filled l.i l.w 0 (normal_at l.self.rows.now l.self.y.now l.self.p) (view l.initial.a))
