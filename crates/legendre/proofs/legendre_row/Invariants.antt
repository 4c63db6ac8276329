-- `legendre::legendre_row`: the first m places are the next row in the place of the row before last, and p has its products with the powers. Assumes nothing.
use Rattle.laws.specs.Floats.{◌⊗◌}
use Rattle.legendre.specs.Rows.{next_by, lent}
use Rattle.legendre.specs.Arrays.{at, Begins, Has}
use Prim.Native.Nat.{ℕ}
use Rattle.legendre.proofs.legendre_row.Given as goal

abbrev pub invariant-loop-m : goal.invariant-loop-m
invariant-loop-m l =
    Begins l.m (next_by (lent l.latitude.tables) l.latitude.sine l.fn.degree.n (at l.q1) (at l.initial.q2)) l.initial.q2 l.q2
    × Has l.m (λ (i : ℕ). next_by (lent l.latitude.tables) l.latitude.sine l.fn.degree.n (at l.q1) (at l.initial.q2) i ⊗ at l.latitude.powers.now i) l.p
