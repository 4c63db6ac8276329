-- `root::tail` meets its contract. Assumes nothing.
use native.Mathlib.Omega.{arith}
use Prim.Native.Nat.{◌+◌, ◌-◌, ◌*◌, ◌/◌, ◌%◌}
use Rattle.root.proofs.Whole.{placed_at, same_digits}
use Rattle.root.proofs.tail.Goals as goal

pub returns : goal.returns
returns c =
    let a = c.args in
    let f = a.m - 4503599627370496 + a.j % 2 * 4503599627370496 in
    let of = c.radicand.ensures in
    λ n e. placed_at n f (a.j / 2 + 485) c.radicand.result.c c.searched.result (omega arith) (omega arith) (omega arith)
    (same_digits n a.m a.j (omega arith) (omega arith) e) of.0 (rw of.1 at c.searched.ensures)
