-- `root::Digits::root` meets its contract. Assumes nothing.
use Rattle.root.proofs.Whole.{placed_at}
use Rattle.root.proofs.Digits.root.Goals as goal

pub returns : goal.returns
returns c =
    let s = c.args.self in
    let of = c.radicand.ensures in
    λ n e. placed_at n s.f s.k c.radicand.result.c c.settled.result s.small s.from s.to e of.0 (rw of.1 at c.settled.ensures)
