-- `root::Radicand::searched` meets its contract. Assumes nothing.
use native.Mathlib.Omega.{arith}
use Rattle.root.proofs.Patterns.{low_no_nan}
use Rattle.root.proofs.Whole.{range}
use Rattle.root.proofs.Radicand.searched.Goals as goal

pub float_from_bits-result : goal.float_from_bits-result
float_from_bits-result c = low_no_nan _ (omega (arith, range c.args.self.c c.beside.result (omega arith) (omega arith) c.beside.ensures))
