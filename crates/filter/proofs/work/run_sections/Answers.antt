-- `filter::work::run_sections` meets its contract. Assumes nothing.
use native.Mathlib.Omega.{arith}
use Rattle.filter.proofs.Turns.{run_done}
use Rattle.filter.proofs.work.run_sections.Goals as goal

pub returns : goal.returns
returns c = run_done c.args.sections.now c.loop-k-2.x _ c.loop-k-2.k (omega arith) c.loop-k-2.invariant
