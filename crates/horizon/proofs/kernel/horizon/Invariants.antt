-- `horizon::kernel::horizon`, from the last node to the first: the answer is the largest of the nodes that are left. Assumes nothing.
use Rattle.std.proofs.Common.{◌≡◌}
use Rattle.std.specs.Slice.Iter.{iter_rest}
use Rattle.std.specs.Iterator.Adapters.{rev_source}
use Rattle.finality.specs.Sheet.{largest, reached_by}
use Rattle.horizon.specs.Lent.{ends_in}
use Rattle.horizon.proofs.kernel.horizon.Given as goal

abbrev pub invariant-loop-z : goal.invariant-loop-z
invariant-loop-z l =
    largest (reached_by (ends_in l.tracks)) (iter_rest (rev_source l.z-iterator)) ≡ largest (reached_by (ends_in l.tracks)) l.nodes
