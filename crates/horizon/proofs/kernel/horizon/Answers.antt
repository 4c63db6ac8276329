-- `horizon::kernel::horizon`, from the last node to the first: the answer is the largest of the nodes that are left. Assumes nothing.
use Rattle.std.proofs.Common.{rules, ◌∙◌}
use Rattle.std.specs.Slice.Iter.{iter_rest}
use Rattle.std.specs.Iterator.Adapters.{rev_source}
use Rattle.horizon.proofs.FromTheBack.{node_passes, node_fails, none_left}
use Rattle.horizon.proofs.kernel.horizon.Goals as goal

pub returns-then-reach_beyond : goal.returns-then-reach_beyond
returns-then-reach_beyond c = node_passes _ _ _ _ _ c.in-Some.ensures.steps c.if-reach_beyond.ensures c.loop-z.invariant

pub loop-z-preserved : goal.loop-z-preserved
loop-z-preserved c = node_fails _ _ _ _ _ c.in-Some.ensures.steps c.if-reach_beyond.ensures c.loop-z.invariant

pub returns : goal.returns
returns c = none_left _ (iter_rest (rev_source c.loop-z.z-iterator)) (search rules) ∙ c.loop-z.invariant
