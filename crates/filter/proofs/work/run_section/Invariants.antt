-- `filter::work::run_section`: what has passed, with the rest through the section from its memory, is the whole through it. Assumes nothing.
use mathlib.Core.Path.{◌≡◌}
use mathlib.Core.List.{◌++◌}
use lib.ListN.{take, drop}
use Rattle.filter.specs.Filter.{rest, through_one}
use Rattle.filter.proofs.work.run_section.Given as goal

abbrev pub invariant-loop-v : goal.invariant-loop-v
invariant-loop-v l = take l.v-index l.x ++ through_one l.section l.m (drop l.v-index l.x) ≡ through_one l.section rest l.initial.x
