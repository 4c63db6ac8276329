-- `filter::work::run_four`: what has passed, with the rest through the four sections from their memories, is the whole through all four. Assumes nothing.
use mathlib.Core.Path.{◌≡◌}
use mathlib.Core.List.{[], ◌∷◌, ◌++◌}
use lib.ListN.{take, drop}
use Rattle.filter.specs.Filter.{through}
use Rattle.filter.proofs.Turns.{through_four}
use Rattle.filter.proofs.work.run_four.Given as goal

abbrev pub invariant-loop-v : goal.invariant-loop-v
invariant-loop-v l = take l.v-index l.x ++ through_four l.a l.b l.c l.d l.k l.l l.m l.n (drop l.v-index l.x) ≡ through (l.a ∷ l.b ∷ l.c ∷ l.d ∷ []) l.initial.x
