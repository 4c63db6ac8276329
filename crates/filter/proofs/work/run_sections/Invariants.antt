-- `filter::work::run_sections` meets its contract. Assumes nothing.
use mathlib.Core.Path.{◌≡◌}
use Prim.Native.Nat.{◌*◌}
use lib.ListN.{drop}
use Rattle.filter.specs.Sections.{sections_of}
use Rattle.filter.specs.Filter.{through}
use Rattle.filter.proofs.work.run_sections.Given as goal

abbrev pub invariant-loop-k : goal.invariant-loop-k
invariant-loop-k l = through (sections_of (drop (20 * l.k) l.sections)) l.x ≡ through (sections_of l.sections) l.initial.x

abbrev pub invariant-loop-k-2 : goal.invariant-loop-k-2
invariant-loop-k-2 l = through (sections_of (drop (5 * l.k) l.sections)) l.x ≡ through (sections_of l.sections) l.fn.x
