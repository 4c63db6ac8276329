-- `detrend::ranges_fit`: whether the ranges from k on fit is whether all do. Assumes nothing.
use mathlib.Core.Path.{◌≡◌}
use Prim.Native.Nat.{◌≤◌}
use lib.ListN.{length, drop}
use Rattle.detrend.specs.Ranges.{ranges_fit}
use Rattle.detrend.proofs.parts.Parts.all_fit.Given as goal

abbrev pub invariant-loop-k : goal.invariant-loop-k
invariant-loop-k l = (l.k ≤ length l.self.firsts.now) × (ranges_fit (drop l.k l.self.firsts.now) (drop l.k l.self.ends.now) l.n ≡ ranges_fit l.self.firsts.now l.self.ends.now l.n)
