-- `root::Radicand::slow` meets its contract. The loop keeps lo * lo < c * 2 ^ 52 ≤ hi * hi, and hi - lo falls. Assumes nothing.
use Prim.Native.Nat.{◌*◌, ◌-◌, ◌≤◌, ◌<◌}
use Rattle.root.proofs.Radicand.slow.Given as goal

abbrev pub invariant-loop-lo : goal.invariant-loop-lo
invariant-loop-lo l = (l.lo * l.lo < l.self.c * 4503599627370496) × (l.self.c * 4503599627370496 ≤ l.hi * l.hi) × (l.lo < l.hi) × (l.hi ≤ 9007199254740992)

abbrev pub decreases-loop-lo : goal.decreases-loop-lo
decreases-loop-lo l = l.hi - l.lo
