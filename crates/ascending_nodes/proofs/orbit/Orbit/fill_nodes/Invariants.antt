-- After k keys the list has the nodes between them at its head and zeros behind. Assumes nothing.
use Rattle.std.proofs.Common.{◌≡◌, length}
use Rattle.ascending_nodes.proofs.Crossings.{Upto}
use Rattle.ascending_nodes.proofs.orbit.Orbit.fill_nodes.Given as goal

abbrev pub invariant-loop-k : goal.invariant-loop-k
invariant-loop-k l = record { long : length l.out ≡ length l.self.keys.now; upto : Upto l.self.keys.now l.self.states.now l.k l.count l.out }
