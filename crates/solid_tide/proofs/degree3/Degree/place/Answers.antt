use Rattle.std.proofs.Common.{arith}
use Rattle.solid_tide.proofs.Index.{place_small}
use Rattle.solid_tide.proofs.degree3.Degree.place.Goals as goal

pub returns : goal.returns
returns c = let k = place_small c.args.self.now.n c.args.m (omega arith) (omega arith) in (omega arith, omega arith)
