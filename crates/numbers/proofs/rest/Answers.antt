-- `numbers::rest` meets its contract. Assumes nothing.
use Rattle.std.proofs.Common.{w64}
use mir.ValLaws.{to_z-of_z}
use Rattle.numbers.specs.Numbers.{rest}
use Rattle.numbers.proofs.rest.Goals as goal

pub returns : goal.returns
unfolding rest
returns c = rw (c.nearest_i64_to_f64-f.ensures, to_z-of_z w64 c.args.k c.ranges.k)
