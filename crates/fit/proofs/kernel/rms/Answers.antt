-- `fit::kernel::rms`: the root of the definition's sum over its count. Assumes nothing.
use Rattle.fit.specs.Fit.{rms_of}
use Rattle.std.proofs.Common.{◌≡◌, length, arith}
use Rattle.laws.specs.WholeNumbers.{number}
use Rattle.fit.proofs.kernel.rms.Goals as goal

pub returns : goal.returns
unfolding rms_of number
returns c =
    let end : c.loop-x.x-index ≡ length c.args.y.now = omega arith in simp (c.root.ensures, c.nearest_u64_to_f64.ensures, c.loop-x.invariant.1, end)
