-- `numbers::carried` meets its contract; the measure is the exponent. Assumes nothing.
use Rattle.numbers.proofs.+carried.Given as goal

abbrev pub decreases-carried : goal.decreases-carried
decreases-carried l = l.n
