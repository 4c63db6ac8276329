-- Assumes nothing.
use Rattle.std.proofs.Common.{arith, ◌-◌}
use Rattle.hexadecimal.proofs.DigitLoops.{places_small, places_more, places_none}
use Rattle.hexadecimal.proofs.places.Goals as goal

pub returns-then-rest-lt10 : goal.returns-then-rest-lt10
returns-then-rest-lt10 c = let e = places_small (20 - c.loop-count.count) c.loop-count.rest c.if-rest-lt10.true in (omega arith, omega arith, omega arith)

pub loop-count-preserved : goal.loop-count-preserved
loop-count-preserved c = let e = places_more c.loop-count.count c.loop-count.rest c.loop-count-test.true c.if-rest-lt10.false in omega arith

pub returns : goal.returns
returns c = let e = places_none c.loop-count.count c.loop-count.rest c.loop-count-test.false in (omega arith, omega arith, omega arith)
