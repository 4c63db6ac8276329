use Rattle.std.proofs.Common.{arith}
use Rattle.detrend.proofs.RevolutionWalk.{count_goes, count_stops, count_done}
use Rattle.detrend.proofs.work.count_from.Goals as goal

pub loop-i-preserved : goal.loop-i-preserved
loop-i-preserved c =
    let e = count_goes c.args.times.now c.args.b c.loop-i.i (omega arith) c.if-not-times-i.false in
    (omega arith, omega arith, omega arith)

pub returns-then-not-times-i : goal.returns-then-not-times-i
returns-then-not-times-i c =
    let e = count_stops c.args.times.now c.args.b c.loop-i.i (omega arith) c.if-not-times-i.true in
    (omega arith, omega arith, omega arith)

pub returns : goal.returns
returns c =
    let e = count_done c.args.times.now c.args.b c.loop-i.i (omega arith) in
    (omega arith, omega arith, omega arith)
