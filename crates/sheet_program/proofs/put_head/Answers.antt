-- Each piece has room. Assumes nothing.
use Rattle.std.proofs.Common.{arith}
use Rattle.sheet_program.proofs.ReadAndPrinted.{head_prints}
use Rattle.sheet_program.proofs.put_head.Goals as goal

pub returns : goal.returns
returns c =
    let p1 = c.put_bytes-a.ensures.text (omega arith) in
    let p2 = c.put_count-b.ensures.text (omega (arith, p1.ends)) in
    let p3 = c.put_bytes-c.ensures.text (omega (arith, p1.ends, c.put_count-b.ensures.few)) in
    let p4 = c.put_count-d.ensures.text (omega (arith, p1.ends, c.put_count-b.ensures.few, p3.ends)) in
    let p5 = c.put_bytes.ensures.text (omega (arith, p1.ends, c.put_count-b.ensures.few, p3.ends, c.put_count-d.ensures.few)) in
    (head_prints _ _ _ _ _ _ _ _ _ _ _ _ _ p1 p2 p3 p4 p5, omega (arith, p1.ends, c.put_count-b.ensures.few, p3.ends, c.put_count-d.ensures.few, p5.ends))
