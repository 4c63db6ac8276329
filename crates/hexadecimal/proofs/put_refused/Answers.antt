-- Assumes nothing.
use Rattle.std.proofs.Common.{arith}
use Rattle.hexadecimal.proofs.Printing.{refused_prints}
use Rattle.hexadecimal.proofs.put_refused.Goals as goal

pub returns-clause-text : goal.returns-clause-text
returns-clause-text c = λ h.
    let p = c.put_bytes-a.ensures.text (omega arith) in
    let q = c.put_count-b.ensures.text (omega (arith, p.ends)) in
    refused_prints _ _ _ _ _ _ _ _ p q (c.put_bytes.ensures.text (omega (arith, p.ends, c.put_count-b.ensures.few)))
