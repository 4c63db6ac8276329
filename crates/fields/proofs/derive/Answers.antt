-- `fields::derive`: the derivative handed out from a prepared scratch, by the law of proofs/ScratchCalls.antt. Assumes nothing.
use Rattle.fields.proofs.ScratchCalls.{derive_answered}
use Rattle.fields.proofs.derive.Goals as goal

pub returns : goal.returns
returns c =
    let a = c.args in
    derive_answered a.degree a.p.now a.dp.now a.scratch.now _ _ _ _ _ _ c.all_finite.ensures c.in_ok-tables_refusal.ensures c.prepare.ensures c.derive.ensures
    c.clear.ensures c.hand_one.ensures
