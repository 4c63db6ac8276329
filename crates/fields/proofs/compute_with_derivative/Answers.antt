-- `fields::compute_with_derivative`: both tables computed in a prepared scratch and handed out, by the law of proofs/ScratchCalls.antt. Assumes nothing.
use Rattle.std.proofs.Common.{rules}
use Rattle.fields.proofs.ScratchCalls.{compute_answered}
use Rattle.fields.proofs.compute_with_derivative.Goals as goal

pub returns : goal.returns
returns c =
    let a = c.args in
    compute_answered a.degree a.a.now a.b.now a.lat a.p.now a.dp.now a.scratch.now _ _ _ _ _ _ _ _ (search rules) c.in_ok-compute_refusal.ensures
    c.prepare.ensures c.compute.ensures c.clear.ensures c.hand_two.ensures
