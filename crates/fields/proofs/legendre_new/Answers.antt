use Rattle.fields.proofs.Answers.{new_answered}
use Rattle.fields.proofs.legendre_new.Goals as goal

pub returns : goal.returns
returns c =
    let a = c.args in
    new_answered a.degree a.a.now a.b.now a.scratch.now _ _ _ _ _ _ c.in_ok-tables_refusal.ensures c.tabulate_a.ensures
    c.tabulate_b.ensures c.clear.ensures c.hand_two.ensures
