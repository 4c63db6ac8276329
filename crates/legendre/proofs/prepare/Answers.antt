use borrow.Author.Rules.{rules}
use Rattle.legendre.proofs.Kernel.{prepared_over, prepared_short}
use Rattle.legendre.proofs.prepare.Goals.{else-degree-le180-via-then-degree-le180+else-triangle-work, else-degree-le180-via-else-degree-le180}
use Rattle.legendre.proofs.prepare.Goals as goal

pub returns-else-degree-le180 : goal.returns-else-degree-le180
returns-else-degree-le180 c = elim c.else-degree-le180.branch [
  | else-degree-le180-via-then-degree-le180+else-triangle-work w ↦ search (rules, prepared_short)
  | else-degree-le180-via-else-degree-le180 w ↦ search (rules, prepared_over)
]
