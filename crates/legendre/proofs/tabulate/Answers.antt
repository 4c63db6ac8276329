use borrow.Author.Rules.{rules}
use Rattle.legendre.proofs.Kernel.{tabulated_over, tabulated_other, tabulated_is}
use Rattle.legendre.proofs.tabulate.Goals.{else-degree-le180-via-then-degree-le180+else-out-triangle, else-degree-le180-via-else-degree-le180}
use Rattle.legendre.proofs.tabulate.Goals as goal

pub returns-then-out-triangle : goal.returns-then-out-triangle
returns-then-out-triangle g c f h = search (rules, tabulated_is)

pub returns : goal.returns
returns g c f h = elim c.else-degree-le180.branch [
  | else-degree-le180-via-then-degree-le180+else-out-triangle w ↦ search (rules, tabulated_other)
  | else-degree-le180-via-else-degree-le180 w ↦ search (rules, tabulated_over)
]
