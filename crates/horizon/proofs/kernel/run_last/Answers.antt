use Rattle.std.proofs.Common.{rules}
use Rattle.horizon.proofs.FromTheBack.{run_ends, run_goes_on, list_ends}
use Rattle.horizon.proofs.kernel.run_last.Goals as goal
use Rattle.horizon.proofs.kernel.run_last.Goals.{else-next-times-via-then-next-times+else-not-times-next, else-next-times-via-else-next-times}

pub returns-then-not-times-next : goal.returns-then-not-times-next
returns-then-not-times-next c = λ f. search (rules, f, run_goes_on)

pub returns : goal.returns
returns c = λ f.
    elim c.else-next-times.branch [
      | else-next-times-via-then-next-times+else-not-times-next w ↦ search (rules, run_ends)
      | else-next-times-via-else-next-times w ↦ search (rules, list_ends)
    ]
