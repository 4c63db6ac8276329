use Rattle.std.proofs.Common.{rules, arith}
use Rattle.detrend.proofs.WorkArea.{within_done, within_none, within_small}
use Rattle.detrend.proofs.kernel.remove_within.Goals as goal
use Rattle.detrend.proofs.kernel.remove_within.Goals.{else-n-work-via-then-n-work+else-not-is_empty, else-n-work-via-else-n-work}

pub returns-then-not-is_empty : goal.returns-then-not-is_empty
returns-then-not-is_empty c =
    within_done c.args.n c.args.nodes.now c.args.work.now c.remove_all.new.s (omega arith) c.remove_all.auto.s c.remove_all.ensures

pub returns-else-n-work : goal.returns-else-n-work
returns-else-n-work c =
    elim c.else-n-work.branch [
      | else-n-work-via-then-n-work+else-not-is_empty w ↦ search (rules, within_none)
      | else-n-work-via-else-n-work w ↦ search (rules, within_small)
    ]
