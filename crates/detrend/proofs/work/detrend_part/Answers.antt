use Rattle.std.proofs.Common.{◌*◌, ◌/◌, ◌≤◌, length, rules, arith}
use Rattle.detrend.proofs.RevolutionFit.{part_zero, part_none, part_found}
use Rattle.detrend.proofs.work.detrend_part.Goals as goal

pub returns-then-all_zero : goal.returns-then-all_zero
returns-then-all_zero c =
    search (rules, part_zero)

pub returns-in-Some : goal.returns-in-Some
returns-in-Some c =
    let room : 8 * (length c.args.s.now / 8) ≤ length c.args.s.now = omega arith in
    search (rules, part_found)

pub returns-in_default : goal.returns-in_default
returns-in_default c =
    let room : 8 * (length c.args.s.now / 8) ≤ length c.args.s.now = omega arith in
    search (rules, part_none)
