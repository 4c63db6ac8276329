-- `horizon::kernel::count_before`, from the last time to the first: the count is that of the times seen, and `last` ends their run. Assumes nothing.
use Rattle.std.proofs.Common.{◌≡◌, ◌+◌, ◌-◌, ◌≤◌, length, arith, rules}
use Rattle.horizon.proofs.FromTheBack.{count_none, count_turn, count_small, count_all}
use Rattle.horizon.proofs.kernel.count_before.Goals as goal

pub loop-i-init : goal.loop-i-init
loop-i-init c = (search rules, λ h. absurd (omega arith), count_none c.args.z c.args.times.now)

pub counted-count-requires : goal.counted-count-requires
counted-count-requires c =
    let l = c.loop-i in
    let h : l.count ≤ length c.args.times.now - l.i = count_small _ c.args.times.now l.i l.count l.invariant.2 in
    search (rules, h)

pub loop-i-preserved : goal.loop-i-preserved
loop-i-preserved c =
    let l = c.loop-i in
    let ts = c.args.times.now in
    let k : l.i - 1 + 1 ≡ l.i = omega arith in
    let last = c.run_last-last.ensures (λ h. rw k (l.invariant.1 (omega arith))) in
    (search rules, λ h. last, count_turn _ ts l.i l.count _ _ c.loop-i-test.true l.invariant.0 last l.invariant.2 c.counted-count.ensures)

pub returns : goal.returns
returns c = search (rules, count_all)
