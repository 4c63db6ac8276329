-- `legendre::streamed`: the rows start from zeros, and their sums over all degrees give the definition's total. Assumes nothing.
use Rattle.std.proofs.Common.{refl, ap, arith, suc, ◌+◌, ◌∙◌}
use Rattle.laws.specs.Sums.{sum_to}
use Rattle.legendre.specs.Rows.{Tables, lent}
use Rattle.legendre.specs.Sums.{all_v, all_r, all_lat, all_lon, power}
use Rattle.legendre.specs.Field.{evaluation_of}
use Rattle.legendre.specs.declared.Running.{Running}
use Rattle.legendre.proofs.Recur.{zero_row, holds_at}
use Rattle.legendre.proofs.Added.{sums_at, total_of}
use Rattle.legendre.proofs.streamed.Goals.{else-loop-n-test, then-loop-n-test+else-n-last+else-n-end-n-gt2}
use Rattle.legendre.proofs.streamed.Goals as goal

pub loop-n-init : goal.loop-n-init
unfolding all_v all_r all_lat all_lon power sum_to
loop-n-init c =
    let T : Tables = lent c.args.terms.now.latitude.tables in
    let t = c.args.terms.now.latitude.sine in
    (omega arith, zero_row T t 0 (omega arith), zero_row T t 1 (omega arith), record { av = refl; ar = refl; alat = refl; alon = refl; aq = refl })

pub loop-n-preserved : goal.loop-n-preserved
loop-n-preserved c =
    let n = c.loop-n.n in (
      omega arith,
      holds_at (n + 2) c.one_row-sum.ensures.0 (omega arith),
      holds_at (suc (n + 2)) c.one_row-sum-in-loop-n.ensures.0 (omega arith),
      sums_at (n + 2) c.one_row-sum-in-loop-n.ensures.1 (omega arith),
    )

pub returns : goal.returns
returns c =
    let t = c.args.terms.now in
    let N = t.latitude.tables.last.n in
    elim c.loop-n-test.branch [
      | else-loop-n-test w ↦
          ap (λ (s : Running). s.total) w.sum-is
          ∙ total_of (evaluation_of t) t.ratio (N + 1) (sums_at (N + 1) c.loop-n.invariant.3 (omega arith))
      | then-loop-n-test+else-n-last+else-n-end-n-gt2 w ↦
          ap (λ (s : Running). s.total) w.sum-is
          ∙ total_of (evaluation_of t) t.ratio (N + 1) (sums_at (N + 1) w.one_row-sum-in-loop-n.ensures.1 (omega arith))
    ]
