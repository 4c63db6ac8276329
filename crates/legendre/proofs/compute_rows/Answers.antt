-- `legendre::compute_rows`: before degree n both tables hold the rows below n, and the two arrays what the next rows start from. Assumes nothing.
use Rattle.std.proofs.Common.{refl, arith, rules, ℕ, suc, ◌+◌}
use Rattle.std.specs.Prelude.{Float}
use Rattle.laws.specs.Tables.{tri_next, tri_mono}
use Rattle.legendre.specs.Rows.{Tables, lent, legendre_by, derived_by}
use Rattle.legendre.proofs.Recur.{zero_row, holds_at}
use Rattle.legendre.proofs.Filling.{rows_none, rows_next, rows_full, rows_to}
use Rattle.legendre.proofs.compute_rows.Goals as goal

pub loop-n-init : goal.loop-n-init
loop-n-init c =
    let T : Tables = lent c.args.latitude.now.tables in
    let t = c.args.latitude.now.sine in
    (omega arith, zero_row T t 0 (omega arith), zero_row T t 1 (omega arith), refl, refl, search rows_none, search rows_none)

pub compute_one-requires : goal.compute_one-requires
compute_one-requires c =
    let h = c.loop-n in
    let d = c.degree_at.result in
    let more = tri_mono (d.n + 1) (c.args.latitude.now.tables.last.n + 1) (omega arith) in
    let next = tri_next d.n in
    (omega arith, holds_at (suc d.n) h.invariant.2 (omega arith), holds_at d.n h.invariant.1 (omega arith), omega arith, omega arith)

pub returns-then-n-last : goal.returns-then-n-last
returns-then-n-last c =
    let h = c.loop-n in
    let l = c.args.latitude.now in
    let o = c.compute_one.ensures in
    let P : ℕ → ℕ → Float = legendre_by (lent l.tables) l.sine l.cosine in
    let D : ℕ → ℕ → Float = derived_by (lent l.tables) l.sine l.cosine in (
      rows_full P _ (h.n + 1) l.tables.last.n (rows_next P h.p _ h.n _ _ h.invariant.5 c.degree_at.ensures refl o.1) (omega arith) (search rules),
      rows_full D _ (h.n + 1) l.tables.last.n (rows_next D h.dp _ h.n _ _ h.invariant.6 c.degree_at.ensures refl o.2) (omega arith) (search rules),
    )

pub compute_one-requires-in-loop-n : goal.compute_one-requires-in-loop-n
compute_one-requires-in-loop-n c =
    let d = c.degree_at-in-loop-n.result in
    let more = tri_mono (d.n + 1) (c.args.latitude.now.tables.last.n + 1) (omega arith) in
    let next = tri_next d.n in
    (omega arith, holds_at (suc d.n) c.compute_one.ensures.0 (omega arith), holds_at d.n c.loop-n.invariant.2 (omega arith), omega arith, omega arith)

pub loop-n-preserved : goal.loop-n-preserved
loop-n-preserved c =
    let h = c.loop-n in
    let l = c.args.latitude.now in
    let o = c.compute_one.ensures in
    let q = c.compute_one-in-loop-n.ensures in
    let P : ℕ → ℕ → Float = legendre_by (lent l.tables) l.sine l.cosine in
    let D : ℕ → ℕ → Float = derived_by (lent l.tables) l.sine l.cosine in (
      omega arith,
      holds_at (h.n + 2) o.0 (omega arith),
      holds_at (suc (h.n + 2)) q.0 (omega arith),
      search rules,
      search rules,
      rows_to P _ (h.n + 1 + 1) (h.n + 2) (omega arith) (rows_next P _ _ (h.n + 1) _ _ (rows_next P h.p _ h.n _ _ h.invariant.5 c.degree_at.ensures refl o.1) c.degree_at-in-loop-n.ensures refl q.1),
      rows_to D _ (h.n + 1 + 1) (h.n + 2) (omega arith) (rows_next D _ _ (h.n + 1) _ _ (rows_next D h.dp _ h.n _ _ h.invariant.6 c.degree_at.ensures refl o.2) c.degree_at-in-loop-n.ensures refl q.2),
    )

pub returns-else-n-last : goal.returns-else-n-last
returns-else-n-last c =
    let h = c.loop-n in
    let l = c.args.latitude.now in
    let o = c.compute_one.ensures in
    let q = c.compute_one-in-loop-n.ensures in
    let P : ℕ → ℕ → Float = legendre_by (lent l.tables) l.sine l.cosine in
    let D : ℕ → ℕ → Float = derived_by (lent l.tables) l.sine l.cosine in (
      rows_full P _ (h.n + 1 + 1) l.tables.last.n (rows_next P _ _ (h.n + 1) _ _ (rows_next P h.p _ h.n _ _ h.invariant.5 c.degree_at.ensures refl o.1) c.degree_at-in-loop-n.ensures refl q.1)
          (omega arith) (search rules),
      rows_full D _ (h.n + 1 + 1) l.tables.last.n (rows_next D _ _ (h.n + 1) _ _ (rows_next D h.dp _ h.n _ _ h.invariant.6 c.degree_at.ensures refl o.2) c.degree_at-in-loop-n.ensures refl q.2)
          (omega arith) (search rules),
    )
