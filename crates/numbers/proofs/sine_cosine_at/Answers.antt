-- `numbers::sine_cosine_at` meets its contract. Assumes nothing.
use Rattle.std.proofs.Common.{◌≡◌, ℤ, SFits, w64, to_z, of_z}
use mir.ValLaws.{to_z-of_z}
use Rattle.numbers.proofs.CodeForms.{both_0, both_1, both_2, both_3}
use Rattle.numbers.proofs.sine_cosine_at.Goals as goal

read : (k : ℤ) → SFits w64 k → to_z w64 (of_z w64 k) ≡ k
read k f = to_z-of_z w64 k f

pub returns-then-j-eq0 : goal.returns-then-j-eq0
returns-then-j-eq0 c =
    let e = read c.args.k c.ranges.k in
    both_0 _ _ _ _ _ _ (rw e at c.rest-r.ensures) (rw e at c.quarter-j.ensures) c.sine_near-s.ensures c.cosine_near-c.ensures
    c.if-j-eq0.true

pub returns-then-j-eq1 : goal.returns-then-j-eq1
returns-then-j-eq1 c =
    let e = read c.args.k c.ranges.k in
    both_1 _ _ _ _ _ _ (rw e at c.rest-r.ensures) (rw e at c.quarter-j.ensures) c.sine_near-s.ensures c.cosine_near-c.ensures
    c.if-j-eq1.true

pub returns-then-j-eq2 : goal.returns-then-j-eq2
returns-then-j-eq2 c =
    let e = read c.args.k c.ranges.k in
    both_2 _ _ _ _ _ _ (rw e at c.rest-r.ensures) (rw e at c.quarter-j.ensures) c.sine_near-s.ensures c.cosine_near-c.ensures
    c.if-j-eq2.true

pub returns-else-j-eq2 : goal.returns-else-j-eq2
returns-else-j-eq2 c =
    let e = read c.args.k c.ranges.k in
    both_3 _ _ _ _ _ _ (rw e at c.rest-r.ensures) (rw e at c.quarter-j.ensures) c.sine_near-s.ensures c.cosine_near-c.ensures
    c.if-j-eq0.false c.if-j-eq1.false c.if-j-eq2.false
