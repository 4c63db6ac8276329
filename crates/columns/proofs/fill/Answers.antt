-- `columns::fill`: where the slices serve, both columns are the published ones of the first n entries, else nothing is done; by proofs/Filling.antt. Assumes nothing.
use native.Mathlib.Omega.{arith}
use mathlib.Core.List.{[], ◌∷◌, map}
use lib.ListN.{length}
use Rattle.columns.specs.Columns.{columns_serve}
use Rattle.columns.proofs.Filling.{served, columns_filled}
use borrow.Author.Rules.{rules}
use Rattle.columns.proofs.fill.Goals as goal

pub detrend_column-requires : goal.detrend_column-requires
detrend_column-requires c =
    let a = c.args in
    let g = served a.n (length a.times.now) (map length (a.raws.now ∷ a.detrended.now ∷ a.passed.now ∷ [])) (length a.s.now) _ c.serve-served.ensures c.if-served.true in
    (g.count, omega (arith, g.long.1.0), g.enough)

pub pass_column-requires : goal.pass_column-requires
pass_column-requires c =
    let a = c.args in
    let g = served a.n (length a.times.now) (map length (a.raws.now ∷ a.detrended.now ∷ a.passed.now ∷ [])) (length a.s.now) _ c.serve-served.ensures c.if-served.true in
    (g.count, omega (arith, g.long.1.0), g.long.1.1.0, omega (arith, g.enough))

pub returns-then-served : goal.returns-then-served
returns-then-served c =
    let a = c.args in
    let g = served a.n (length a.times.now) (map length (a.raws.now ∷ a.detrended.now ∷ a.passed.now ∷ [])) (length a.s.now) _ c.serve-served.ensures c.if-served.true in
    columns_filled (columns_serve a.n (length a.times.now) (map length (a.raws.now ∷ a.detrended.now ∷ a.passed.now ∷ [])) (length a.s.now)) a.nodes.now a.n a.times.now
    a.raws.now a.detrended.now _ _ a.passed.now _ a.s.now _ _ c.serve-served.ensures c.if-served.true g.count g.long.0 g.long.1.0 (search rules)
    c.copy.ensures c.detrend_column.ensures c.pass_column.ensures
