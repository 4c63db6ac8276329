-- `legendre::prepare_in`: two tables of factors and the diagonal, each in its part, are the prepared slice, by `prepared_is` of proofs/Kernel.antt. Assumes nothing.
use borrow.Author.Rules.{rules}
use native.Mathlib.Omega.{arith}
use Rattle.legendre.specs.Legendre.{lower_of, upper_of}
use Rattle.legendre.proofs.Filling.{heads_in}
use Rattle.legendre.proofs.Kernel.{prepared_is}
use Rattle.legendre.proofs.prepare_in.Goals as goal

pub slice_bounds-diagonal_row-end : goal.slice_bounds-diagonal_row-end
slice_bounds-diagonal_row-end c =
    let k = heads_in c.args.last.n in search rules

pub returns : goal.returns
returns c =
    let t = c.triangle-l in
    prepared_is c.args.last.n t.result c.args.work.now _ _ _ c.args.last.small c.requires (t.ensures.0 (omega arith)) (c.factor_rows.ensures lower_of (λ n m x e. e))
    (c.factor_rows-2.ensures upper_of (λ n m x e. e)) c.diagonal_row.ensures
