use borrow.Author.Rules.{rules}
use Rattle.legendre.proofs.Filling.{heads_in}
use Rattle.legendre.proofs.tables_in.Goals as goal

pub slice_bounds-result-end-3 : goal.slice_bounds-result-end-3
slice_bounds-result-end-3 c = let k = heads_in c.args.given.now.last.n in search rules
