use Rattle.std.proofs.Common.{◌≡◌, ◌≤◌, ◌∙◌, arith}
use Rattle.least_squares.proofs.KernelShapes.{found, none, found_is, none_is}
use Rattle.least_squares.proofs.equations.Design.solve.Goals as goal

pub returns-then-solved : goal.returns-then-solved
returns-then-solved c =
    let s = c.args.self in
    let few : s.p ≤ 15 = omega arith in
    let (is, same) = c.equations-equations.ensures in
    let fine = rw same at c.solve-solved.ensures.0 in
    let staged = rw same at c.solve-solved.ensures.1 in
    let last : c.solve-solved.new.self.p ≡ s.p = c.solve-solved.ensures.2 ∙ same in
    let beta = rw last at c.solution.ensures in (
      c.if-solved.true ∙ found s.rows.now s.y.now s.p few _ _ is fine c.if-solved.true,
      found_is s.rows.now s.y.now s.p few _ _ is fine c.args.beta.now _ _ c.if-solved.true staged beta,
    )

pub returns-else-solved : goal.returns-else-solved
returns-else-solved c =
    let s = c.args.self in
    let few : s.p ≤ 15 = omega arith in
    let (is, same) = c.equations-equations.ensures in
    let fine = rw same at c.solve-solved.ensures.0 in (
      c.if-solved.false ∙ none s.rows.now s.y.now s.p few _ _ is fine c.if-solved.false,
      none_is s.rows.now s.y.now s.p few _ _ is fine c.args.beta.now c.if-solved.false,
    )
