-- `numbers::arctangent` meets its contract. Assumes nothing.
use Rattle.std.proofs.Common.{◌≡◌, false, ◌&&◌, ◌∙◌}
use lib.Ieee.{eq}
use Rattle.laws.specs.Floats.{zero64}
use Rattle.numbers.proofs.CodeForms.{nan_made, arctangent_nan_y, arctangent_nan_x, arctangent_origin, arctangent_open}
use Rattle.numbers.proofs.arctangent.Goals.{then-y-via-then-y, then-y-via-else-y+then-x, else-y-2-via-then-y-2+else-x-2, else-y-2-via-else-y-2}
use Rattle.numbers.proofs.arctangent.Goals as goal

pub returns-then-y : goal.returns-then-y
returns-then-y c = elim c.then-y.branch [
  | then-y-via-then-y w ↦ nan_made ∙ arctangent_nan_y _ _ w.if-y.true
  | then-y-via-else-y+then-x w ↦ nan_made ∙ arctangent_nan_x _ _ w.if-y.false w.if-x.true
]

pub returns-then-x-2 : goal.returns-then-x-2
returns-then-x-2 c = arctangent_origin _ _ c.if-y.false c.if-x.false c.if-y-2.true c.if-x-2.true

pub returns : goal.returns
returns c =
    let a = c.args in
    let z : eq a.y zero64 && eq a.x zero64 ≡ false =
    elim c.else-y-2.branch [
      | else-y-2-via-then-y-2+else-x-2 w ↦ rw (w.if-y-2.true, w.if-x-2.false)
      | else-y-2-via-else-y-2 w ↦ rw w.if-y-2.false
    ] in
    rw (c.below.ensures, c.left.ensures, c.eighth.ensures, c.magnitude-2.ensures, c.magnitude.ensures)
    (arctangent_open a.y a.x c.if-y.false c.if-x.false z)
