-- `numbers::arcsine` meets its contract. Assumes nothing.
use Rattle.std.proofs.Common.{◌∙◌, rules}
use Rattle.numbers.proofs.CodeForms.{nan_made, neg_not_below, mirrored}
use Rattle.numbers.specs.Numbers.{arcsine}
use Rattle.numbers.proofs.arcsine.Goals.{then-v-via-then-v, then-v-via-else-v+then-v-2}
use Rattle.numbers.proofs.arcsine.Goals as goal

pub returns-then-v : goal.returns-then-v
unfolding arcsine
returns-then-v c = elim c.then-v.branch [
  | then-v-via-then-v w ↦ nan_made ∙ rw w.if-v.true
  | then-v-via-else-v+then-v-2 w ↦ nan_made ∙ rw (w.if-v.false, w.if-v-2.true)
]

pub risen-requires : goal.risen-requires
risen-requires c = search (rules, neg_not_below)

pub returns-then-v-3 : goal.returns-then-v-3
unfolding arcsine
returns-then-v-3 c =
    mirrored _ _ _ c.if-v-3.true c.if-x.true c.risen.ensures ∙ rw (c.root-x.ensures, c.if-v-2.false, c.if-v.false)

pub returns-else-v-3 : goal.returns-else-v-3
unfolding arcsine
returns-else-v-3 c =
    rw (c.risen-else-v-3.ensures, c.root-x.ensures, c.if-v-2.false, c.if-v.false)

pub returns-else-x : goal.returns-else-x
unfolding arcsine
returns-else-x c =
    rw (c.arctangent.ensures, c.root-x.ensures, c.if-v-2.false, c.if-v.false)
