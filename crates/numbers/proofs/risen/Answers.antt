-- `numbers::risen` meets its contract. Assumes nothing.
use Rattle.numbers.proofs.CodeForms.{steep_flat, steep_bent, gentle_bent, gentle_flat}
use Rattle.numbers.proofs.risen.Goals as goal

pub returns-then-q : goal.returns-then-q
returns-then-q c =
    steep_flat _ _ _ c.requires c.if-m-x.true c.if-q.true c.angle_near.ensures

pub returns-then-q-2 : goal.returns-then-q-2
returns-then-q-2 c =
    steep_bent _ _ _ c.requires c.if-m-x.true c.if-q-2.true c.angle_near-then-q-2.ensures

pub returns-then-q-3 : goal.returns-then-q-3
returns-then-q-3 c =
    gentle_bent _ _ _ c.requires c.if-m-x-2.true c.if-q-3.true c.angle_near-then-q-3.ensures

pub returns-then-q-4 : goal.returns-then-q-4
returns-then-q-4 c =
    gentle_flat _ _ _ c.requires c.if-m-x-2.true c.if-q-4.true c.angle_near-then-q-4.ensures

pub returns : goal.returns
returns c = c.arctangent.ensures
