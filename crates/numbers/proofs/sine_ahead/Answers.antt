-- `numbers::sine_ahead`: a quarter of a turn more takes the next of the four cases. Assumes nothing.
use Rattle.std.proofs.Common.{◌≡◌, ℕ, ◌+◌, ◌%◌, ◌<◌, ◌∙◌, ap, arith, w64, to_z, of_z}
use mir.ValLaws.{to_z-of_z}
use lib.Ieee.{neg}
use Rattle.numbers.specs.Numbers.{near, quarter, rest, choose, sine_near, cosine_near, sine, cosine}
use Rattle.numbers.proofs.CodeForms.{nan_made, quarter_small, choose_next, sine_is, cosine_is}
use Rattle.numbers.proofs.sine_ahead.Goals.{else-x-via-then-x+else-x-2, else-x-via-else-x}
use Rattle.numbers.proofs.sine_ahead.Goals as goal

pub turns-k-requires : goal.turns-k-requires
unfolding near
turns-k-requires c = rw (c.if-x.true, c.if-x-2.true) tt

pub overflow_add-quarter : goal.overflow_add-quarter
overflow_add-quarter c =
    let small : quarter (to_z w64 (of_z w64 c.turns-k.result)) < 4 = quarter_small _ in
    omega (arith, c.quarter.ensures)

pub returns-then-x-2 : goal.returns-then-x-2
unfolding sine cosine near
returns-then-x-2 c =
    let j = c.quarter.result in
    let r = c.rest.result in
    let same : to_z w64 (of_z w64 c.turns-k.result) ≡ c.turns-k.result = to_z-of_z w64 c.turns-k.result (record { sfits = c.turns-k.type_inv }) in
    let jq : j ≡ quarter c.turns-k.result = rw same at c.quarter.ensures in
    let rk : r ≡ rest c.args.x c.turns-k.result = rw same at c.rest.ensures in
    let small : quarter c.turns-k.result < 4 = quarter_small _ in
    record {
      sine = λ h.
          let at : (j + c.args.quarters) % 4 ≡ j = omega arith in
          c.sine_past.ensures ∙ ap (λ (n : ℕ). choose n (sine_near r) (cosine_near r) (neg (sine_near r)) (neg (cosine_near r))) at
          ∙ sine_is _ _ _ _ rk jq
          ∙ rw (c.turns-k.ensures, c.if-x.true, c.if-x-2.true);
      cosine = λ h.
          let at : (j + c.args.quarters) % 4 ≡ (j + 1) % 4 = rw h in
          let less : j < 4 = omega arith in
          c.sine_past.ensures ∙ ap (λ (n : ℕ). choose n (sine_near r) (cosine_near r) (neg (sine_near r)) (neg (cosine_near r))) at
          ∙ choose_next _ _ _ _ j less
          ∙ cosine_is _ _ _ _ rk jq
          ∙ rw (c.turns-k.ensures, c.if-x.true, c.if-x-2.true);
    }

pub returns : goal.returns
unfolding sine cosine near
returns c = elim c.else-x.branch [
  | else-x-via-then-x+else-x-2 w ↦ record {
    sine = λ h. nan_made ∙ rw (w.if-x.true, w.if-x-2.false);
    cosine = λ h. nan_made ∙ rw (w.if-x.true, w.if-x-2.false);
  }
  | else-x-via-else-x w ↦ record { sine = λ h. nan_made ∙ rw w.if-x.false; cosine = λ h. nan_made ∙ rw w.if-x.false }
]
