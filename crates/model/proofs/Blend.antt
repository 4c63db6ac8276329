-- Laws of the rows that the blend writes. Assumes nothing.
use mathlib.Core.Path.{◌≡◌, ap, ap₂, ◌∙◌}
use mathlib.Core.List.{List, ◌++◌}
use mathlib.Core.Bool.{true, cond, ◌&&◌}
use Prim.Native.Nat.{ℕ, ◌+◌, ◌-◌, ◌*◌, ◌/◌, ◌<◌, ◌≤◌}
use native.Mathlib.Nat.{add-mul, mul-le-mul_right, div-mul-le_self, le_trans}
use native.Mathlib.Omega.{arith}
use borrow.Author.Tests.{le-leb, leb-true, eqb-true, lt-ltb, le-ltb}
use lib.Dec.{leb, ltb, eqb}
use Rattle.std.proofs.Common.{Option, Some, None}
use Rattle.std.specs.Prelude.{MatchOption}
use lib.ListN.{length, take, drop, get_or}
use lib.Ieee.{Float, nan}
use Rattle.inputs.specs.Inputs.{Model, field_size}
use Rattle.laws.specs.Floats.{◌⊕◌, ◌⊖◌, ◌⊗◌, one64}
use Rattle.laws.specs.Tables.{tri, rows}
use Rattle.laws.specs.Bools.{both_true}
use Rattle.fields.specs.Rescaled.{factor_of, factor_with, rescaled_at}
use Rattle.model.specs.Field.{gm, radius, cosines, sines}
use Rattle.model.specs.Calls.{at_fits, sized, FieldRoom}
use Rattle.model.specs.Model.{bracket, weight, combined, blended, blend_of, kind_at, field_at}

factor_is : (g r : Float) (field : List Float) (n : ℕ) → 2 ≤ length field → n ≤ 180 → factor_with g r field n ≡ factor_of g r field n
unfolding factor_with
factor_is g r field n h k = rw (le-leb 2 (length field) h, le-leb n 180 k)

-- c with a in the factor of row n, which is none where nothing is added
abbrev Factor : Float → Float → List Float → ℕ → Option Float → Type 0
Factor g r added n factor = MatchOption factor (n < 2) (λ f. (2 ≤ n) × (f ≡ factor_with g r added n))

abbrev Added : Float → Float → Option Float → Float → Type 0
Added c a factor x = MatchOption factor (x ≡ c) (λ f. x ≡ c ⊕ a ⊗ f)

added_is : (g r : Float) (added : List Float) (n : ℕ) (c a x : Float) (factor : Option Float) → Factor g r added n factor → Added c a factor x →
    x ≡ cond (ltb n 2) c (c ⊕ a ⊗ factor_with g r added n)
added_is g r added n c a x None h e = rw (lt-ltb n 2 h) e
added_is g r added n c a x (Some f) h e = rw (le-ltb n 2 h.0) (e ∙ ap (λ (z : Float). c ⊕ a ⊗ z) h.1)

-- what is blended at place m of row n
pub combined_here : (start n m : ℕ) (field a : List Float) (x : Float) (factor : Option Float) → 2 ≤ length a → n ≤ 180 →
    Factor (gm field) (radius field) a n factor →
    Added (get_or field (start + (tri n + m)) nan) (get_or a (start + (tri n + m)) nan) factor x →
    x ≡ combined start field a n m
unfolding combined rescaled_at
combined_here start n m field a x factor h k f e =
    added_is (gm field) (radius field) a n (get_or field (start + (tri n + m)) nan) (get_or a (start + (tri n + m)) nan) x factor f e
    ∙ ap (λ (f : Float). cond (ltb n 2) (get_or field (start + (tri n + m)) nan)
    (get_or field (start + (tri n + m)) nan ⊕ get_or a (start + (tri n + m)) nan ⊗ f)) (factor_is (gm field) (radius field) a n h k)

pub blended_here : (start k n m : ℕ) (w : Float) (field a b : List Float) (fa fb : Option Float) (x y : Float) → k ≡ tri n → 2 ≤ length a → 2 ≤ length b → n ≤ 180 →
    Factor (gm field) (radius field) a n fa → Factor (gm field) (radius field) b n fb →
    Added (get_or field (start + (k + m)) nan) (get_or a (start + (k + m)) nan) fa x →
    Added (get_or field (start + (k + m)) nan) (get_or b (start + (k + m)) nan) fb y →
    (one64 ⊖ w) ⊗ x ⊕ w ⊗ y ≡ blended start w field a b n m
unfolding blended
blended_here start k n m w field a b fa fb x y e la lb top ea eb ex ey =
    ap₂ (λ (u v : Float). (one64 ⊖ w) ⊗ u ⊕ w ⊗ v) (combined_here start n m field a x fa la top ea (rw e at ex))
    (combined_here start n m field b y fb lb top eb (rw e at ey))

-- ---- fields end to end

-- the parts that are lent are those fields
pub kind_is : (N start j r : ℕ) (w : Float) (field added out : List Float) → r ≡ tri (N + 1) →
    out ≡ rows (blended start w field (take (j * (2 + 2 * r) + (2 + 2 * r) - j * (2 + 2 * r)) (drop (j * (2 + 2 * r)) added))
    (take (j * (2 + 2 * r) + (2 + 2 * r) + (2 + 2 * r) - (j * (2 + 2 * r) + (2 + 2 * r))) (drop (j * (2 + 2 * r) + (2 + 2 * r)) added))) (N + 1) →
    out ≡ blend_of N start field added w j
unfolding blend_of
kind_is N start j r w field added out e h =
    let z : 2 + 2 * r ≡ field_size N = ap (λ (i : ℕ). 2 + 2 * i) e in
    let d : (j * (2 + 2 * r) + (2 + 2 * r) - j * (2 + 2 * r)) ≡ field_size N = between (j * (2 + 2 * r)) (2 + 2 * r) ∙ z in
    let g : (j * (2 + 2 * r) + (2 + 2 * r) + (2 + 2 * r) - (j * (2 + 2 * r) + (2 + 2 * r))) ≡ field_size N = between (j * (2 + 2 * r) + (2 + 2 * r)) (2 + 2 * r) ∙ z in
    let p : j * (2 + 2 * r) ≡ j * field_size N = ap (λ (i : ℕ). j * i) z in
    let q : j * (2 + 2 * r) + (2 + 2 * r) ≡ (j + 1) * field_size N = ap₂ (λ (x y : ℕ). x + y) p z ∙ after j (field_size N) in
    h ∙ ap₂ (λ (a b : List Float). rows (blended start w field a b) (N + 1))
    (ap₂ (λ (x y : ℕ). take x (drop y added)) d p) (ap₂ (λ (x y : ℕ). take x (drop y added)) g q)
  where
    between : (a z : ℕ) → a + z - a ≡ z
    between a z = omega arith

    after : (j z : ℕ) → j * z + z ≡ (j + 1) * z
    after j z = omega (arith, add-mul j 1 z)

-- ---- the guard of `at`

-- what holds where it lets a call through
pub room_of : (M : Model) (out : ℕ) → sized M out ≡ true → FieldRoom M out
unfolding at_fits
room_of M out h =
    let N : ℕ = M.fixed.degree in
    let n : ℕ = length M.fields.field_times in
    let a : ℕ = length M.fields.added in
    let p4 = both_true (leb N 180 && eqb (length M.fixed.static) (field_size N) && leb 2 n && leb n (a / field_size N)) (leb (2 * tri (N + 1)) out) h in
    let p3 = both_true (leb N 180 && eqb (length M.fixed.static) (field_size N) && leb 2 n) (leb n (a / field_size N)) p4.0 in
    let p2 = both_true (leb N 180 && eqb (length M.fixed.static) (field_size N)) (leb 2 n) p3.0 in
    let p1 = both_true (leb N 180) (eqb (length M.fixed.static) (field_size N)) p2.0 in
    let m : n ≤ a / field_size N = leb-true n (a / field_size N) p3.1 in
    let q : n * field_size N ≤ a / field_size N * field_size N = mul-le-mul_right (field_size N) m in
    record {
      degree = leb-true N 180 p1.0;
      static = eqb-true (length M.fixed.static) (field_size N) p1.1;
      count = leb-true 2 n p2.1;
      fields = le_trans q (div-mul-le_self a (field_size N));
      room = leb-true (2 * tri (N + 1)) out p4.1;
    }

-- the field at t
pub field_is : (M : Model) (out : List Float) (t w : Float) (j : ℕ) (out' : List Float) → w ≡ weight M.fields.field_times t j → j ≡ bracket M.fields.field_times t →
    out' ≡ (blend_of M.fixed.degree cosines M.fixed.static M.fields.added w j ++ blend_of M.fixed.degree (sines M.fixed.degree) M.fixed.static M.fields.added w j) ++ drop
    (2 * tri (M.fixed.degree + 1)) out →
    out' ≡ field_at M t ++ drop (2 * tri (M.fixed.degree + 1)) out
unfolding kind_at
field_is M out t w j out' ew ej e =
    let N : ℕ = M.fixed.degree in
    let rest : List Float = drop (2 * tri (N + 1)) out in
    e ∙ ap (λ (x : Float). (blend_of N cosines M.fixed.static M.fields.added x j ++ blend_of N (sines N) M.fixed.static M.fields.added x j) ++ rest) ew
    ∙ ap (λ (i : ℕ). (blend_of N cosines M.fixed.static M.fields.added (weight M.fields.field_times t i) i ++ blend_of N (sines N) M.fixed.static M.fields.added
    (weight M.fields.field_times t i) i) ++ rest) ej
