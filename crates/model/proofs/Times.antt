-- Laws of cover, bracket and weight as the code walks them. Assumes nothing.
use mathlib.Core.Path.{◌≡◌, refl, sym, ap, ◌∙◌}
use mathlib.Core.List.{List, [], ◌∷◌}
use mathlib.Core.Bool.{Bool, true, false, not, cond, ◌&&◌}
use borrow.Author.Tests.{not-true, not-false}
use Rattle.std.proofs.Common.{Option, Some}
use Prim.Native.Nat.{ℕ, suc, ◌+◌, ◌-◌, ◌*◌, ◌<◌, ◌≤◌}
use native.Mathlib.Nat.{mul-le-mul_right}
use native.Mathlib.Omega.{arith}
use lib.ListN.{length, drop, get_or, length-drop, get_or-eq_default}
use lib.Ieee.{Float, binary64, nan, inf, fin, add, sub, div, le, lt, of_bits, of_fields}
use Rattle.laws.specs.Floats.{◌⊖◌, ◌⊘◌}
use Rattle.laws.specs.Loops.{head_at}
use Rattle.laws.specs.Times.{end, precedes}
use Rattle.finality.specs.Brackets.{covers}
use Rattle.model.specs.Model.{bracket, weight}

-- ---- covered times

end_is : (a : Float) (ts : List Float) → end (λ (u : Float). u) (a ∷ ts) ≡ Some (get_or (a ∷ ts) (length ts) nan)
unfolding end
end_is a [] = refl
end_is a (b ∷ ts) = end_is b ts

-- by the first time and the last
pub covers_is : (ts : List Float) (t : Float) → 0 < length ts → covers ts t ≡ (le (get_or ts 0 nan) t && lt t (get_or ts (length ts - 1) nan))
unfolding covers
covers_is [] t h = absurd (omega arith)
covers_is (a ∷ ts) t h =
    let e : length (a ∷ ts) - 1 ≡ length ts = omega arith in
    ap (λ (o : Option Float). le a t && precedes t o) (end_is a ts) ∙ ap (λ (i : ℕ). le a t && lt t (get_or (a ∷ ts) i nan)) (sym e)

pub covers_none : (ts : List Float) (t : Float) → length ts ≡ 0 → false ≡ covers ts t
unfolding covers
covers_none [] t h = refl
covers_none (a ∷ ts) t h = absurd (omega arith)

-- ---- the bracket

bracket_at : (ts : List Float) (t : Float) (j : ℕ) → 2 < length ts - j → bracket (drop j ts) t ≡ cond (le (get_or ts (j + 1) nan) t) (suc (bracket (drop (j + 1) ts) t)) 0
unfolding bracket
bracket_at ts t j h =
    let u : Float = get_or ts (j + 1) nan in
    let rest : List Float = drop (j + 1 + 1 + 1) ts in
    let v : Float = get_or ts (j + 1 + 1) nan in
    let e : drop (j + 1) ts ≡ u ∷ v ∷ rest = head_at ts (j + 1) nan (omega arith) ∙ ap (λ (l : List Float). u ∷ l) (head_at ts (j + 1 + 1) nan (omega arith)) in
    ap (λ (l : List Float). bracket l t) (head_at ts j nan (omega arith) ∙ ap (λ (l : List Float). get_or ts j nan ∷ l) e)
    ∙ ap (λ (l : List Float). cond (le u t) (suc (bracket l t)) 0) (sym e)

-- the next field, not the last, is at or before t
pub bracket_goes : (ts : List Float) (t : Float) (j g : ℕ) → j < length ts - 2 → not (le (get_or ts (j + 1) nan) t) ≡ false → j + bracket (drop j ts) t ≡ g →
    j + 1 + bracket (drop (j + 1) ts) t ≡ g
bracket_goes ts t j g h e inv =
    let s : bracket (drop j ts) t ≡ suc (bracket (drop (j + 1) ts) t) =
    bracket_at ts t j (omega arith) ∙ ap (λ (b : Bool). cond b (suc (bracket (drop (j + 1) ts) t)) 0) (not-false (le (get_or ts (j + 1) nan) t) e) in
    omega arith

-- it is not
pub bracket_stops : (ts : List Float) (t : Float) (j g : ℕ) → j < length ts - 2 → not (le (get_or ts (j + 1) nan) t) ≡ true → j + bracket (drop j ts) t ≡ g → j ≡ g
bracket_stops ts t j g h e inv =
    let s : bracket (drop j ts) t ≡ 0 =
    bracket_at ts t j (omega arith) ∙ ap (λ (b : Bool). cond b (suc (bracket (drop (j + 1) ts) t)) 0) (not-true (le (get_or ts (j + 1) nan) t) e) in
    omega arith

bracket_few : (ts : List Float) (t : Float) → length ts ≤ 2 → bracket ts t ≡ 0
unfolding bracket
bracket_few [] t h = refl
bracket_few (a ∷ []) t h = refl
bracket_few (a ∷ b ∷ []) t h = refl
bracket_few (a ∷ b ∷ c ∷ ts) t h = absurd (omega arith)

pub bracket_done : (ts : List Float) (t : Float) (j g : ℕ) → length ts - 2 ≤ j → j + bracket (drop j ts) t ≡ g → j ≡ g
bracket_done ts t j g h inv =
    let s : bracket (drop j ts) t ≡ 0 = bracket_few (drop j ts) t (simp length-drop (omega arith)) in
    omega arith

-- ---- NaN

div_nan : (x : Float) → x ⊘ nan ≡ nan
unfolding div
div_nan nan = refl
div_nan (inf s) = refl
div_nan (fin s m e) = refl

nan_sub : (x : Float) → nan ⊖ x ≡ nan
unfolding sub add
nan_sub nan = refl
nan_sub (inf s) = refl
nan_sub (fin s m e) = refl

none_is : of_bits binary64 0x7ff8000000000000 ≡ nan
unfolding of_bits of_fields
none_is = refl

-- the next field is missing
pub weight_last : (ts : List Float) (t : Float) (j : ℕ) → length ts ≤ j + 1 → of_bits binary64 0x7ff8000000000000 ≡ weight ts t j
unfolding weight
weight_last ts t j h =
    let a : Float = get_or ts j nan in
    let e : get_or ts (j + 1) nan ≡ nan = get_or-eq_default ts nan h in
    none_is ∙ sym (ap (λ (b : Float). (t ⊖ a) ⊘ (b ⊖ a)) e ∙ ap (λ (x : Float). (t ⊖ a) ⊘ x) (nan_sub a) ∙ div_nan (t ⊖ a))

-- ---- field j and the next are there

pub bracket_room : (ts : List Float) (t : Float) → 2 ≤ length ts → bracket ts t + 2 ≤ length ts
unfolding bracket
bracket_room [] t h = absurd (omega arith)
bracket_room (a ∷ []) t h = absurd (omega arith)
bracket_room (a ∷ b ∷ []) t h = omega arith
bracket_room (a ∷ b ∷ c ∷ ts) t h = go (le b t) (bracket (b ∷ c ∷ ts) t) (length ts) (bracket_room (b ∷ c ∷ ts) t (omega arith))
  where
    go : (x : Bool) (k n : ℕ) → k + 2 ≤ suc (suc n) → cond x (suc k) 0 + 2 ≤ suc (suc (suc n))
    go true k n h = omega arith
    go false k n h = omega arith

pub bracket_fields : (ts : List Float) (t : Float) (j Z n : ℕ) → j ≡ bracket ts t → 2 ≤ length ts → length ts * Z ≤ n → (j + 2) * Z ≤ n
bracket_fields ts t j Z n e h f =
    let r = bracket_room ts t h in
    let m : j + 2 ≤ length ts = omega arith in
    let p : (j + 2) * Z ≤ length ts * Z = mul-le-mul_right Z m in
    omega arith
