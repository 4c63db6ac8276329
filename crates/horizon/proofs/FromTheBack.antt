-- The last entry of a list, the largest node from the back, and the final count from the back. Assumes nothing.
use Rattle.std.proofs.Common.{◌≡◌, ℕ, zero, suc, ◌+◌, ◌-◌, ◌<◌, ◌≤◌, Bool, true, false, cond}
use Rattle.std.proofs.Common.{List, [], ◌∷◌, length, get_or, drop, sym, refl, ap, ◌∙◌, le_refl, arith, length-drop, drop_of_length-le}
use Rattle.std.specs.Prelude.{Option, None, Some}
use Rattle.std.specs.List.{push}
use Rattle.std.proofs.Common.{option_map, slice_get}
use lib.Ieee.{Float, nan, lt}
use Rattle.laws.specs.Floats.{◌⊖◌}
use Rattle.laws.specs.Times.{end}
use Rattle.laws.specs.Loops.{head_at}
use Rattle.laws.specs.Runs.{splits, longest_step}
use Rattle.finality.specs.Sheet.{end_of, count, largest, else}
use Rattle.finality.proofs.FinalCounts.{count_le}
use Rattle.horizon.specs.Horizon.{end_at, counted}

-- ---- the last entry

pub last_end : {A : Type 0} (time : A → Float) (xs : List A) → option_map time (slice_get xs (length xs - 1)) ≡ end time xs
unfolding end
last_end time [] = refl
last_end time (x ∷ []) = refl
last_end time (x ∷ y ∷ xs) =
    let k : suc (suc (length xs)) - 1 ≡ suc (suc (length xs) - 1) = omega arith in
    rw k (last_end time (y ∷ xs))

-- of times
pub last_time_law : (ts : List Float) → slice_get ts (length ts - 1) ≡ end (λ (t : Float). t) ts
last_time_law ts = sym (same (slice_get ts (length ts - 1))) ∙ last_end (λ (t : Float). t) ts
  where
    same : (o : Option Float) → option_map (λ (t : Float). t) o ≡ o
    same None = refl
    same (Some t) = refl

-- ---- the largest node: the last one that passes

else_first : (b : Bool) (z : Float) (o p : Option Float) → else (cond b (Some z) o) p ≡ cond b (Some z) (else o p)
else_first true z o p = refl
else_first false z o p = refl

largest_more : (ok : Float → Bool) (ns : List Float) (z : Float) → largest ok (push ns z) ≡ cond (ok z) (Some z) (largest ok ns)
unfolding largest
largest_more ok [] z = refl
largest_more ok (n ∷ ns) z =
    let x : Option Float = cond (ok n) (Some n) None in
    ap (λ (o : Option Float). else o x) (largest_more ok ns z) ∙ else_first (ok z) z (largest ok ns) x

-- where the largest node of those that are left is that of all, and z is the last of them
pub node_passes : (ok : Float → Bool) (all left ns : List Float) (z : Float) → left ≡ push ns z → true ≡ ok z → largest ok left ≡ largest ok all →
    Some z ≡ largest ok all
node_passes ok all left ns z e t inv = sym (ap (largest ok) e ∙ largest_more ok ns z ∙ ap (λ (b : Bool). cond b (Some z) (largest ok ns)) (sym t)) ∙ inv

pub node_fails : (ok : Float → Bool) (all left ns : List Float) (z : Float) → left ≡ push ns z → false ≡ ok z → largest ok left ≡ largest ok all →
    largest ok ns ≡ largest ok all
node_fails ok all left ns z e t inv = sym (ap (largest ok) e ∙ largest_more ok ns z ∙ ap (λ (b : Bool). cond b (Some z) (largest ok ns)) (sym t)) ∙ inv

pub none_left : (ok : Float → Bool) (ns : List Float) → length ns ≡ 0 → None ≡ largest ok ns
unfolding largest
none_left ok [] h = refl
none_left ok (n ∷ ns) h = absurd (omega arith)

-- ---- the last epoch of a run

end_next : (ts : List Float) (i : ℕ) → i + 1 < length ts → end_at ts i ≡ cond (splits (get_or ts i nan) (get_or ts (i + 1) nan)) (get_or ts i nan) (end_at ts (i + 1))
unfolding end_of
end_next ts i h = ap (end_of (get_or ts i nan)) (head_at ts (i + 1) nan h)

pub run_ends : (ts : List Float) (i : ℕ) (last : Float) → i + 1 < length ts → lt longest_step (get_or ts (i + 1) nan ⊖ get_or ts i nan) ≡ true → get_or ts i nan ≡ end_at ts i
unfolding splits
run_ends ts i last h e = sym (end_next ts i h ∙ ap (λ (b : Bool). cond b (get_or ts i nan) (end_at ts (i + 1))) e)

pub run_goes_on : (ts : List Float) (i : ℕ) (last : Float) → i + 1 < length ts →
    lt longest_step (get_or ts (i + 1) nan ⊖ get_or ts i nan) ≡ false → (i + 1 < length ts → last ≡ end_at ts (i + 1))
    → last ≡ end_at ts i
unfolding splits
run_goes_on ts i last h e f = f h ∙ sym (end_next ts i h ∙ ap (λ (b : Bool). cond b (get_or ts i nan) (end_at ts (i + 1))) e)

pub list_ends : (ts : List Float) (i : ℕ) → length ts ≤ i + 1 → get_or ts i nan ≡ end_at ts i
unfolding end_of
list_ends ts i h = sym (ap (end_of (get_or ts i nan)) (drop_of_length-le ts h))

-- ---- the count

pub count_none : (z : Float) (ts : List Float) → 0 ≡ count z (drop (length ts) ts)
unfolding count
count_none z ts = sym (ap (count z) (drop_of_length-le ts (le_refl (length ts))))

pub count_turn : (z : Float) (ts : List Float) (i n m : ℕ) (last : Float) → 0 < i → i ≤ length ts → last ≡ end_at ts (i - 1) → n ≡ count z (drop i ts) → m ≡ counted last z n
    → m ≡ count z (drop (i - 1) ts)
unfolding count counted
count_turn z ts i n m last h l e c f =
    let k : i - 1 + 1 ≡ i = omega arith in
    let x : Float = get_or ts (i - 1) nan in
    f
    ∙ (λ j. cond (splits (e j) z) (suc (c j)) (c j))
    ∙ sym (ap (count z) (head_at ts (i - 1) nan (omega arith))
    ∙ ap (λ (us : List Float). cond (splits (end_at ts (i - 1)) z) (suc (count z us)) (count z us)) (ap (λ (n : ℕ). drop n ts) k))

pub count_small : (z : Float) (ts : List Float) (i n : ℕ) → n ≡ count z (drop i ts) → n ≤ length ts - i
count_small z ts i n e = let h : count z (drop i ts) ≤ length (drop i ts) = count_le z (drop i ts) in let l : length (drop i ts) ≡ length ts - i = length-drop i ts in omega arith

pub count_all : (z : Float) (ts : List Float) (i n : ℕ) → i ≤ 0 → n ≡ count z (drop i ts) → n ≡ count z ts
count_all z ts zero n h e = e
count_all z ts (suc i) n h e = absurd (omega arith)
