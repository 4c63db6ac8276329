-- The rows of the fit of one revolution, six numbers a sample, filled one after another. Assumes nothing.
use mathlib.Core.Path.{◌≡◌, refl, sym, ap, ◌∙◌}
use mathlib.Core.List.{List, [], ◌∷◌, ◌++◌, append_assoc, append-nil}
use Prim.Native.Nat.{ℕ, ◌+◌, ◌-◌, ◌*◌, ◌<◌, ◌≤◌}
use native.Mathlib.Numerals.{add-one}
use native.Mathlib.Omega.{arith}
use lib.Ieee.{Float, nan}
use lib.ListN.{length, take, drop, get_or, length-take, length-drop, length-append}
use lib.Seq.{take-suc, get_or-drop}
use borrow.Rule.Slice.PartMut.{mid_of, put_mid, same_len_mid}
use Rattle.detrend.specs.Fit.{row_of, rows_of}
use Rattle.detrend.proofs.PartsInPlace.{put_on, put_none, get_before, length_mid}

pub length_row : (start period t : Float) → length (row_of start period t) ≡ 6
unfolding row_of
length_row start period t = refl

pub length_rows : (start period : Float) (ts : List Float) → length (rows_of start period ts) ≡ 6 * length ts
unfolding rows_of
length_rows start period [] = refl
length_rows start period (t ∷ ts) =
    length-append (row_of start period t) (rows_of start period ts) ∙ omega (arith, length_row start period t, length_rows start period ts)

rows_more : (start period : Float) (ts : List Float) (t : Float) → rows_of start period (ts ++ (t ∷ [])) ≡ rows_of start period ts ++ row_of start period t
unfolding rows_of
rows_more start period [] t = append-nil (row_of start period t)
rows_more start period (u ∷ ts) t =
    ap (λ (l : List Float). row_of start period u ++ l) (rows_more start period ts t)
    ∙ sym (append_assoc (row_of start period u) (rows_of start period ts) (row_of start period t))

mid_more : (from i : ℕ) (s : List Float) → from + i < length s → mid_of from (i + 1) s ≡ mid_of from i s ++ (get_or s (from + i) nan ∷ [])
mid_more from i s h =
    ap (λ (j : ℕ). take j (drop from s)) (add-one i)
    ∙ take-suc (drop from s) i nan (rw (length-drop from s) (omega arith))
    ∙ ap (λ (v : Float). take i (drop from s) ++ (v ∷ [])) (get_or-drop from s i nan)

-- ---- rows behind each other

pub rows_none : (start period : Float) (from to : ℕ) (s : List Float) → s ≡ put_mid to (6 * 0) s (rows_of start period (mid_of from 0 s))
unfolding rows_of
rows_none start period from to s = sym (put_none to s)

pub rows_turn : (start period : Float) (from count to i : ℕ) (s s₀ ys : List Float) → from + count ≤ to → to + 6 * count ≤ length s₀ → i < count →
    s ≡ put_mid to (6 * i) s₀ (rows_of start period (mid_of from i s₀)) → ys ≡ row_of start period (get_or s (from + i) nan) →
    put_mid (to + 6 * i) (to + 6 * i + 6 - (to + 6 * i)) s ys ≡ put_mid to (6 * (i + 1)) s₀ (rows_of start period (mid_of from (i + 1) s₀))
rows_turn start period from count to i s s₀ ys h b t inv ey =
    let l : List Float = rows_of start period (mid_of from i s₀) in
    let ll : length l ≡ 6 * i = length_rows start period (mid_of from i s₀) ∙ ap (λ (j : ℕ). 6 * j) (length_mid from i s₀ (omega arith)) in
    let g : get_or s (from + i) nan ≡ get_or s₀ (from + i) nan =
    ap (λ (x : List Float). get_or x (from + i) nan) inv ∙ get_before to (6 * i) (from + i) s₀ l nan (omega arith) (omega arith) in
    let k : to + 6 * i + 6 - (to + 6 * i) ≡ 6 = omega arith in
    let z : 6 * i + 6 ≡ 6 * (i + 1) = omega arith in
    let w : l ++ ys ≡ rows_of start period (mid_of from (i + 1) s₀) =
    ap (λ (x : List Float). l ++ x) (ey ∙ ap (row_of start period) g) ∙ sym (rows_more start period (mid_of from i s₀) (get_or s₀ (from + i) nan))
    ∙ ap (rows_of start period) (sym (mid_more from i s₀ (omega arith))) in
    ap (λ (j : ℕ). put_mid (to + 6 * i) j s ys) k
    ∙ ap (λ (x : List Float). put_mid (to + 6 * i) 6 x ys) inv
    ∙ put_on to (6 * i) 6 s₀ l ys (omega arith) ll
    ∙ ap (λ (x : List Float). put_mid to (6 * i + 6) s₀ x) w
    ∙ ap (λ (j : ℕ). put_mid to j s₀ (rows_of start period (mid_of from (i + 1) s₀))) z

pub rows_done : (start period : Float) (from count to i : ℕ) (s s₀ : List Float) → i ≤ count → count ≤ i →
    s ≡ put_mid to (6 * i) s₀ (rows_of start period (mid_of from i s₀)) → s ≡ put_mid to (6 * count) s₀ (rows_of start period (mid_of from count s₀))
rows_done start period from count to i s s₀ h k inv =
    let e : i ≡ count = omega arith in
    inv ∙ ap (λ (j : ℕ). put_mid to (6 * j) s₀ (rows_of start period (mid_of from j s₀))) e

pub rows_length : (start period : Float) (from count to i : ℕ) (s s₀ : List Float) → from + count ≤ to → to + 6 * count ≤ length s₀ → i ≤ count →
    s ≡ put_mid to (6 * i) s₀ (rows_of start period (mid_of from i s₀)) → length s ≡ length s₀
rows_length start period from count to i s s₀ h b t inv =
    ap length inv ∙ same_len_mid to (6 * i) s₀ (rows_of start period (mid_of from i s₀))
    (length_rows start period (mid_of from i s₀) ∙ simp (length-take, length-drop) (omega arith))
