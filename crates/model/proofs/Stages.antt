-- The field at a time is what crate `finality` makes of the fields combined one by one, and appended fields are appended to its list. Assumes nothing.
use mathlib.Core.Path.{◌≡◌, refl, sym, ap, ap₂, ◌∙◌, subst}
use mathlib.Core.List.{List, [], ◌∷◌, ◌++◌, map}
use mathlib.Core.Bool.{Bool, true, false, cond}
use Prim.Native.Nat.{ℕ, zero, suc, ◌+◌, ◌*◌, ◌<◌, ◌≤◌}
use native.Mathlib.Nat.{suc-mul, zero-mul, add_comm, le_of_suc-le-suc}
use native.Mathlib.Numerals.{add-one}
use native.Mathlib.Omega.{arith}
use lib.ListN.{length, take, drop, get_or, length-drop}
use lib.Seq.{drop-drop, drop-append-le, take-append-le}
use lib.Ieee.{Float, nan, le}
use Rattle.inputs.specs.Inputs.{model_with, field_size}
use Rattle.laws.specs.Tables.{row, rows, row_length, rows_length}
use Rattle.finality.specs.Stages.{time_of}
use Rattle.finality.specs.Brackets.{bracketed}
use Rattle.model.specs.Field.{cosines, sines}
use Rattle.model.specs.Model.{bracket, share, weight, mix, combined, blended, blend_of, added_field, kind_at, field_at}
use Rattle.model.specs.Stages.{combined_field, mixed, blend_fields, timed}
use Rattle.model.proofs.Times.{bracket_room}

-- ---- `bracketed` blends the field at the bracket and the next

pub bracketed_at : {Field : Type 0} (missing : Field) (blend : Float × Field → Float × Field → Float → Field) (d : Float × Field) (fs : List (Float × Field)) (t : Float) → 2 ≤ length fs →
    bracketed missing blend fs t ≡ blend (get_or fs (bracket (map time_of fs) t) d) (get_or fs (suc (bracket (map time_of fs) t)) d) t
unfolding bracketed bracket
bracketed_at missing blend d [] t h = absurd (omega arith)
bracketed_at missing blend d (a ∷ []) t h = absurd (omega arith)
bracketed_at missing blend d (a ∷ b ∷ []) t h = refl
bracketed_at {Field} missing blend d (a ∷ b ∷ c ∷ fs) t h =
    by_cases (le b.0 t) (bracket (map time_of (b ∷ c ∷ fs)) t) (bracketed_at missing blend d (b ∷ c ∷ fs) t (omega arith))
  where
    by_cases : (x : Bool) (k : ℕ) → bracketed missing blend (b ∷ c ∷ fs) t ≡ blend (get_or (b ∷ c ∷ fs) k d) (get_or (b ∷ c ∷ fs) (suc k) d) t →
        cond x (bracketed missing blend (b ∷ c ∷ fs) t) (blend a b t) ≡ blend (get_or (a ∷ b ∷ c ∷ fs) (cond x (suc k) 0) d) (get_or (a ∷ b ∷ c ∷ fs) (suc (cond x (suc k) 0)) d) t
    by_cases true k e = e
    by_cases false k e = refl

-- ---- the fields with their times

-- a field combined, with its time
abbrev pub combine : ℕ → List Float → Float × List Float → Float × List Float
combine N field f = (f.0, combined_field N field f.1)

pub timed_length : (N : ℕ) (ts added : List Float) → length (timed N ts added) ≡ length ts
unfolding timed
timed_length N [] added = refl
timed_length N (t ∷ ts) added = ap suc (timed_length N ts (drop (field_size N) added))

-- their times are the list of times
pub timed_times : (N : ℕ) (ts added : List Float) → map time_of (timed N ts added) ≡ ts
unfolding timed
timed_times N [] added = refl
timed_times N (t ∷ ts) added = ap (λ (l : List Float). t ∷ l) (timed_times N ts (drop (field_size N) added))

timed_at : (N : ℕ) (ts added : List Float) (j : ℕ) (d : Float × List Float) → j < length ts → get_or (timed N ts added) j d ≡ (get_or ts j nan, added_field N added j)
unfolding timed
timed_at N [] added j d h = absurd (omega arith)
timed_at N (t ∷ ts) added zero d h = ap (λ (i : ℕ). (t, take (field_size N) (drop i added))) (sym (zero-mul (field_size N)))
timed_at N (t ∷ ts) added (suc j) d h =
    let e : field_size N + j * field_size N ≡ suc j * field_size N = add_comm (field_size N) (j * field_size N) ∙ sym (suc-mul j (field_size N)) in
    timed_at N ts (drop (field_size N) added) j d (le_of_suc-le-suc h)
    ∙ ap (λ (l : List Float). (get_or ts j nan, take (field_size N) l)) (drop-drop (j * field_size N) (field_size N) added ∙ ap (λ (i : ℕ). drop i added) e)

-- appended fields, where the first are whole
pub timed_append : (N : ℕ) (ts us fs gs : List Float) → length fs ≡ length ts * field_size N → timed N (ts ++ us) (fs ++ gs) ≡ timed N ts fs ++ timed N us gs
unfolding timed
timed_append N [] us [] gs h = refl
timed_append N [] us (f ∷ fs) gs h = absurd (let z = zero-mul (field_size N) in omega arith)
timed_append N (t ∷ ts) us fs gs h =
    let m : suc (length ts) * field_size N ≡ length ts * field_size N + field_size N = suc-mul (length ts) (field_size N) in
    let l = length-drop (field_size N) fs in
    ap₂ (λ (x : List Float) (y : List (Float × List Float)). (t, x) ∷ y) (take-append-le (field_size N) fs gs (omega arith))
    (ap (timed N (ts ++ us)) (drop-append-le (field_size N) fs gs (omega arith)) ∙ timed_append N ts us (drop (field_size N) fs) gs (omega arith))

mapped_at : {A B : Type 0} (f : A → B) (xs : List A) (i : ℕ) (d : A) → get_or (map f xs) i (f d) ≡ f (get_or xs i d)
mapped_at f [] i d = refl
mapped_at f (x ∷ xs) zero d = refl
mapped_at f (x ∷ xs) (suc i) d = mapped_at f xs i d

mapped_length : {A B : Type 0} (f : A → B) (xs : List A) → length (map f xs) ≡ length xs
mapped_length f [] = refl
mapped_length f (x ∷ xs) = ap suc (mapped_length f xs)

combined_times : (N : ℕ) (field : List Float) (fs : List (Float × List Float)) → map time_of (map (combine N field) fs) ≡ map time_of fs
combined_times N field [] = refl
combined_times N field (f ∷ fs) = ap (λ (l : List Float). f.0 ∷ l) (combined_times N field fs)

-- ---- mixing tables

mixed_append : (w : Float) (a b c d : List Float) → length a ≡ length b → mixed w (a ++ c) (b ++ d) ≡ mixed w a b ++ mixed w c d
unfolding mixed
mixed_append w [] [] c d h = refl
mixed_append w [] (y ∷ b) c d h = absurd (omega arith)
mixed_append w (x ∷ a) [] c d h = absurd (omega arith)
mixed_append w (x ∷ a) (y ∷ b) c d h = ap (λ (l : List Float). mix w x y ∷ l) (mixed_append w a b c d (omega arith))

mixed_row : (w : Float) (f g : ℕ → Float) (k : ℕ) → mixed w (row f k) (row g k) ≡ row (λ m. mix w (f m) (g m)) k
unfolding mixed row
mixed_row w f g zero = refl
mixed_row w f g (suc k) =
    mixed_append w (row f k) (row g k) (f k ∷ []) (g k ∷ []) (row_length f k ∙ sym (row_length g k))
    ∙ ap (λ (l : List Float). l ++ (mix w (f k) (g k) ∷ [])) (mixed_row w f g k)

mixed_rows : (w : Float) (f g : ℕ → ℕ → Float) (k : ℕ) → mixed w (rows f k) (rows g k) ≡ rows (λ n m. mix w (f n m) (g n m)) k
unfolding mixed rows
mixed_rows w f g zero = refl
mixed_rows w f g (suc k) =
    mixed_append w (rows f k) (rows g k) (row (f k) (suc k)) (row (g k) (suc k)) (rows_length f k ∙ sym (rows_length g k))
    ∙ ap₂ (λ (x y : List Float). x ++ y) (mixed_rows w f g k) (mixed_row w (f k) (g k) (suc k))

kind_mixed : (N k : ℕ) (field a b : List Float) (w : Float) → mixed w (rows (combined k field a) (N + 1)) (rows (combined k field b) (N + 1)) ≡ rows (blended k w field a b) (N + 1)
unfolding blended
kind_mixed N k field a b w = mixed_rows w (combined k field a) (combined k field b) (N + 1)

fields_mixed : (N : ℕ) (field a b : List Float) (w : Float) →
    mixed w (combined_field N field a) (combined_field N field b) ≡ rows (blended cosines w field a b) (N + 1) ++ rows (blended (sines N) w field a b) (N + 1)
unfolding combined_field
fields_mixed N field a b w =
    mixed_append w (rows (combined cosines field a) (N + 1)) (rows (combined cosines field b) (N + 1)) (rows (combined (sines N) field a) (N + 1)) (rows (combined (sines N) field b) (N + 1))
    (rows_length (combined cosines field a) (N + 1) ∙ sym (rows_length (combined cosines field b) (N + 1)))
    ∙ ap₂ (λ (x y : List Float). x ++ y) (kind_mixed N cosines field a b w) (kind_mixed N (sines N) field a b w)

-- ---- the field at a time

pub field_bracketed : (N : ℕ) (missing field a b ts added : List Float) (t : Float) → 2 ≤ length ts →
    field_at (model_with N field a b ts added) t ≡ bracketed missing blend_fields (map (combine N field) (timed N ts added)) t
unfolding kind_at blend_of weight blend_fields
field_bracketed N missing field a b ts added t h =
    let fs : List (Float × List Float) = timed N ts added in
    let all : List (Float × List Float) = map (combine N field) fs in
    let d : Float × List Float = (nan, []) in
    let j : ℕ = bracket ts t in
    let room = bracket_room ts t h in
    let n : length all ≡ length ts = mapped_length (combine N field) fs ∙ timed_length N ts added in
    let times : map time_of all ≡ ts = combined_times N field fs ∙ timed_times N ts added in
    let next : j + 1 ≡ suc j = add-one j in
    let at : (i : ℕ) → i < length ts → get_or all i (combine N field d) ≡ (get_or ts i nan, combined_field N field (added_field N added i)) =
    λ i k. mapped_at (combine N field) fs i d ∙ ap (combine N field) (timed_at N ts added i d k) in
    sym (bracketed_at missing blend_fields (combine N field d) all t (subst (λ (i : ℕ). 2 ≤ i) (sym n) h)
    ∙ ap (λ (l : List Float). blend_fields (get_or all (bracket l t) (combine N field d)) (get_or all (suc (bracket l t)) (combine N field d)) t) times
    ∙ ap (λ (i : ℕ). blend_fields (get_or all j (combine N field d)) (get_or all i (combine N field d)) t) (sym next)
    ∙ ap₂ (λ (a b : Float × List Float). blend_fields a b t) (at j (omega arith)) (at (j + 1) (omega arith))
    ∙ fields_mixed N field (added_field N added j) (added_field N added (j + 1)) (share (get_or ts j nan) (get_or ts (j + 1) nan) t))
