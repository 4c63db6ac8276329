-- Appended fields change neither bracket, weight nor the field at a time before the old last field. Assumes nothing.
use mathlib.Core.Path.{◌≡◌, refl, sym, ap, ap₂, ◌∙◌, subst}
use mathlib.Core.List.{List, [], ◌∷◌, ◌++◌}
use mathlib.Core.Bool.{Bool, cond}
use Prim.Native.Nat.{ℕ, zero, suc, ◌+◌, ◌-◌, ◌*◌, ◌≤◌}
use native.Mathlib.Nat.{add-mul, mul-le-mul_right}
use native.Mathlib.Omega.{arith}
use lib.Dec.{T}
use lib.ListN.{length, take, drop, get_or, length-drop, get_or-append}
use lib.Seq.{drop-append-le, take-append-le}
use lib.Ieee.{Float, nan, lt, le}
use Rattle.inputs.specs.Inputs.{Model, field_size}
use Rattle.laws.specs.Floats.{◌⊖◌, ◌⊘◌}
use Rattle.laws.specs.Times.{end, precedes}
use Rattle.laws.specs.Tables.{rows}
use Rattle.model.specs.Field.{cosines, sines}
use Rattle.model.specs.Model.{bracket, weight, added_field, blended, blend_of, kind_at, field_at}
use Rattle.model.proofs.Times.{bracket_room}
use Rattle.model.proofs.Within.{lt→le_false}

-- the last field's time
abbrev last : List Float → Float
last ts = get_or ts (length ts - 1) nan

-- t is before it
last_is : (ts : List Float) (t : Float) → T (precedes t (end (λ (u : Float). u) ts)) → T (lt t (last ts))
unfolding end
last_is [] t h = absurd h
last_is (a ∷ []) t h = h
last_is (a ∷ b ∷ ts) t h =
    let e : length (a ∷ b ∷ ts) - 1 ≡ suc (length (b ∷ ts) - 1) = omega arith in
    subst (λ (i : ℕ). T (lt t (get_or (a ∷ b ∷ ts) i nan))) (sym e) (last_is (b ∷ ts) t h)

-- `covers_stays` of crate finality says the same of the cover

bracket_more : (ts us : List Float) (t : Float) (k : ℕ) → k + 1 ≡ length ts → 2 ≤ length ts → T (lt t (get_or ts k nan)) → bracket (ts ++ us) t ≡ bracket ts t
unfolding bracket
bracket_more [] us t k e m h = absurd (omega arith)
bracket_more (a ∷ []) us t k e m h = absurd (omega arith)
bracket_more (a ∷ b ∷ []) [] t k e m h = refl
bracket_more (a ∷ b ∷ []) (c ∷ us) t k e m h =
    let f : k ≡ 1 = omega arith in
    let g : T (lt t b) = subst (λ (i : ℕ). T (lt t (get_or (a ∷ b ∷ []) i nan))) f h in
    ap (λ (x : Bool). cond x (suc (bracket (b ∷ c ∷ us) t)) 0) (lt→le_false t b g)
bracket_more (a ∷ b ∷ c ∷ ts) us t zero e m h = absurd (omega arith)
bracket_more (a ∷ b ∷ c ∷ ts) us t (suc k) e m h = ap (λ (i : ℕ). cond (le b t) (suc i) 0) (bracket_more (b ∷ c ∷ ts) us t k (omega arith) (omega arith) h)

pub bracket_append : (ts us : List Float) (t : Float) → 2 ≤ length ts → T (precedes t (end (λ (u : Float). u) ts)) → bracket (ts ++ us) t ≡ bracket ts t
bracket_append ts us t m h = bracket_more ts us t (length ts - 1) (omega arith) m (last_is ts t h)

pub weight_append : (ts us : List Float) (t : Float) (j : ℕ) → j + 2 ≤ length ts → weight (ts ++ us) t j ≡ weight ts t j
unfolding weight
weight_append ts us t j h =
    ap₂ (λ (a b : Float). (t ⊖ a) ⊘ (b ⊖ a)) (get_or-append ts us nan j (omega arith)) (get_or-append ts us nan (j + 1) (omega arith))

-- field j of a longer list
added_append : (N : ℕ) (fs gs : List Float) (j : ℕ) → (j + 1) * field_size N ≤ length fs → added_field N (fs ++ gs) j ≡ added_field N fs j
added_append N fs gs j h =
    let p : (j + 1) * field_size N ≡ j * field_size N + 1 * field_size N = add-mul j 1 (field_size N) in
    let l = length-drop (j * field_size N) fs in
    ap (take (field_size N)) (drop-append-le (j * field_size N) fs gs (omega arith)) ∙ take-append-le (field_size N) (drop (j * field_size N) fs) gs (omega arith)

pub blend_append : (N k : ℕ) (field fs gs : List Float) (w : Float) (j : ℕ) → (j + 2) * field_size N ≤ length fs → blend_of N k field (fs ++ gs) w j ≡ blend_of N k field fs w j
unfolding blend_of
blend_append N k field fs gs w j h =
    let p : (j + 2) * field_size N ≡ j * field_size N + 2 * field_size N = add-mul j 2 (field_size N) in
    let q : (j + 1) * field_size N ≡ j * field_size N + 1 * field_size N = add-mul j 1 (field_size N) in
    let r : (j + 1 + 1) * field_size N ≡ (j + 2) * field_size N = ap (λ (i : ℕ). i * field_size N) (omega arith) in
    ap₂ (λ (a b : List Float). rows (blended k w field a b) (N + 1)) (added_append N fs gs j (omega arith)) (added_append N fs gs (j + 1) (omega arith))

-- the coefficients at a time before the old last field
module _ (M : Model) (us gs : List Float) (t : Float) (m : 2 ≤ length M.fields.field_times)
    (l : length M.fields.added ≡ length M.fields.field_times * field_size M.fixed.degree) (h : T (precedes t (end (λ (u : Float). u) M.fields.field_times))) where
  -- the model with fields appended
  abbrev longer : Model
  longer = record { fixed = M.fixed; fields = record { field_times = M.fields.field_times ++ us; added = M.fields.added ++ gs } }

  kind_append : (k : ℕ) → kind_at k longer t ≡ kind_at k M t
  unfolding kind_at
  kind_append k =
      let N : ℕ = M.fixed.degree in
      let static : List Float = M.fixed.static in
      let ts : List Float = M.fields.field_times in
      let fs : List Float = M.fields.added in
      let room = bracket_room ts t m in
      let p : (bracket ts t + 2) * field_size N ≤ length ts * field_size N = mul-le-mul_right (field_size N) room in
      ap (λ (i : ℕ). blend_of N k static (fs ++ gs) (weight (ts ++ us) t i) i) (bracket_append ts us t m h)
      ∙ ap (λ (w : Float). blend_of N k static (fs ++ gs) w (bracket ts t)) (weight_append ts us t (bracket ts t) room)
      ∙ blend_append N k static fs gs (weight ts t (bracket ts t)) (bracket ts t) (omega arith)

  pub field_append : field_at longer t ≡ field_at M t
  field_append = ap₂ (λ (c s : List Float). c ++ s) (kind_append cosines) (kind_append (sines M.fixed.degree))
