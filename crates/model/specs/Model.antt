-- The time-variable model (document 01, module 3; the source's `Model`): a static field, and fields with times that are added to it. Assumes nothing.
use Rattle.std.specs.Prelude.{ℕ, suc, ◌+◌, ◌*◌, cond, List, [], ◌∷◌, ◌++◌, ltb, take, drop, get_or, Float}
use Rattle.std.specs.Float.{nan}
use Rattle.std.specs.Float.Ieee.{le}
use Rattle.inputs.specs.Inputs.{Model, field_size}
use Rattle.laws.specs.Floats.{◌⊕◌, ◌⊖◌, ◌⊗◌, ◌⊘◌, one64}
use Rattle.laws.specs.Tables.{rows}
use Rattle.fields.specs.Rescaled.{rescaled_at}
use Rattle.model.specs.Field.{gm, radius, cosines, sines, coefficient}

-- ---- the bracket of t and the weight

-- the last field at or before t, at most the last but one, and 0 if there is none: one step for each next field, but the last, that is at or before t
unfoldable pub bracket : List Float → Float → ℕ
bracket [] t = 0
bracket (a ∷ []) t = 0
bracket (a ∷ b ∷ []) t = 0
bracket (a ∷ b ∷ c ∷ times) t = cond (le b t) (suc (bracket (b ∷ c ∷ times) t)) 0

-- how far t is on the way from a to b
abbrev pub share : Float → Float → Float → Float
share a b t = (t ⊖ a) ⊘ (b ⊖ a)

-- how far t is on the way from field j to the next
unfoldable pub weight : List Float → Float → ℕ → Float
weight times t j = share (get_or times j nan) (get_or times (j + 1) nan) t

-- ---- fields combined and blended

-- added field j of fields of degree N that stand end to end
abbrev pub added_field : ℕ → List Float → ℕ → List Float
added_field N added j = take (field_size N) (drop (j * field_size N) added)

-- the static field with an added one, in the static field's GM and radius: added from degree 2 on
unfoldable pub combined : ℕ → List Float → List Float → ℕ → ℕ → Float
combined k field added n m =
    cond (ltb n 2) (coefficient k field n m) (coefficient k field n m ⊕ rescaled_at k (gm field) (radius field) added n m)

-- (1 − w)·a + w·b, computed at every weight
abbrev pub mix : Float → Float → Float → Float
mix w a b = (one64 ⊖ w) ⊗ a ⊕ w ⊗ b

-- two combined fields blended
unfoldable pub blended : ℕ → Float → List Float → List Float → List Float → ℕ → ℕ → Float
blended k w field a b n m = mix w (combined k field a n m) (combined k field b n m)

-- the coefficients of one kind, in index order, blended from added fields j and j + 1
unfoldable pub blend_of : ℕ → ℕ → List Float → List Float → Float → ℕ → List Float
blend_of N k field added w j = rows (blended k w field (added_field N added j) (added_field N added (j + 1))) (N + 1)

-- ---- the field at a time, covered or not

-- the coefficients of one kind; an ocean tide would be added to them here, after the blend
unfoldable pub kind_at : ℕ → Model → Float → List Float
kind_at k M t =
    let j = bracket M.fields.field_times t in
    blend_of M.fixed.degree k M.fixed.static M.fields.added (weight M.fields.field_times t j) j

-- the cosine coefficients and then the sine coefficients
abbrev pub field_at : Model → Float → List Float
field_at M t = kind_at cosines M t ++ kind_at (sines M.fixed.degree) M t
