-- An array filled from its first place on. Assumes nothing.
use Rattle.legendre.specs.Arrays.{Begins, Has}
use Prim.Native.Nat.{ℕ, ◌+◌, ◌<◌}
use mathlib.Core.Path.{◌≡◌, ◌∙◌, subst}
use mathlib.Core.List.{List}
use native.Mathlib.Decide.{dec_le}
use native.Mathlib.Omega.{arith}
use lib.ListN.{length, get_or, set, length-set}
use lib.Seq.{get_or-set_same, get_or-set_other}
use lib.Ieee.{Float, nan}

-- one store more
pub pre_more : {j : ℕ} {g : ℕ → Float} {w₀ w : List Float} (v : Float) → Begins j g w₀ w → j < length w → v ≡ g j → Begins (j + 1) g w₀ (set w j v)
pre_more {j} {g} {w₀} {w} v r inside ev = record {
  len = length-set w j v ∙ r.len;
  set = λ i lt.
      elim (dec_le j i) [
        | yes h ↦
            let f : j ≡ i = omega arith in
            subst (λ (x : ℕ). get_or (set w j v) x nan ≡ g x) f (get_or-set_same w j v nan inside ∙ ev)
        | no h ↦ get_or-set_other w j i v nan (λ q. absurd (omega arith)) ∙ r.set i (omega arith)
      ];
  rest = λ i le. get_or-set_other w j i v nan (λ q. absurd (omega arith)) ∙ r.rest i (omega arith);
}

pub has_none : {g : ℕ → Float} {w : List Float} → length w ≡ 184 → Has 0 g w
has_none e = record { len = e; set = λ i h. absurd (omega arith) }

pub has_more : {j : ℕ} {g : ℕ → Float} {w : List Float} (v : Float) → Has j g w → j < 184 → v ≡ g j → Has (j + 1) g (set w j v)
has_more {j} {g} {w} v r inside ev = record {
  len = length-set w j v ∙ r.len;
  set = λ i lt.
      elim (dec_le j i) [
        | yes h ↦
            let f : j ≡ i = omega arith in
            subst (λ (x : ℕ). get_or (set w j v) x nan ≡ g x) f (get_or-set_same w j v nan (omega (arith, r.len)) ∙ ev)
        | no h ↦ get_or-set_other w j i v nan (λ q. absurd (omega arith)) ∙ r.set i (omega arith)
      ];
}

pub has_as : {j : ℕ} {g f : ℕ → Float} {w : List Float} → Has j g w → ((i : ℕ) → i < j → g i ≡ f i) → Has j f w
has_as r e = record { len = r.len; set = λ i h. r.set i h ∙ e i h }
