-- Bools: by cases, both sides of a conjunction that holds, a test that holds. Assumes nothing.
use Rattle.std.specs.Prelude.{◌≡◌, refl, Bool, true, false, not, ◌&&◌, T}
use Rattle.std.proofs.Common.{sym, ◌∙◌, subst}
use Rattle.std.proofs.lemmas.Bool.{false≢true}

-- by the two cases of a test
pub by : {P : Type 0} (b : Bool) → (b ≡ true → P) → (b ≡ false → P) → P
by true f g = f refl
by false f g = g refl

pub holds : (b : Bool) → b ≡ true → T b
holds b e = subst T (sym e) tt

pub fails : (b : Bool) → b ≡ false → T (not b)
fails b e = subst (λ (t : Bool). T (not t)) (sym e) tt

pub no : {P : Type 0} → false ≡ true → P
no e = absurd (false≢true e)

pub clash : {P : Type 0} (b : Bool) → b ≡ true → b ≡ false → P
clash b h e = no (sym e ∙ h)

-- where a conjunction holds, both sides do
pub both_true : (a b : Bool) → (a && b) ≡ true → (a ≡ true) × (b ≡ true)
both_true true b e = (refl, e)
both_true false b e = no e

pub left_true : (a b : Bool) → (a && b) ≡ true → a ≡ true
left_true a b e = (both_true a b e).0

pub right_true : (a b : Bool) → (a && b) ≡ true → b ≡ true
right_true a b e = (both_true a b e).1
