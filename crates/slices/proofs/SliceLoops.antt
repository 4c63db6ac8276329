-- What a copy gives where the lengths agree, and a list that is reversed from its front. Assumes nothing.
use Rattle.std.specs.Prelude.{◌≡◌, ℕ, suc, ◌<◌, List, [], ◌∷◌, length, take, get_or, reverse, Float}
use Rattle.std.proofs.Common.{ap, ◌∙◌, eq-eqb}
use mathlib.Core.List.{reverse-append}
use lib.Seq.{take-suc}
use Rattle.slices.specs.Slices.{copied}

pub copied_all : (x o : List Float) → length o ≡ length x → copied x o ≡ x
unfolding copied
copied_all x o h = simp (eq-eqb (length o) (length x) h)

-- one more from the front of a list that is reversed
pub take_reverse {ℓ} : {A : Type ℓ} (d : A) (l : List A) (m : ℕ) → m < length l → reverse (take (suc m) l) ≡ get_or l m d ∷ reverse (take m l)
take_reverse d l m h = ap reverse (take-suc l m d h) ∙ reverse-append (take m l) (get_or l m d ∷ [])
