-- A list that begins with another is that list and what was appended. Assumes nothing.
use mathlib.Core.Path.{◌≡◌, sym, ap, ◌∙◌}
use mathlib.Core.List.{List, ◌++◌}
use lib.ListN.{length, drop, take-append-drop}
use Rattle.finality.specs.Sheet.{Begins}

pub glue : {A : Type 0} (xs ys : List A) → Begins xs ys → xs ++ drop (length xs) ys ≡ ys
glue {A = A} xs ys h = ap (λ (l : List A). l ++ drop (length xs) ys) (sym h) ∙ take-append-drop (length xs) ys
