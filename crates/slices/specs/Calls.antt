-- What every public call shares (document 01, "Outcomes"): which test fails first, and what is left behind. Assumes nothing.
use Rattle.std.specs.Prelude.{Bool, true, false, cond, List, [], ◌∷◌, map, Float, Result, Ok, Err}
use Rattle.std.specs.Float.Ieee.Scale.{finite}
use Rattle.std.specs.List.{list_all}
use Rattle.laws.specs.Loops.{cleared}
use Rattle.slices.specs.declared.refusal.Refusal.{Refusal}
use Rattle.slices.specs.declared.refusal.Refusal.TheVariants.{NotFinite}

-- what tests say before the work
abbrev pub Verdict : Type 0
Verdict = Result (Unit {0}) Refusal

abbrev pub accepted : Verdict
accepted = Ok tt

-- a test, and the error where it fails
abbrev pub tested : {E : Type 0} → Bool → E → Result (Unit {0}) E
tested passes e = cond passes (Ok tt) (Err e)

-- the error beside the first test that fails
abbrev pub first_failed : {E : Type 0} → List (Bool × E) → Result (Unit {0}) E
first_failed [] = Ok tt
first_failed (t ∷ ts) = cond t.0 (first_failed ts) (Err t.1)

-- what a call returned, and what stands in its lent outputs, in the order of its arguments, and in its scratch
pub record Left (Answer : Type 0) : Type 0 where
  pub answer : Answer
  pub outputs : List (List Float)
  pub scratch : List Float

abbrev pub left : {Answer : Type 0} → Answer → List (List Float) → List Float → Left Answer
left a outputs scratch = record { answer = a; outputs = outputs; scratch = scratch }

-- +0.0 in every output and in the scratch
abbrev pub left_clear : {Answer : Type 0} → Answer → List (List Float) → List Float → Left Answer
left_clear a outputs scratch = left a (map cleared outputs) (cleared scratch)

-- numbers to be handed out: accepted where all are finite
abbrev pub handed : {A : Type 0} → A → Bool → List (List Float) → List (List Float) → List Float → Left (Result A Refusal)
handed a true new outputs scratch = left (Ok a) new (cleared scratch)
handed a false new outputs scratch = left_clear (Err NotFinite) outputs scratch

-- refused before the work: all unchanged. Refused during the work: outputs and scratch +0.0. Else the numbers are handed out
abbrev pub settled : {A : Type 0} → Verdict → Result A Refusal → List (List Float) → List (List Float) → List Float → Left (Result A Refusal)
settled (Err e) work new outputs scratch = left (Err e) outputs scratch
settled (Ok _) (Err e) new outputs scratch = left_clear (Err e) outputs scratch
settled (Ok _) (Ok a) new outputs scratch = handed a (list_all (list_all finite) new) new outputs scratch
