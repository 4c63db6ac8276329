-- Document 01's number of what `fitted_orbits` answers: that of the tests before the work, then 10; counts are handed out exactly where that is 0.
-- Assumes nothing.
use mathlib.Core.Path.{◌≡◌, refl}
use mathlib.Core.Bool.{Bool, true, false, cond, ◌&&◌}
use mathlib.Core.List.{List, [], ◌∷◌}
use Rattle.std.specs.Prelude.{None, Some, Ok, Err, Result}
use Prim.Native.Nat.{ℕ, ◌-◌}
use lib.Dec.{eqb}
use lib.ListN.{length}
use lib.Ieee.{Float}
use lib.Ieee.Scale.{finite}
use Rattle.std.specs.List.{list_all}
use Rattle.slices.specs.Calls.{Verdict, first_failed}
use Rattle.slices.specs.Answers.{number_of, answer_number, answer_value}
use Rattle.slices.specs.declared.refusal.Refusal.{Refusal}
use Rattle.slices.specs.declared.refusal.Refusal.TheVariants.{NotFinite}
use Rattle.slices.proofs.Calls.{refused_ne0}
use Rattle.fitted_orbits.specs.declared.work.Done.{Done}
use Rattle.fitted_orbits.specs.Orbits.{Window, joined}
use Rattle.fitted_orbits.specs.Calls.{Given, Outputs, lengths_fit, refusal, fitted_windows, listed, handed, settled, orbits_call}

-- the numbers to be handed out for k pairs of neighbouring nodes
abbrev pub whole : ℕ → List Window → Bool
whole k ws = list_all finite (listed k ws).states && list_all finite (listed k ws).rms

-- how many states and how many windows
abbrev pub counts : List Window → Done
counts ws = record { states = length (joined ws); windows = length ws }

-- told by the number n of the tests before the work
abbrev Told : ℕ → Bool → Done → Result Done Refusal → Type 0
Told n fine d a =
    (answer_number a ≡ cond (eqb n 0) (answer_number (first_failed ((fine, NotFinite) ∷ []))) n)
    × (answer_value a ≡ cond (eqb n 0 && fine) (Some d) None)

handed_told : (b : Bool) (k : ℕ) (ws : List Window) (scratch : List Float) → Told 0 b (counts ws) (handed b k ws scratch).answer
handed_told true k ws scratch = (refl, refl)
handed_told false k ws scratch = (refl, refl)

refused_told : (r : Refusal) (fine : Bool) (d : Done) → Told (number_of r) fine d (Err r)
refused_told r fine d = (rw (refused_ne0 r) refl, rw (refused_ne0 r) refl)

settled_told : (v : Verdict) (k : ℕ) (ws : List Window) (o : Outputs) (scratch : List Float) →
    Told (answer_number v) (whole k ws) (counts ws) (settled v k ws o scratch).answer
settled_told (Err r) k ws o scratch = refused_told r (whole k ws) (counts ws)
settled_told (Ok _) k ws o scratch = handed_told (whole k ws) k ws scratch

pub orbits_told : (g : Given) (o : Outputs) (scratch : List Float) →
    let n = answer_number (refusal g (lengths_fit g o (length scratch))) in
    let fine = whole (length g.nodes - 1) (fitted_windows g) in
    (answer_number (orbits_call g o scratch).answer ≡ cond (eqb n 0) (answer_number (first_failed ((fine, NotFinite) ∷ []))) n)
    × (answer_value (orbits_call g o scratch).answer ≡ cond (eqb n 0 && fine) (Some (counts (fitted_windows g))) None)
orbits_told g o scratch = settled_told (refusal g (lengths_fit g o (length scratch))) (length g.nodes - 1) (fitted_windows g) o scratch
