-- A list for an answer's values that has not its places is refused in its order: what the code finds from 1 and 2 alone is what the call's own chain of
-- tests gives where an output does not fit. Assumes nothing.
use Rattle.std.specs.Prelude.{◌≡◌, ℕ, ◌+◌, ◌*◌, Bool, true, false, ◌&&◌, leb, length}
use Rattle.std.proofs.Common.{ap, ◌∙◌, arith}
use Rattle.std.proofs.lemmas.Bool.{ne_eqb}
use mathlib.Core.Bool.{and-false}
use Rattle.laws.specs.Checks.{degree_fine}
use Rattle.slices.specs.Calls.{Verdict, accepted}
use Rattle.inputs.specs.Inputs.{Model, Keyed, Inputs, Observed, Fixed, Lists, first_of, fields_fine, few, inputs_in, inputs_counted}
use Rattle.integrate.specs.Calls.{out_fits}
use Rattle.integrate.specs.declared.kernel.Arc.{Arc}
use Rattle.fit.specs.Calls.{refusal as fit_refusal}
use Rattle.residuals.specs.Calls.{residuals_refusal}
use Rattle.sheet.specs.Calls.{lists_counted, lists_fit, refusal_of as sheet_refusal}

-- an out without a place fits no arc
no_states : (steps : ℕ) → out_fits steps 0 ≡ false
unfolding out_fits
no_states steps = ap (λ (b : Bool). leb steps 5302 && b) (ne_eqb 0 (6 * (steps + 1)) (λ h. omega arith)) ∙ and-false (leb steps 5302)

pub fit_misplaced : (M : Model) (states : Keyed) (arc : Arc) (room : ℕ) (v : Verdict) →
    v ≡ first_of (degree_fine M.fixed.degree) ((fields_fine (length M.fields.field_times) && leb arc.steps 5302) && few (length states.keys)) false true true accepted
    → v ≡ fit_refusal M states arc 0 room
unfolding fit_refusal
fit_misplaced M states arc room v e = simp (no_states, and-false) e

pub residuals_misplaced : (inp : Inputs) (obs : Observed) (room : ℕ) (v : Verdict) →
    v ≡ first_of (degree_fine inp.model.fixed.degree) (inputs_counted inp && leb (length obs.obs_times) 100000) false true true accepted → v ≡ residuals_refusal inp obs false room
unfolding residuals_refusal
residuals_misplaced inp obs room v e = simp and-false e

pub sheet_misplaced : (F : Fixed) (l : Lists) (room : ℕ) (v : Verdict) →
    v ≡ first_of (degree_fine F.degree) (inputs_counted (inputs_in F l) && (leb (length l.tracks.nodes) 64 && leb (length l.tracks.observed.obs_times) 100000)) false true true accepted
    → v ≡ sheet_refusal F l false room
unfolding sheet_refusal lists_counted lists_fit
sheet_misplaced F l room v e = simp and-false e
