-- What each export returns and leaves behind, from what its call answers and leaves. Assumes nothing.
use Rattle.std.specs.Prelude.{◌≡◌, ℕ, true, false, cond, ◌&&◌, List, [], ◌∷◌, leb, eqb, length, Float, Option, Result}
use Rattle.std.proofs.Common.{ap, ◌∙◌}
use Rattle.std.proofs.lemmas.Bool.{eq-eqb, ne_eqb}
use Rattle.laws.specs.Checks.{degree_fine}
use Rattle.laws.specs.Floats.{zero64}
use Rattle.slices.specs.Answers.{answer_number}
use Rattle.slices.specs.Calls.{Verdict, accepted}
use Rattle.slices.specs.declared.refusal.Refusal.{Refusal}
use Rattle.inputs.specs.Inputs.{Model, Keyed, Inputs, Observed, Fixed, Lists, first_of, fields_fine, few, inputs_in, inputs_counted}
use Rattle.integrate.specs.declared.kernel.Arc.{Arc}
use Rattle.residuals.specs.Calls.{EpochColumns}
use Rattle.horizon.specs.Calls.{Given, horizon_call, final_count_call, refusal_of as horizon_refusal}
use Rattle.exports.specs.Answers.{one, time, told_in}
use Rattle.exports.specs.Calls.{told, told_alone, fit_told, residuals_told, sheet_told, horizon_told, final_count_told}
use Rattle.exports.proofs.Misplaced.{fit_misplaced, residuals_misplaced, sheet_misplaced}

-- ---- a list for the values that has its k places, and one that has not

placed : {A : Type 0} (n k : ℕ) (x y z : A) → n ≡ k → x ≡ y → x ≡ cond (eqb n k) y z
placed n k x y z h e = simp (eq-eqb n k h) e

misplaced : {A : Type 0} (n k : ℕ) (x y z : A) → (n ≡ k → ⊥) → x ≡ z → x ≡ cond (eqb n k) y z
misplaced n k x y z h e = simp (ne_eqb n k h) e

-- ---- fits

pub fit_unplaced : (M : Model) (states : Keyed) (arc : Arc) (out rms s : List Float) (v : Verdict) (n : ℕ) → (length rms ≡ 1 → ⊥) →
    v ≡ first_of (degree_fine M.fixed.degree) ((fields_fine (length M.fields.field_times) && leb arc.steps 5302) && few (length states.keys)) false true true accepted
    → n ≡ answer_number v → told n rms (out ∷ []) s ≡ fit_told M states arc out rms s
unfolding fit_told
fit_unplaced M states arc out rms s v n k e d =
    misplaced (length rms) 1 _ _ _ k (λ i. told ((d ∙ ap answer_number (fit_misplaced M states arc (length s) v e)) i) rms (out ∷ []) s)

-- ---- residuals

pub residuals_unplaced : (inp : Inputs) (obs : Observed) (outs : EpochColumns) (cs : List ℕ) (s : List Float) (v : Verdict) (n : ℕ) → (length cs ≡ 1 → ⊥) →
    v ≡ first_of (degree_fine inp.model.fixed.degree) (inputs_counted inp && leb (length obs.obs_times) 100000) false true true accepted → n ≡ answer_number v
    → told n cs outs s ≡ residuals_told inp obs outs cs s
unfolding residuals_told
residuals_unplaced inp obs outs cs s v n k e d =
    misplaced (length cs) 1 _ _ _ k (λ i. told ((d ∙ ap answer_number (residuals_misplaced inp obs (length s) v e)) i) cs outs s)

-- ---- the whole path

pub sheet_unplaced : (F : Fixed) (l : Lists) (outs : List (List Float)) (cs : List ℕ) (s : List Float) (v : Verdict) (n : ℕ) → (length cs ≡ 2 → ⊥) →
    v ≡ first_of (degree_fine F.degree) (inputs_counted (inputs_in F l) && (leb (length l.tracks.nodes) 64 && leb (length l.tracks.observed.obs_times) 100000)) false true true accepted
    → n ≡ answer_number v → told n cs outs s ≡ sheet_told F l outs cs s
unfolding sheet_told
sheet_unplaced F l outs cs s v n k e d =
    misplaced (length cs) 2 _ _ _ k (λ i. told ((d ∙ ap answer_number (sheet_misplaced F l (length s) v e)) i) cs outs s)

-- ---- the horizon: h is what was lent, as the struct of the call has it

module _ (g h : Given) (same : h ≡ g) where
  pub horizon_unplaced : (out : List Float) (v : Verdict) (n : ℕ) → (length out ≡ 1 → ⊥) → v ≡ horizon_refusal false h [] → n ≡ answer_number v
      → told_alone n out ≡ horizon_told g out
  unfolding horizon_told
  horizon_unplaced out v n k e d =
      misplaced (length out) 1 _ _ _ k
      (λ i. told_alone ((d ∙ ap answer_number (e ∙ ap (λ (x : Given). horizon_refusal false x []) same)) i) out)

  pub horizon_placed : (out₀ out : List Float) (a : Result (Option Float) Refusal) (n : ℕ) → length out₀ ≡ 1 → a ≡ horizon_call h → n ≡ answer_number a
      → out ≡ told_in zero64 time a out₀ → told_alone n out ≡ horizon_told g out₀
  unfolding horizon_told
  horizon_placed out₀ out a n k e d f =
      let known : a ≡ horizon_call g = e ∙ ap horizon_call same in
      placed (length out₀) 1 _ _ _ k
      (λ i. told_alone ((d ∙ ap answer_number known) i) ((f ∙ ap (λ (x : Result (Option Float) Refusal). told_in zero64 time x out₀) known) i))

  pub final_unplaced : (kept : List Float) (cs : List ℕ) (v : Verdict) (n : ℕ) → (length cs ≡ 1 → ⊥) → v ≡ horizon_refusal false h kept → n ≡ answer_number v
      → told_alone n cs ≡ final_count_told g kept cs
  unfolding final_count_told
  final_unplaced kept cs v n k e d =
      misplaced (length cs) 1 _ _ _ k
      (λ i. told_alone ((d ∙ ap answer_number (e ∙ ap (λ (x : Given). horizon_refusal false x kept) same)) i) cs)

  pub final_placed : (kept : List Float) (cs₀ cs : List ℕ) (a : Result ℕ Refusal) (n : ℕ) → length cs₀ ≡ 1 → a ≡ final_count_call h kept → n ≡ answer_number a
      → cs ≡ told_in 0 one a cs₀ → told_alone n cs ≡ final_count_told g kept cs₀
  unfolding final_count_told
  final_placed kept cs₀ cs a n k e d f =
      let known : a ≡ final_count_call g kept = e ∙ ap (λ (x : Given). final_count_call x kept) same in
      placed (length cs₀) 1 _ _ _ k
      (λ i. told_alone ((d ∙ ap answer_number known) i) ((f ∙ ap (λ (x : Result ℕ Refusal). told_in 0 one x cs₀) known) i))
