-- What `residuals` answers and leaves, in the cases of its code. Assumes nothing.
use mathlib.Core.Path.{◌≡◌, refl, sym, ap, ◌∙◌}
use mathlib.Core.Bool.{Bool, true, false, ◌&&◌}
use mathlib.Core.List.{List}
use Prim.Native.Nat.{ℕ}
use lib.Dec.{leb, eqb}
use lib.Ieee.{Float}
use lib.Ieee.Scale.{finite}
use lib.ListN.{length}
use borrow.Author.Tests.{eqb-true}
use Rattle.std.specs.List.{list_all}
use Rattle.laws.specs.Checks.{is_time, rising, degree_fine}
use Rattle.laws.specs.Bools.{both_true}
use Rattle.inputs.specs.Inputs.{scratch_fits, Observed, Inputs, inputs_counted, inputs_fit, inputs_fine, inputs_rise}
use Rattle.inputs.proofs.Passed.{AllPass, all_pass}
use Rattle.slices.specs.Calls.{Verdict, accepted}
use Rattle.slices.specs.declared.refusal.Refusal.{Refusal}
use Rattle.slices.specs.declared.refusal.Refusal.TheVariants.{NotFinite}
use Rattle.std.specs.Prelude.{Ok, Err, Some, None}
use Rattle.laws.specs.Loops.{cleared, same_cleared}
use Rattle.residuals.specs.Work.{Ready}
use Rattle.residuals.specs.Calls.{EpochColumns, samples_fit, outputs_fit, residuals_refusal, columns_left, handed_out, settled_columns, kept_in, residuals_call, epoch_finite}
use Rattle.residuals.specs.Filling.{blank, Long, Done}
use Rattle.residuals.proofs.Answers.{ready}
use Rattle.residuals.proofs.Turns.{blank_is, counted_some, counted_none}

record Samples (obs : Observed) (l : EpochColumns) : Type 0 where
  pub values : length obs.values ≡ length obs.obs_times
  pub good : length obs.good ≡ length obs.obs_times
  pub long : Long (length obs.obs_times) l

samples_pass : (obs : Observed) (l : EpochColumns) → outputs_fit obs l ≡ true → Samples obs l
unfolding samples_fit
samples_pass obs l h =
    let m : ℕ = length obs.obs_times in
    let own = both_true (eqb (length obs.values) m && eqb (length obs.good) m) _ h in
    let given = both_true (eqb (length obs.values) m) (eqb (length obs.good) m) own.0 in
    let outs = both_true (eqb (length l.times) m && eqb (length l.residuals) m) (eqb (length l.terms) m && (eqb (length l.mids) m && eqb (length l.vels) m)) own.1 in
    let flat = both_true (eqb (length l.times) m) (eqb (length l.residuals) m) outs.0 in
    let arrays = both_true (eqb (length l.terms) m) (eqb (length l.mids) m && eqb (length l.vels) m) outs.1 in
    let vectors = both_true (eqb (length l.mids) m) (eqb (length l.vels) m) arrays.1 in
    record {
      values = eqb-true (length obs.values) m given.0;
      good = eqb-true (length obs.good) m given.1;
      long = record {
        times = eqb-true (length l.times) m flat.0;
        residuals = eqb-true (length l.residuals) m flat.1;
        terms = eqb-true (length l.terms) m arrays.0;
        mids = eqb-true (length l.mids) m vectors.0;
        vels = eqb-true (length l.vels) m vectors.1;
      };
    }

module _ (inp : Inputs) (obs : Observed) (l : EpochColumns) (samples : Bool) (scratch : ℕ) (b : samples ≡ outputs_fit obs l) (z : residuals_refusal inp obs samples scratch ≡ accepted) where
  passed : AllPass (degree_fine inp.model.fixed.degree) (inputs_counted inp && leb (length obs.obs_times) 100000)
      ((inputs_fit inp && scratch_fits inp.model.fixed.degree (length inp.model.fields.field_times) (length obs.obs_times) scratch) && samples)
      (inputs_fine inp && (list_all is_time obs.obs_times && list_all finite obs.values)) (inputs_rise inp && rising obs.obs_times) accepted
  unfolding residuals_refusal
  passed = all_pass (degree_fine inp.model.fixed.degree) (inputs_counted inp && leb (length obs.obs_times) 100000)
      ((inputs_fit inp && scratch_fits inp.model.fixed.degree (length inp.model.fields.field_times) (length obs.obs_times) scratch) && samples)
      (inputs_fine inp && (list_all is_time obs.obs_times && list_all finite obs.values)) (inputs_rise inp && rising obs.obs_times) accepted z

  fits : Samples obs l
  fits = samples_pass obs l (sym b ∙ (both_true (inputs_fit inp && scratch_fits inp.model.fixed.degree (length inp.model.fields.field_times) (length obs.obs_times) scratch) samples
      passed.lengths).1)

  pub residuals_ready : Ready inp scratch × (length obs.values ≡ length obs.obs_times) × (length obs.good ≡ length obs.obs_times) × Long (length obs.obs_times) l
  residuals_ready = (
    ready inp (length obs.obs_times) scratch (inputs_fine inp && (list_all is_time obs.obs_times && list_all finite obs.values))
        (record {
          degree = passed.degree;
          counts = (both_true (inputs_counted inp) (leb (length obs.obs_times) 100000) passed.counts).0;
          lengths = (both_true (inputs_fit inp && scratch_fits inp.model.fixed.degree (length inp.model.fields.field_times) (length obs.obs_times) scratch) samples passed.lengths).0;
          values = passed.values;
          order = (both_true (inputs_rise inp) (rising obs.obs_times) passed.order).0;
          rest = refl;
        }),
    fits.values,
    fits.good,
    fits.long,
  )

module _ (inp : Inputs) (obs : Observed) (l : EpochColumns) (s : List Float) (samples : Bool) (b : samples ≡ outputs_fit obs l) where
  settles : (v : Verdict) → residuals_refusal inp obs samples (length s) ≡ v → settled_columns v (length obs.obs_times) (kept_in inp obs) l s ≡ residuals_call inp obs l s
  settles v e = ap (λ (v : Verdict). settled_columns v (length obs.obs_times) (kept_in inp obs) l s) (sym e ∙ ap (λ (x : Bool). residuals_refusal inp obs x (length s)) b)

  pub residuals_refused : (e : Refusal) → residuals_refusal inp obs samples (length s) ≡ Err e → columns_left (Err e) l s ≡ residuals_call inp obs l s
  residuals_refused e z = settles (Err e) z

  module _ (z : residuals_refusal inp obs samples (length s) ≡ accepted) where
    handed : (x : Bool) → list_all epoch_finite (kept_in inp obs) ≡ x → handed_out x (length obs.obs_times) (kept_in inp obs) s ≡ residuals_call inp obs l s
    handed x f = ap (λ (y : Bool). handed_out y (length obs.obs_times) (kept_in inp obs) s) (sym f) ∙ settles accepted z

    pub residuals_handed : (k : ℕ) (l' : EpochColumns) (s' w : List Float) → Done inp obs (Some k) l' → s' ≡ cleared w → length w ≡ length s →
        columns_left (Ok k) l' s' ≡ residuals_call inp obs l s
    residuals_handed k l' s' w d g h =
        let is = counted_some k (kept_in inp obs) d.count in
        (λ i. columns_left (Ok (is.0 i)) (d.outputs is.1 i) ((g ∙ same_cleared w s h) i)) ∙ handed true is.1

    pub residuals_unfit : (l' l'' : EpochColumns) (s' w : List Float) → Done inp obs None l' → s' ≡ cleared w → length w ≡ length s → Long (length obs.obs_times) l' → l'' ≡ blank l' →
        columns_left (Err NotFinite) l'' s' ≡ residuals_call inp obs l s
    residuals_unfit l' l'' s' w d g h long c =
        (λ i. columns_left (Err NotFinite) ((c ∙ blank_is (length obs.obs_times) l' long) i) ((g ∙ same_cleared w s h) i))
        ∙ handed false (counted_none (kept_in inp obs) d.count)
