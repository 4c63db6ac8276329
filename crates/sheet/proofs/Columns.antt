-- The columns that follow from times and raw residuals, and the ends of the lists that the horizon looks at, from the code's lists to the submission's. Assumes nothing.
use mathlib.Core.Path.{◌≡◌, refl, sym, ap, ◌∙◌}
use mathlib.Core.List.{List, [], ◌∷◌, map}
use lib.Ieee.{Float}
use lib.ListN.{length-map}
use Rattle.inputs.specs.Inputs.{Fixed, Lists}
use Rattle.laws.specs.Times.{end, second_time}
use Rattle.finality.specs.Tables.{key_of}
use Rattle.finality.specs.Stages.{time_of}
use Rattle.finality.specs.Sheet.{obs_time, kept, detrended, passed_values, ends_of as submission_ends}
use Rattle.finality.specs.Detrending.{Sample, detrend}
use Rattle.epoch_record.specs.declared.Epoch.{Epoch}
use Rattle.epoch_record.specs.EpochRecord.{time, residual}
use Rattle.detrend.specs.Revolutions.{revolved_of, removed_of}
use Rattle.detrend.proofs.SplitAtNodes.{samples_of, removed_split}
use Rattle.filter.specs.Filter.{band_pass}
use Rattle.horizon.specs.Horizon.{ends_of}
use Rattle.model.specs.Stages.{timed}
use Rattle.model.proofs.Stages.{timed_times}
use Rattle.integrate.specs.RowsBySecond.{states_in, values_in}
use Rattle.integrate.proofs.RowsBySecond.{states_keys, values_keys}
use Rattle.epoch.specs.Kept.{observations_in}
use Rattle.epoch.proofs.Kept.{observations_times}
use Rattle.sheet.specs.Submission.{stages, submission_of}

-- ---- the last entry of a list is that of its keys or times

end_map : {A B : Type 0} (moment : B → Float) (g : A → B) (xs : List A) → end moment (map g xs) ≡ end (λ (x : A). moment (g x)) xs
unfolding end
end_map moment g [] = refl
end_map moment g (x ∷ []) = refl
end_map moment g (x ∷ y ∷ xs) = end_map moment g (y ∷ xs)

end_is : {A B : Type 0} (moment : B → Float) (g : A → B) (xs : List A) (ys : List B) → map g xs ≡ ys → end moment ys ≡ end (λ (x : A). moment (g x)) xs
end_is moment g xs ys e = ap (end moment) (sym e) ∙ end_map moment g xs

-- ---- the columns of kept epochs

samples_are : (es : List Epoch) → samples_of (map time es) (map residual es) ≡ map (λ (e : Epoch). (time e, residual e)) es
samples_are [] = refl
samples_are (e ∷ es) = ap (λ (l : List Sample). (time e, residual e) ∷ l) (samples_are es)

module _ (S : Fixed) (l : Lists) where
  abbrev es : List Epoch
  es = kept (stages S) (submission_of S l)

  detrended_is : removed_of l.tracks.nodes (map time es) (map residual es) ≡ detrended (stages S) (submission_of S l)
  detrended_is =
      removed_split l.tracks.nodes (map time es) (map residual es) (length-map es time ∙ sym (length-map es residual))
      ∙ ap (detrend revolved_of l.tracks.nodes) (samples_are es)

  -- detrended, and then passed
  abbrev pub following : List Float → List Float → List (List Float)
  following ts rs = removed_of l.tracks.nodes ts rs ∷ band_pass ts (removed_of l.tracks.nodes ts rs) ∷ []

  pub following_are : following (map time es) (map residual es) ≡ detrended (stages S) (submission_of S l) ∷ passed_values (stages S) (submission_of S l) ∷ []
  following_are = ap (λ (d : List Float). d ∷ band_pass (map time es) d ∷ []) detrended_is

  -- ---- the ends

  pub ends_are : ends_of l.tracks.states.c.keys l.tracks.states.d.keys l.tracks.accs.c.keys l.tracks.accs.d.keys l.fields.field_times l.tracks.observed.obs_times ≡
      submission_ends (stages S) (submission_of S l)
  ends_are = λ i. record {
    states_c = end_is second_time key_of (states_in l.tracks.states.c) l.tracks.states.c.keys (states_keys l.tracks.states.c) i;
    states_d = end_is second_time key_of (states_in l.tracks.states.d) l.tracks.states.d.keys (states_keys l.tracks.states.d) i;
    acc_c = end_is second_time key_of (values_in l.tracks.accs.c) l.tracks.accs.c.keys (values_keys l.tracks.accs.c) i;
    acc_d = end_is second_time key_of (values_in l.tracks.accs.d) l.tracks.accs.d.keys (values_keys l.tracks.accs.d) i;
    fields = end_is (λ (t : Float). t) time_of (timed S.degree l.fields.field_times l.fields.added) l.fields.field_times
        (timed_times S.degree l.fields.field_times l.fields.added) i;
    obs = end_is (λ (t : Float). t) obs_time (observations_in l.tracks.observed) l.tracks.observed.obs_times (observations_times l.tracks.observed) i;
  }
