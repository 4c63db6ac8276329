-- The epochs that the code keeps, over the tables of all windows, are those of the submission. Assumes nothing.
use mathlib.Core.Path.{◌≡◌, ◌∙◌}
use Rattle.std.specs.Prelude.{Option, None}
use mathlib.Core.Bool.{cond, ◌&&◌}
use mathlib.Core.List.{List}
use Prim.Native.Nat.{◌≤◌}
use lib.ListN.{length}
use lib.Ieee.{Float}
use Rattle.inputs.specs.Inputs.{Fixed, Lists, model_in}
use Rattle.laws.specs.Lists.{All, all_map}
use Rattle.laws.specs.Times.{Time}
use Rattle.numbers.proofs.Seconds.{second_of_time}
use Rattle.finality.specs.Tables.{find}
use Rattle.finality.specs.Kernels.{stages_of}
use Rattle.finality.specs.Sheet.{Observation, Submission, Valid, field_in, fitted, where_found, epoch_from, epoch_of, kept, kept_of}
use Rattle.finality.proofs.Keeping.{kept_same}
use Rattle.integrate.specs.declared.kernel.State.{State}
use Rattle.epoch_record.specs.declared.Epoch.{Epoch}
use Rattle.windows.proofs.Meaning.{gravity_is}
use Rattle.epoch.specs.Epoch.{epoch_with}
use Rattle.epoch.specs.Kept.{record_at, seen_by, epoch_by}
use Rattle.sheet.specs.Stages.{epoch_under, epoch_stage, kernels}
use Rattle.sheet.specs.Submission.{submission_of}
use Rattle.sheet.proofs.Orbits.{ModelFits, field_is, covered_is}

-- ---- two functions that agree on the observations keep the same

keep_same : (f g : Observation → Option Epoch) (P : Observation → Type 0) (os : List Observation) → ((o : Observation) → P o → f o ≡ g o) → All P os →
    kept_of f os ≡ kept_of g os
keep_same f g P os h a = kept_same f g os (all_map P (λ (o : Observation). f o ≡ g o) os h a)

-- ---- one epoch

module _ (S : Fixed) (l : Lists) (few : 2 ≤ length l.fields.field_times) (fits : ModelFits S l) where
  abbrev sub : Submission (stages_of (kernels S))
  sub = submission_of S l

  record_is : (t v : Float) (c d : State) (p q : Float) →
      record_at (model_in S l) t v c d p q ≡ epoch_stage S t v (field_in (stages_of (kernels S)) sub t) c d p q
  unfolding record_at epoch_under
  record_is t v c d p q =
      (λ i. epoch_with (λ x. gravity_is (model_in S l) fits t x i) t v c.position c.velocity d.position d.velocity p q)
      ∙ (λ i. epoch_stage S t v (field_is S l few t i) c d p q)

  epoch_is : (o : Observation) → Time o.at →
      epoch_by (model_in S l) (fitted (stages_of (kernels S)) sub sub.states_c) (fitted (stages_of (kernels S)) sub sub.states_d)
      sub.acc_c sub.acc_d o ≡ epoch_of (stages_of (kernels S)) sub o
  unfolding epoch_by seen_by epoch_from
  epoch_is o h =
      let k = second_of_time o.at h in
      (λ i. cond (o.good && covered_is S l few o.at i)
      (where_found (λ c d p q. record_is o.at o.observed c d p q i) (find (k i) (fitted (stages_of (kernels S)) sub sub.states_c)) (find (k i) (fitted (stages_of (kernels S)) sub sub.states_d))
      (find (k i) sub.acc_c) (find (k i) sub.acc_d)) None)

  -- all of them
  pub kept_is : Valid (stages_of (kernels S)) sub →
      kept_of (epoch_by (model_in S l) (fitted (stages_of (kernels S)) sub sub.states_c) (fitted (stages_of (kernels S)) sub sub.states_d) sub.acc_c sub.acc_d) sub.obs
      ≡ kept (stages_of (kernels S)) sub
  kept_is v = keep_same _ _ (λ (o : Observation). Time o.at) sub.obs epoch_is v.obs_times
