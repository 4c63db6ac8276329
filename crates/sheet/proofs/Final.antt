-- Demand 3 with the modules' own work: two submissions with one degree, one static field and one pair of Legendre tables pass the tests, and each list of the second begins
-- with the whole of the first's. The submissions are valid (`valid`) and the second grows out of the first (`grows`), so the theorem of crate `finality` holds of them (`final_entries_law`);
-- F is the number of kept epochs in runs that end more than 3.0 s before the horizon (`counted`; none without a horizon, `none_counted`). Assumes nothing.
use mathlib.Core.Path.{◌≡◌, sym, ◌∙◌, subst}
use Rattle.std.specs.Prelude.{None, Some}
use mathlib.Core.List.{List}
use Prim.Native.Nat.{ℕ, ◌*◌, ◌≤◌}
use native.Mathlib.Omega.{arith}
use lib.Dec.{T}
use lib.IntN.{ℤ}
use lib.ListN.{length, drop}
use lib.Ieee.{Float}
use Rattle.inputs.specs.Inputs.{field_size, Fixed, Lists}
use Rattle.std.specs.List.{list_all}
use Rattle.laws.specs.Checks.{is_time, rising, rising_seconds}
use Rattle.laws.specs.Runs.{runs_of}
use Rattle.finality.proofs.Begins.{glue}
use Rattle.finality.specs.Sheet.{Submission, Valid, Grows, Begins, times, horizon, kept, final, count_runs}
use Rattle.finality.proofs.Accepted.{valid_of}
use Rattle.finality.proofs.Assembled.{lawful, kernels_final}
use Rattle.finality.proofs.Finality.{Final, final_kept, final_is, no_horizon}
use Rattle.model.specs.Stages.{timed}
use Rattle.model.proofs.Stages.{timed_length, timed_times, timed_append}
use Rattle.integrate.proofs.RowsBySecond.{states_keys, values_keys}
use Rattle.epoch.proofs.Kept.{observations_times}
use Rattle.sheet.specs.Stages.{kernels}
use Rattle.sheet.specs.Submission.{stages, submission_of, Passed, ListsGrow}
use Rattle.sheet.proofs.Grown.{begins_of, states_begin, values_begin, observed_begin}
use Rattle.sheet.proofs.Lawful.{lawful_kernels}

-- a test of a list, of the list that stands for it
carried : {A : Type 0} (P : List A → Type 0) (xs ys : List A) → ys ≡ xs → P xs → P ys
carried P xs ys e h = subst P (sym e) h

pub valid : (S : Fixed) (l : Lists) → Passed S l → Valid (stages S) (submission_of S l)
valid S l p =
    let N = S.degree in
    let ft = timed_times N l.fields.field_times l.fields.added in
    let ot = observations_times l.tracks.observed in
    valid_of (stages S) (submission_of S l)
    (let n = timed_length N l.fields.field_times l.fields.added in let f = p.fields in omega arith)
    (carried (λ (ts : List Float). T (list_all is_time ts)) l.fields.field_times _ ft p.field_times.0)
    (carried (λ (ts : List Float). T (rising ts)) l.fields.field_times _ ft p.field_times.1)
    (carried (λ (ks : List ℤ). T (rising_seconds ks)) l.tracks.states.c.keys _ (states_keys l.tracks.states.c) p.keys_c_rise)
    (carried (λ (ks : List ℤ). T (rising_seconds ks)) l.tracks.states.d.keys _ (states_keys l.tracks.states.d) p.keys_d_rise)
    (carried (λ (ks : List ℤ). T (rising_seconds ks)) l.tracks.accs.c.keys _ (values_keys l.tracks.accs.c) p.acc_keys_c_rise)
    (carried (λ (ks : List ℤ). T (rising_seconds ks)) l.tracks.accs.d.keys _ (values_keys l.tracks.accs.d) p.acc_keys_d_rise)
    p.node_times.0
    p.node_times.1
    (carried (λ (ts : List Float). T (list_all is_time ts)) l.tracks.observed.obs_times _ ot p.observed_times.0)
    (carried (λ (ts : List Float). T (rising ts)) l.tracks.observed.obs_times _ ot p.observed_times.1)

fields_begin : (N : ℕ) (ts ts' fs fs' : List Float) → length fs ≡ length ts * field_size N → Begins ts ts' → Begins fs fs' → Begins (timed N ts fs) (timed N ts' fs')
fields_begin N ts ts' fs fs' h a b =
    begins_of (timed N ts fs) (timed N (drop (length ts) ts') (drop (length fs) fs')) (timed N ts' fs')
    ((λ i. timed N (sym (glue ts ts' a) i) (sym (glue fs fs' b) i)) ∙ timed_append N ts (drop (length ts) ts') fs (drop (length fs) fs') h)

pub grows : (S : Fixed) (l l' : Lists) → Passed S l → ListsGrow l l' → Grows (stages S) (submission_of S l) (submission_of S l')
grows S l l' p g = record {
  fields = fields_begin S.degree l.fields.field_times l'.fields.field_times l.fields.added l'.fields.added p.added g.field_times g.added;
  states_c = states_begin l.tracks.states.c l'.tracks.states.c g.keys_c g.states_c p.states_c;
  states_d = states_begin l.tracks.states.d l'.tracks.states.d g.keys_d g.states_d p.states_d;
  acc_c = values_begin l.tracks.accs.c l'.tracks.accs.c g.acc_keys_c g.acc_c p.acc_c;
  acc_d = values_begin l.tracks.accs.d l'.tracks.accs.d g.acc_keys_d g.acc_d p.acc_d;
  nodes = g.nodes;
  obs = observed_begin l.tracks.observed l'.tracks.observed p.values p.good g.times g.values g.good;
}

-- sentences 1 and 2
pub final_entries_law : (S : Fixed) (l l' : Lists) → Passed S l → Passed S l' → ListsGrow l l' → Final (stages S) (submission_of S l) (submission_of S l')
final_entries_law S l l' p p' g = kernels_final (kernels S) (lawful_kernels S) (submission_of S l) (submission_of S l') (valid S l p) (valid S l' p') (grows S l l' p g)

-- sentence 3
module _ (S : Fixed) (l : Lists) where
  abbrev s : Submission (stages S)
  s = submission_of S l

  pub counted : (z : Float) → horizon (stages S) s ≡ Some z → final (stages S) s ≡ count_runs z (runs_of (times (stages S) s)) (times (stages S) s)
  counted = final_is (stages S) (lawful (kernels S) (lawful_kernels S)) s

  pub none_counted : horizon (stages S) s ≡ None → final (stages S) s ≡ 0
  none_counted = no_horizon (stages S) (lawful (kernels S) (lawful_kernels S)) s

  pub within_kept : final (stages S) s ≤ length (kept (stages S) s)
  within_kept = final_kept (stages S) (lawful (kernels S) (lawful_kernels S)) s
