-- What the call answers and leaves, in the cases of its code. Assumes nothing.
use mathlib.Core.Path.{◌≡◌, refl, sym, ap, ◌∙◌, subst}
use mathlib.Core.Bool.{Bool, true, false}
use mathlib.Core.List.{List, [], ◌∷◌, map}
use Prim.Native.Nat.{ℕ, ◌-◌, ◌≤◌}
use native.Mathlib.Omega.{arith}
use lib.Ieee.{Float}
use lib.Ieee.Scale.{finite}
use lib.ListN.{length, take, replicate, length-map, length-append}
use lib.Seq.{take_at}
use Rattle.inputs.specs.Inputs.{Fixed, Lists}
use Rattle.laws.specs.Floats.{bits}
use Rattle.laws.specs.Lists.{All}
use Rattle.std.specs.List.{list_all}
use Rattle.laws.specs.Loops.{cleared, same_cleared}
use Rattle.std.specs.Prelude.{Ok, Err}
use Rattle.slices.specs.declared.refusal.Refusal.{Refusal}
use Rattle.slices.specs.declared.refusal.Refusal.TheVariants.{NotFinite}
use Rattle.slices.specs.Calls.{Verdict, accepted, left, handed}
use Rattle.slices.proofs.Calls.{call_refused, call_handed}
use Rattle.finality.specs.Sheet.{horizon_of, count_to, kept, times}
use Rattle.finality.proofs.Assembled.{lawful}
use Rattle.finality.proofs.Finality.{sheet_length}
use Rattle.horizon.specs.Horizon.{ends_of}
use Rattle.epoch_record.specs.EpochRecord.{time}
use Rattle.epoch.proofs.Kept.{observations_length}
use Rattle.sheet.specs.Stages.{kernels}
use Rattle.sheet.specs.Submission.{stages, submission_of}
use Rattle.sheet.specs.Calls.{places_fit, refusal_of, sheet_refusal, columns_of, kept_count, final_count, Worked, sheet_call}
use Rattle.sheet.specs.declared.Counts.{Counts}
use Rattle.sheet.proofs.Lawful.{lawful_kernels}
use Rattle.sheet.proofs.Accepted.{accepts, outputs_long}
use Rattle.sheet.proofs.Columns.{ends_are}

-- ---- columns of one length, any number of them

cleared_alike : (m : ℕ) (xs ys : List (List Float)) → length xs ≡ length ys → All (λ (x : List Float). length x ≡ m) xs → All (λ (y : List Float). length y ≡ m) ys →
    map cleared xs ≡ map cleared ys
cleared_alike m [] [] e a b = refl
cleared_alike m [] (y ∷ ys) e a b = absurd (omega arith)
cleared_alike m (x ∷ xs) [] e a b = absurd (omega arith)
cleared_alike m (x ∷ xs) (y ∷ ys) e a b = λ i. same_cleared x y (a.0 ∙ sym b.0) i ∷ cleared_alike m xs ys (omega arith) a.1 b.1 i

columns_long : (S : Fixed) (l : Lists) → All (λ (c : List Float). length c ≡ length l.tracks.observed.obs_times) (columns_of S l)
unfolding columns_of
columns_long S l =
    subst (λ (m : ℕ). All (λ (c : List Float). length c ≡ m) (columns_of S l)) (observations_length l.tracks.observed)
    (sheet_length (stages S) (lawful (kernels S) (lawful_kernels S)) (submission_of S l))

abbrev first_column : List (List Float) → List Float
first_column [] = []
first_column (c ∷ cs) = c

-- ---- F as the code finds it: of the first column's first k times
abbrev found_final : Lists → ℕ → List (List Float) → ℕ
found_final l k columns =
    count_to (horizon_of (ends_of l.tracks.states.c.keys l.tracks.states.d.keys l.tracks.accs.c.keys l.tracks.accs.d.keys l.fields.field_times l.tracks.observed.obs_times)
    l.tracks.nodes) (take (k - 0) (first_column columns))

module _ (S : Fixed) (l : Lists) (outputs : List (List Float)) (s : List Float) (v : Verdict) (fit : Bool) (ef : fit ≡ places_fit l outputs) (ev : v ≡ refusal_of S l fit (length s)) where
  verdict_is : sheet_refusal S l outputs (length s) ≡ v
  verdict_is = ap (λ (b : Bool). refusal_of S l b (length s)) (sym ef) ∙ sym ev

  abbrev counts : Counts
  counts = record { kept = kept_count S l; finals = final_count S l }

  pub refused : (e : Refusal) → v ≡ Err e → left (Err e) outputs s ≡ sheet_call S l outputs s
  refused e h = call_refused (columns_of S l) outputs s (sheet_refusal S l outputs (length s)) (Ok counts) e (verdict_is ∙ h)

  module _ (h : v ≡ accepted) where
    pub passes : sheet_refusal S l outputs (length s) ≡ accepted
    passes = verdict_is ∙ h

    module _ (k : ℕ) (columns : List (List Float)) (s' z : List Float) (w : Worked S l k columns s s') (ez : z ≡ cleared s') (b : Bool) (eb : b ≡ list_all (list_all finite) columns) where
      handed_is : handed counts b (columns_of S l) outputs s ≡ sheet_call S l outputs s
      handed_is = call_handed (columns_of S l) outputs s (sheet_refusal S l outputs (length s)) (Ok counts) counts b passes refl (eb ∙ ap (list_all (list_all finite)) w.columns_are)

      scratch_is : z ≡ cleared s
      scratch_is = ez ∙ same_cleared s' s w.long

      -- the first of the kept times
      kept_times_law : take k (first_column columns) ≡ times (stages S) (submission_of S l)
      unfolding columns_of kept_count
      kept_times_law =
          let ts : List Float = times (stages S) (submission_of S l) in
          let m : ℕ = length (submission_of S l).obs in
          (λ i. take ((w.count ∙ sym (length-map (kept (stages S) (submission_of S l)) time)) i) (ap first_column w.columns_are i))
          ∙ take_at ts (replicate (m - length ts) (bits 0)) (length ts) refl

      final_is : (f : ℕ) → f ≡ found_final l k columns → f ≡ final_count S l
      unfolding final_count
      final_is f e =
          let same : k - 0 ≡ k = omega arith in
          e ∙ (λ i. count_to (horizon_of (ends_are S l i) l.tracks.nodes) ((ap (λ (n : ℕ). take n (first_column columns)) same ∙ kept_times_law) i))

      pub answered : (f : ℕ) → b ≡ true → f ≡ found_final l k columns → left (Ok (record { kept = k; finals = f })) columns z ≡ sheet_call S l outputs s
      answered f e ef =
          (λ i. left (Ok (record { kept = w.count i; finals = final_is f ef i })) (w.columns_are i) (scratch_is i))
          ∙ ap (λ (c : Bool). handed counts c (columns_of S l) outputs s) (sym e) ∙ handed_is

      -- as many columns as outputs, all of one length
      all_cleared : length columns ≡ length outputs → map cleared columns ≡ map cleared outputs
      all_cleared e =
          cleared_alike (length l.tracks.observed.obs_times) columns outputs e
          (subst (λ (cs : List (List Float)). All (λ (c : List Float). length c ≡ length l.tracks.observed.obs_times) cs) (sym w.columns_are) (columns_long S l))
          (outputs_long S l outputs (length s) (accepts S l outputs (length s) passes))

      pub unfit : (cs : List (List Float)) → b ≡ false → cs ≡ map cleared columns → length columns ≡ length outputs → left (Err NotFinite) cs z ≡ sheet_call S l outputs s
      unfit cs e ec ln =
          (λ i. left (Err NotFinite) ((ec ∙ all_cleared ln) i) (scratch_is i))
          ∙ ap (λ (c : Bool). handed counts c (columns_of S l) outputs s) (sym e) ∙ handed_is

-- there are so many places
pub kept_within : (S : Fixed) (l : Lists) (k : ℕ) (columns : List (List Float)) (s s' : List Float) → Worked S l k columns s s' → k ≤ length (first_column columns)
unfolding columns_of kept_count
kept_within S l k columns s s' w =
    let ts : List Float = times (stages S) (submission_of S l) in
    let m : ℕ = length (submission_of S l).obs in
    omega (
      arith,
      w.count,
      length-map (kept (stages S) (submission_of S l)) time,
      ap (λ (c : List (List Float)). length (first_column c)) w.columns_are,
      length-append ts (replicate (m - length ts) (bits 0)),
    )
