-- What the parts of the work leave, fits, kept epochs and columns, is what the call publishes. Assumes nothing.
use mathlib.Core.Path.{◌≡◌, refl, sym, ap, ◌∙◌, subst}
use mathlib.Core.Bool.{Bool, true, ◌&&◌}
use mathlib.Core.List.{List, [], ◌∷◌, map}
use Prim.Native.Nat.{ℕ, ◌+◌, ◌-◌, ◌*◌, ◌/◌, ◌≤◌, ◌<◌}
use native.Mathlib.Omega.{arith}
use lib.Dec.{eqb}
use lib.IntN.{ℤ}
use lib.ListN.{length, take, get_or, length-map}
use lib.Ieee.{Float, nan, lt}
use borrow.Author.Tests.{le-leb, eq-eqb}
use Rattle.inputs.specs.Inputs.{window_room, front_size, Keyed, Fixed, Lists, model_in}
use Rattle.laws.specs.Floats.{zero64}
use Rattle.laws.specs.Lists.{All}
use Rattle.std.specs.List.{list_all}
use Rattle.laws.specs.Loops.{filled_length, filled_front}
use Rattle.finality.specs.Tables.{Table, find}
use Rattle.slices.specs.Calls.{accepted}
use Rattle.finality.specs.Sheet.{Submission, published, covered_in, field_in, fitted, epoch_of, kept, kept_of}
use Rattle.finality.proofs.Keeping.{kept_length}
use Rattle.epoch_record.specs.EpochRecord.{time, residual}
use Rattle.epoch_record.specs.declared.Epoch.{Epoch}
use Rattle.integrate.specs.declared.kernel.State.{State}
use Rattle.integrate.specs.RowsBySecond.{states_in}
use Rattle.epoch.specs.Kept.{epoch_by}
use Rattle.epoch.proofs.Kept.{observations_length}
use Rattle.windows.specs.Slots.{Slot}
use Rattle.windows.specs.Windows.{slot_at, states_left, windows_serve, Ends}
use Rattle.windows.proofs.Filling.{served}
use Rattle.slots.specs.LookUp.{joined, SlotsHold, BothFit}
use Rattle.kept_epochs.specs.KeptEpochs.{Given, given, kept_in, gather_serves, Listed, Counted}
use Rattle.columns.specs.Columns.{columns_serve, ColumnsFilled}
use Rattle.sheet.specs.Submission.{stages, submission_of}
use Rattle.sheet.specs.Calls.{sheet_refusal, columns_of, kept_count, Worked}
use Rattle.sheet.proofs.Orbits.{fitted_window, window_at, windows_joined, window_orderly}
use Rattle.sheet.proofs.Accepted.{Accepts, accepts, passed, outputs_long, model_fits_law, windows_serve_law}
use Rattle.sheet.proofs.Columns.{following, following_are}
use Rattle.sheet.proofs.Kept.{kept_is}
use Rattle.sheet.proofs.Final.{valid}

-- ---- the fits of one satellite in their slots

module _ (S : Fixed) (l : Lists) (outputs : List (List Float)) (room : ℕ) (h : Accepts S l outputs room) where
  abbrev sub : Submission (stages S)
  sub = submission_of S l

  abbrev base : ℕ
  base = front_size S.degree

  -- neighbouring nodes
  node_ends : (w : ℕ) → w < length l.tracks.nodes - 1 → Ends (get_or l.tracks.nodes w nan) (get_or l.tracks.nodes (w + 1) nan)
  node_ends w k =
      (served S.degree l.tracks.states.c.keys (length l.tracks.states.c.values) l.tracks.nodes 0 room
      (windows_serve_law S l outputs room h l.tracks.states.c.keys l.tracks.states.c.values 0 (omega arith) h.states_c h.rise.states_c)).ends w
      (omega arith)

  abbrev tables : Keyed → ℕ → Table State
  tables states = window_at S (covered_in (stages S) sub) (field_in (stages S) sub) (λ (k : ℤ). find k (states_in states)) l.tracks.nodes

  pub tables_joined : (states : Keyed) → joined (tables states) (length l.tracks.nodes - 1) ≡ fitted (stages S) sub (states_in states)
  tables_joined states = windows_joined S (covered_in (stages S) sub) (field_in (stages S) sub) (λ (k : ℤ). find k (states_in states)) l.tracks.nodes

  pub slots_hold : (states : Keyed) (satellite : ℕ) (s : List Float) → satellite ≤ 1 → length s ≡ room →
      ((w : ℕ) → w < length l.tracks.nodes - 1 →
      Slot s (slot_at base satellite w) (states_left (model_in S l) states (get_or l.tracks.nodes w nan) (get_or l.tracks.nodes (w + 1) nan))) →
      SlotsHold s (slot_at base satellite 0) (tables states) (length l.tracks.nodes - 1)
  slots_hold states satellite s one e slots = record {
    room = omega (arith, h.scratch);
    slots = λ w k.
        let place : slot_at base satellite w ≡ slot_at base satellite 0 + window_room * w = omega arith in
        subst (λ (at : ℕ). Slot s at (tables states w)) place
        (subst (λ (t : Table State). Slot s (slot_at base satellite w) t)
        (fitted_window S l h.fields (model_fits_law S l outputs room h) states (get_or l.tracks.nodes w nan) (get_or l.tracks.nodes (w + 1) nan) (node_ends w k)) (slots w k));
    orderly =
        λ w k. window_orderly S (covered_in (stages S) sub) (field_in (stages S) sub) (λ (k : ℤ). find k (states_in states)) (get_or l.tracks.nodes w nan) (get_or l.tracks.nodes (w + 1) nan)
        (node_ends w k);
  }

-- ---- the kept epochs, and the columns

length_kept : (S : Fixed) (l : Lists) → length (kept (stages S) (submission_of S l)) ≤ length l.tracks.observed.obs_times
length_kept S l =
    omega (
      arith,
      kept_length (epoch_of (stages S) (submission_of S l)) (submission_of S l).obs,
      observations_length l.tracks.observed,
    )

-- lists of one length
all_long : (x m : ℕ) (columns : List (List Float)) → x ≡ m → All (λ (c : List Float). length c ≡ m) columns → list_all (λ (k : ℕ). eqb k x) (map length columns) ≡ true
all_long x m [] e a = refl
all_long x m (c ∷ cs) e a = rw (eq-eqb (length c) x (a.0 ∙ sym e)) (all_long x m cs e a.1)

-- the outputs: times, raw residuals, and the columns that follow from them
module _ (S : Fixed) (l : Lists) (outtimes outraws : List Float) (others : List (List Float)) (s : List Float)
    (none_fails : sheet_refusal S l (outtimes ∷ outraws ∷ others) (length s) ≡ accepted) where
  abbrev outputs : List (List Float)
  outputs = outtimes ∷ outraws ∷ others

  h : Accepts S l outputs (length s)
  h = accepts S l outputs (length s) none_fails

  abbrev m : ℕ
  m = length l.tracks.observed.obs_times

  abbrev es : List Epoch
  es = kept (stages S) (submission_of S l)

  places : All (λ (o : List Float). length o ≡ m) outputs
  places = outputs_long S l outputs (length s) h

  abbrev both_serve : Bool
  both_serve = windows_serve S.degree l.tracks.states.c.keys (length l.tracks.states.c.values) l.tracks.nodes 0 (length s) && windows_serve S.degree l.tracks.states.d.keys
      (length l.tracks.states.d.values) l.tracks.nodes 1 (length s)

  both_serve_law : both_serve ≡ true
  both_serve_law =
      rw (
        windows_serve_law S l outputs (length s) h l.tracks.states.c.keys l.tracks.states.c.values 0 (omega arith) h.states_c h.rise.states_c,
        windows_serve_law S l outputs (length s) h l.tracks.states.d.keys l.tracks.states.d.values 1 (omega arith) h.states_d h.rise.states_d,
      ) refl

  abbrev as_given : ℕ → Given
  as_given windows = given (model_in S l) l.tracks.accs windows l.tracks.observed

  abbrev epochs_serve : ℕ → Bool
  epochs_serve room = gather_serves S.degree l.tracks.accs.c.keys l.tracks.accs.d.keys l.tracks.observed.obs_times (length l.tracks.observed.values)
      (length l.tracks.observed.good) (length outtimes) (length outraws) room

  gather_serves_law : (room : ℕ) → room ≡ length s → epochs_serve room ≡ true
  unfolding gather_serves
  gather_serves_law room e =
      rw (
        le-leb S.degree 180 h.degree,
        le-leb (front_size S.degree) room (omega (arith, h.scratch)),
        h.rise.acc_c,
        h.rise.acc_d,
        h.times,
        eq-eqb (length l.tracks.observed.values) m h.values,
        eq-eqb (length l.tracks.observed.good) m h.good,
        eq-eqb (length outtimes) m places.0,
        eq-eqb (length outraws) m places.1.0,
      ) refl

  -- the fits and the epochs over them
  listed : (s₁ s₂ t r : List Float) (b : Bool) (windows n : ℕ) → windows ≡ length l.tracks.nodes - 1 →
      BothFit both_serve (states_left (model_in S l) l.tracks.states.c) (states_left (model_in S l) l.tracks.states.d) l.tracks.nodes s s₁
      (front_size S.degree) b →
      Counted (as_given windows) (epochs_serve (length s₁)) outtimes outraws s₁ t r s₂ n →
      Listed m es t r n
  listed s₁ s₂ t r b windows n w f g =
      let C : ℕ → Table State = tables S l outputs (length s) h l.tracks.states.c in
      let D : ℕ → Table State = tables S l outputs (length s) h l.tracks.states.d in
      let hold : (states : Keyed) (satellite : ℕ) → satellite ≤ 1 →
      ((i : ℕ) → i < length l.tracks.nodes - 1 → Slot s₁ (slot_at (front_size S.degree) satellite i)
      (states_left (model_in S l) states (get_or l.tracks.nodes i nan) (get_or l.tracks.nodes (i + 1) nan))) →
      SlotsHold s₁ (slot_at (front_size S.degree) satellite 0) (tables S l outputs (length s) h states) windows =
      λ states satellite one slots. subst (λ (k : ℕ). SlotsHold s₁ (slot_at (front_size S.degree) satellite 0) (tables S l outputs (length s) h states) k) (sym w)
      (slots_hold S l outputs (length s) h states satellite s₁ one f.long slots) in
      let got : Listed m (kept_in (as_given windows) C D) t r n =
      g.is (gather_serves_law (length s₁) f.long) C D (hold l.tracks.states.c 0 (omega arith) (f.slots_c both_serve_law)) (hold l.tracks.states.d 1 (omega arith) (f.slots_d both_serve_law)) in
      let joined_is : (states : Keyed) → joined (tables S l outputs (length s) h states) windows ≡ fitted (stages S) (submission_of S l) (states_in states) =
      λ states. ap (joined (tables S l outputs (length s) h states)) w ∙ tables_joined S l outputs (length s) h states in
      let same : kept_in (as_given windows) C D ≡ es =
      (λ i. kept_of (epoch_by (model_in S l) (joined_is l.tracks.states.c i) (joined_is l.tracks.states.d i) (submission_of S l).acc_c (submission_of S l).acc_d)
      (submission_of S l).obs)
      ∙ kept_is S l h.fields (model_fits_law S l outputs (length s) h) (valid S l (passed S l outputs (length s) h)) in
      subst (λ (e : List Epoch). Listed m e t r n) same got

  columns_serve_law : (n room : ℕ) (t r : List Float) → n ≤ m → length t ≡ m → length r ≡ m → room ≡ length s → columns_serve n (length t) (map length (r ∷ others)) room ≡ true
  unfolding columns_serve
  columns_serve_law n room t r few lt lr e =
      let enough : n ≤ room / 8 = omega (arith, h.scratch) in
      rw (le-leb n (length t) (omega (arith, lt, few)), all_long (length t) m (r ∷ others) lt (lr, places.1.1), le-leb n (room / 8) enough) refl

  pub worked : (s₁ s₂ s₃ t r : List Float) (others' : List (List Float)) (b c : Bool) (windows n : ℕ) → windows ≡ length l.tracks.nodes - 1 →
      BothFit both_serve (states_left (model_in S l) l.tracks.states.c) (states_left (model_in S l) l.tracks.states.d) l.tracks.nodes s s₁
      (front_size S.degree) b →
      Counted (as_given windows) (epochs_serve (length s₁)) outtimes outraws s₁ t r s₂ n →
      ColumnsFilled (columns_serve n (length t) (map length (r ∷ others)) (length s₂)) l.tracks.nodes n t r others others' s₂ s₃ c →
      Worked S l n (t ∷ r ∷ others') s s₃
  unfolding columns_of kept_count
  worked s₁ s₂ s₃ t r others' b c windows n w f g k =
      let q : Listed m es t r n = listed s₁ s₂ t r b windows n w f g in
      let few : length es ≤ m = length_kept S l in
      let lt : length t ≡ m = ap length q.times ∙ filled_length zero64 m (map time es) (omega (arith, length-map es time)) in
      let lr : length r ≡ m = ap length q.raws ∙ filled_length zero64 m (map residual es) (omega (arith, length-map es residual)) in
      let ft : take n t ≡ map time es = ap (take n) q.times ∙ filled_front zero64 m n (map time es) (length-map es time ∙ sym q.count) in
      let fr : take n r ≡ map residual es = ap (take n) q.raws ∙ filled_front zero64 m n (map residual es) (length-map es residual ∙ sym q.count) in
      let o : m ≡ length (submission_of S l).obs = sym (observations_length l.tracks.observed) in
      let rest : others' ≡ map (published (length (submission_of S l).obs)) (following S l (map time es) (map residual es)) =
      k.columns (columns_serve_law n (length s₂) t r (omega (arith, q.count)) lt lr (g.long ∙ f.long)) ∙ (λ j. map (published ((lt ∙ o) j)) (following S l (ft j) (fr j))) in
      record {
        count = q.count;
        columns_are = λ i.
            (q.times ∙ ap (λ (k : ℕ). published k (map time es)) o) i
            ∷ (q.raws ∙ ap (λ (k : ℕ). published k (map residual es)) o) i
            ∷ (rest ∙ ap (map (published (length (submission_of S l).obs))) (following_are S l)) i;
        long = k.long ∙ g.long ∙ f.long;
      }
