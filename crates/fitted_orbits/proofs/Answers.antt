-- What `fitted_orbits` answers and leaves, in the cases of its code. Assumes nothing.
use mathlib.Core.Path.{◌≡◌, sym, ap, ◌∙◌, subst}
use mathlib.Core.Bool.{Bool, true, false, ◌&&◌}
use mathlib.Core.List.{List, []}
use Prim.Native.Nat.{ℕ, ◌+◌, ◌-◌, ◌*◌, ◌≤◌, ◌<◌}
use native.Mathlib.Omega.{arith}
use lib.Dec.{T, leb, eqb}
use lib.Ieee.{Float, nan}
use lib.Ieee.Scale.{finite}
use lib.ListN.{length, get_or}
use borrow.Author.Tests.{leb-true, eqb-true}
use Rattle.std.specs.List.{list_all}
use Rattle.laws.specs.Checks.{is_time, rising, rising_seconds, degree_fine}
use Rattle.laws.specs.Bools.{both_true}
use Rattle.inputs.specs.Inputs.{window_room, fields_fine, few, model_sized, least_scratch, whole_scratch_fits, model_fine, rows_fine, front_size}
use Rattle.inputs.proofs.Passed.{all_pass, degree_passes}
use Rattle.windows.specs.Windows.{Ends}
use Rattle.windows.proofs.Filling.{ends_at}
use Rattle.std.specs.Prelude.{Err}
use Rattle.laws.specs.Loops.{cleared, same_cleared}
use Rattle.slices.specs.Calls.{Verdict, accepted}
use Rattle.slices.specs.declared.refusal.Refusal.TheVariants.{NotFinite}
use Rattle.fitted_orbits.specs.declared.work.Done.{Done}
use Rattle.fitted_orbits.specs.Orbits.{Window}
use Rattle.fitted_orbits.specs.Calls.{Given, Outputs, places_fit, lengths_fit, refusal, fitted_windows, listed, left, handed, settled, orbits_call}
use Rattle.fitted_orbits.specs.Work.{SoFar, Usable}
use Rattle.fit.specs.Room.{work_size}

-- ---- all tests passed

record Passed (g : Given) (fit : Bool) : Type 0 where
  pub degree : g.model.fixed.degree ≤ 180
  pub lengths : fit ≡ true
  pub times : list_all is_time g.nodes ≡ true
  pub keys : rising_seconds g.states.keys ≡ true
  pub nodes : rising g.nodes ≡ true

passes : (g : Given) (fit : Bool) → refusal g fit ≡ accepted → Passed g fit
unfolding refusal
passes g fit h =
    let a = all_pass (degree_fine g.model.fixed.degree) ((fields_fine (length g.model.fields.field_times) && few (length g.states.keys)) && leb (length g.nodes) 64) fit
    (model_fine g.model && (rows_fine g.states && list_all is_time g.nodes))
    (rising g.model.fields.field_times && (rising_seconds g.states.keys && rising g.nodes)) accepted h in
    let values = (both_true (model_fine g.model) (rows_fine g.states && list_all is_time g.nodes) a.values).1 in
    let order = (both_true (rising g.model.fields.field_times) (rising_seconds g.states.keys && rising g.nodes) a.order).1 in
    record {
      degree = degree_passes g.model.fixed.degree a.degree;
      lengths = a.lengths;
      times = (both_true (rows_fine g.states) (list_all is_time g.nodes) values).1;
      keys = (both_true (rising_seconds g.states.keys) (rising g.nodes) order).0;
      nodes = (both_true (rising_seconds g.states.keys) (rising g.nodes) order).1;
    }

pub record Long (k : ℕ) (o : Outputs) : Type 0 where
  pub keys : length o.keys ≡ 3500 * k
  pub states : length o.states ≡ 6 * (3500 * k)
  pub rms : length o.rms ≡ k

places_pass : (n keys states rms : ℕ) → places_fit n keys states rms ≡ true → (keys ≡ 3500 * (n - 1)) × (states ≡ 6 * (3500 * (n - 1))) × (rms ≡ n - 1)
unfolding places_fit
places_pass n keys states rms h =
    let a = (both_true (leb n 64) (eqb keys (3500 * (n - 1)) && (eqb states (6 * (3500 * (n - 1))) && eqb rms (n - 1))) h).1 in
    let b = both_true (eqb keys (3500 * (n - 1))) (eqb states (6 * (3500 * (n - 1))) && eqb rms (n - 1)) a in
    let c = both_true (eqb states (6 * (3500 * (n - 1)))) (eqb rms (n - 1)) b.1 in
    (eqb-true keys (3500 * (n - 1)) b.0, eqb-true states (6 * (3500 * (n - 1))) c.0, eqb-true rms (n - 1) c.1)

scratch_pass : (N fields n scratch : ℕ) → whole_scratch_fits N fields n 0 scratch ≡ true → front_size N + work_size ≤ scratch
unfolding whole_scratch_fits
scratch_pass N fields n scratch h =
    let least : ℕ = least_scratch N fields 0 + window_room * (n - 1) in
    let a = (both_true (leb N 180) (leb fields 32 && (leb n 64 && (leb 0 100000 && leb least scratch))) h).1 in
    let b = (both_true (leb fields 32) (leb n 64 && (leb 0 100000 && leb least scratch)) a).1 in
    let c = (both_true (leb n 64) (leb 0 100000 && leb least scratch) b).1 in
    omega (arith, leb-true least scratch (both_true (leb 0 100000) (leb least scratch) c).1)

module _ (g : Given) (o : Outputs) (scratch : ℕ) (fit : Bool) (ef : fit ≡ lengths_fit g o scratch) (z : refusal g fit ≡ accepted) where
  passed : Passed g fit
  passed = passes g fit z

  abbrev model_fits_law : Bool
  model_fits_law = model_sized g.model

  abbrev each_fits : Bool
  each_fits = eqb (length g.states.values) (6 * length g.states.keys)

  abbrev places : Bool
  places = places_fit (length g.nodes) (length o.keys) (length o.states) (length o.rms)

  abbrev room : Bool
  room = whole_scratch_fits g.model.fixed.degree (length g.model.fields.field_times) (length g.nodes) 0 scratch

  lengths : ((model_fits_law && each_fits) ≡ true) × ((places && room) ≡ true)
  lengths = both_true (model_fits_law && each_fits) (places && room) (sym ef ∙ passed.lengths)

  pub usable : Usable g.model.fixed.degree g.states.keys (length g.states.values) scratch
  usable = record {
    degree = passed.degree;
    rises = passed.keys;
    each = eqb-true (length g.states.values) (6 * length g.states.keys) (both_true model_fits_law each_fits lengths.0).1;
    enough = scratch_pass g.model.fixed.degree (length g.model.fields.field_times) (length g.nodes) scratch (both_true places room lengths.1).1;
  }

  pub ends : (w : ℕ) → w + 1 < length g.nodes → Ends (get_or g.nodes w nan) (get_or g.nodes (w + 1) nan)
  ends = ends_at g.nodes (subst T (sym passed.times) tt) (subst T (sym passed.nodes) tt)

  pub long : Long (length g.nodes - 1) o
  long =
      let p = places_pass (length g.nodes) (length o.keys) (length o.states) (length o.rms) (both_true places room lengths.1).0 in
      record { keys = p.0; states = p.1; rms = p.2 }

-- the lengths of the outputs, tested apart
pub fit_is : (g : Given) (o : Outputs) (scratch : ℕ) (p fit : Bool) → p ≡ places_fit (length g.nodes) (length o.keys) (length o.states) (length o.rms) →
    fit ≡ ((model_sized g.model && eqb (length g.states.values) (6 * length g.states.keys))
    && (p && whole_scratch_fits g.model.fixed.degree (length g.model.fields.field_times) (length g.nodes) 0 scratch)) → fit ≡ lengths_fit g o scratch
fit_is g o scratch p fit ep ef =
    ef ∙ ap (λ (x : Bool). (model_sized g.model && eqb (length g.states.values) (6 * length g.states.keys))
    && (x && whole_scratch_fits g.model.fixed.degree (length g.model.fields.field_times) (length g.nodes) 0 scratch)) ep

-- ---- the three ends

module _ (g : Given) (o : Outputs) (s : List Float) (fit : Bool) (ef : fit ≡ lengths_fit g o (length s)) where
  abbrev k : ℕ
  k = length g.nodes - 1

  abbrev ws : List Window
  ws = fitted_windows g

  settles : (v : Verdict) → refusal g fit ≡ v → settled v k ws o s ≡ orbits_call g o s
  settles v e = ap (λ (v : Verdict). settled v k ws o s) (sym e ∙ ap (refusal g) ef)

  module _ (z : refusal g fit ≡ accepted) (r : Done) (o' : Outputs) (f : SoFar (length g.nodes - 1) (fitted_windows g) r o') (s' w : List Float)
      (es : s' ≡ cleared w) (l : length w ≡ length s) where
    clear : s' ≡ cleared s
    clear = es ∙ same_cleared w s l

    judged : (b : Bool) → b ≡ (list_all finite o'.states && list_all finite o'.rms) → handed b k ws s ≡ orbits_call g o s
    judged b e =
        ap (λ (y : Bool). handed y k ws s) (e ∙ ap (λ (q : Outputs). list_all finite q.states && list_all finite q.rms) f.outputs) ∙ settles accepted z

    pub orbits_unfit : (o'' : Outputs) → o'' ≡ listed k [] → (list_all finite o'.states && list_all finite o'.rms) ≡ false → left (Err NotFinite) o'' s' ≡ orbits_call g o s
    orbits_unfit o'' eo t = (λ i. left (Err NotFinite) (eo i) (clear i)) ∙ judged false (sym t)
