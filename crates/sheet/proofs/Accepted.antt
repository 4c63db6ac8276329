-- What the tests of the call say where none fails. Assumes nothing.
use mathlib.Core.Path.{◌≡◌, refl}
use mathlib.Core.Bool.{true, ◌&&◌}
use mathlib.Core.List.{List}
use Prim.Native.Nat.{ℕ, ◌+◌, ◌-◌, ◌*◌, ◌/◌, ◌≤◌}
use native.Mathlib.Omega.{arith}
use lib.Dec.{T, leb, eqb, eqb→eq}
use lib.IntN.{ℤ}
use lib.Ieee.{Float}
use lib.Ieee.Scale.{finite}
use lib.ListN.{length}
use borrow.Author.Tests.{leb-true, le-leb, eqb-true, eq-eqb}
use Rattle.laws.specs.Lists.{All, all_map}
use Rattle.std.specs.List.{list_all}
use Rattle.laws.specs.Checks.{all_says, is_time, rising, rising_seconds, degree_fine}
use Rattle.laws.specs.Bools.{both_true, holds}
use Rattle.slices.specs.Calls.{accepted}
use Rattle.inputs.specs.Inputs.{window_room, fit_room, kind, field_size, counts_fine, model_sized, states_fit, tables_fit, least_scratch, whole_scratch_fits, model_fine, front_size, Fixed}
use Rattle.inputs.specs.Inputs.{Lists, inputs_in, model_in, inputs_fit, inputs_fine, inputs_rise}
use Rattle.inputs.proofs.Passed.{all_pass, Few, counts_pass, Rise, rise_passes, states_pass, model_passes}
use Rattle.windows.specs.Windows.{room_for, windows_serve}
use Rattle.sheet.specs.Submission.{Passed}
use Rattle.sheet.specs.Calls.{lists_counted, lists_fit, lists_fine, lists_rise, refusal_of, places_fit, sheet_refusal}
use Rattle.sheet.proofs.Orbits.{ModelFits}

-- ---- all of them

pub record Accepts (S : Fixed) (l : Lists) (outputs : List (List Float)) (room : ℕ) : Type 0 where
  pub degree : S.degree ≤ 180
  pub fields : 2 ≤ length l.fields.field_times
  pub fields_few : length l.fields.field_times ≤ 32
  pub counts : Few (length l.tracks.states.c.keys) (length l.tracks.states.d.keys) (length l.tracks.accs.c.keys) (length l.tracks.accs.d.keys)
  pub nodes : length l.tracks.nodes ≤ 64
  pub observations : length l.tracks.observed.obs_times ≤ 100000
  pub static : length S.static ≡ field_size S.degree
  pub added : length l.fields.added ≡ length l.fields.field_times * field_size S.degree
  pub a : length S.a ≡ kind S.degree
  pub b : length S.b ≡ kind S.degree
  pub states_c : length l.tracks.states.c.values ≡ 6 * length l.tracks.states.c.keys
  pub states_d : length l.tracks.states.d.values ≡ 6 * length l.tracks.states.d.keys
  pub acc_c : length l.tracks.accs.c.values ≡ length l.tracks.accs.c.keys
  pub acc_d : length l.tracks.accs.d.values ≡ length l.tracks.accs.d.keys
  pub values : length l.tracks.observed.values ≡ length l.tracks.observed.obs_times
  pub good : length l.tracks.observed.good ≡ length l.tracks.observed.obs_times
  pub outputs_fit_law : places_fit l outputs ≡ true
  pub scratch : least_scratch S.degree (length l.fields.field_times) (length l.tracks.observed.obs_times) + window_room * (length l.tracks.nodes - 1) ≤ room
  pub field_times : list_all is_time l.fields.field_times ≡ true
  pub node_times : list_all is_time l.tracks.nodes ≡ true
  pub times : list_all is_time l.tracks.observed.obs_times ≡ true
  pub rise : Rise l.fields.field_times l.tracks.states.c.keys l.tracks.states.d.keys l.tracks.accs.c.keys l.tracks.accs.d.keys
  pub nodes_rise : rising l.tracks.nodes ≡ true
  pub times_rise : rising l.tracks.observed.obs_times ≡ true

record Lengths (S : Fixed) (l : Lists) (outputs : List (List Float)) (room : ℕ) : Type 0 where
  pub static : length S.static ≡ field_size S.degree
  pub added : length l.fields.added ≡ length l.fields.field_times * field_size S.degree
  pub a : length S.a ≡ kind S.degree
  pub b : length S.b ≡ kind S.degree
  pub states_c : length l.tracks.states.c.values ≡ 6 * length l.tracks.states.c.keys
  pub states_d : length l.tracks.states.d.values ≡ 6 * length l.tracks.states.d.keys
  pub acc_c : length l.tracks.accs.c.values ≡ length l.tracks.accs.c.keys
  pub acc_d : length l.tracks.accs.d.values ≡ length l.tracks.accs.d.keys
  pub values : length l.tracks.observed.values ≡ length l.tracks.observed.obs_times
  pub good : length l.tracks.observed.good ≡ length l.tracks.observed.obs_times
  pub outputs_fit_law : places_fit l outputs ≡ true
  pub scratch : least_scratch S.degree (length l.fields.field_times) (length l.tracks.observed.obs_times) + window_room * (length l.tracks.nodes - 1) ≤ room

record Tables (c cs d ds p ps q qs : ℕ) : Type 0 where
  pub states_c : cs ≡ 6 * c
  pub states_d : ds ≡ 6 * d
  pub acc_c : ps ≡ p
  pub acc_d : qs ≡ q

tables_say : (c cs d ds p ps q qs : ℕ) → tables_fit c cs d ds p ps q qs ≡ true → Tables c cs d ds p ps q qs
unfolding tables_fit
tables_say c cs d ds p ps q qs h =
    let a = both_true (states_fit c cs && states_fit d ds) (eqb ps p && eqb qs q) h in
    let s = both_true (states_fit c cs) (states_fit d ds) a.0 in
    let t = both_true (eqb ps p) (eqb qs q) a.1 in
    record { states_c = states_pass c cs s.0; states_d = states_pass d ds s.1; acc_c = eqb-true ps p t.0; acc_d = eqb-true qs q t.1 }

scratch_says : (N fields nodes count room : ℕ) → whole_scratch_fits N fields nodes count room ≡ true → least_scratch N fields count + window_room * (nodes - 1) ≤ room
unfolding whole_scratch_fits
scratch_says N fields nodes count room h =
    let a = (both_true (leb N 180) _ h).1 in
    let b = (both_true (leb fields 32) _ a).1 in
    let e = (both_true (leb nodes 64) _ b).1 in
    let f = (both_true (leb count 100000) _ e).1 in
    leb-true (least_scratch N fields count + window_room * (nodes - 1)) room f

module _ (S : Fixed) (l : Lists) (outputs : List (List Float)) (room : ℕ) where
  lengths_say : lists_fit S l (places_fit l outputs) room ≡ true → Lengths S l outputs room
  unfolding lists_fit
  lengths_say h =
      let M : ℕ = length l.tracks.observed.obs_times in
      let a = both_true (inputs_fit (inputs_in S l)) _ h in
      let b = both_true (model_sized (model_in S l)) _ a.0 in
      let m = model_passes S.degree (length l.fields.field_times) (length S.static) (length l.fields.added) (length S.a) (length S.b) b.0 in
      let t = tables_say _ _ _ _ _ _ _ _ b.1 in
      let e = both_true ((eqb (length l.tracks.observed.values) M && eqb (length l.tracks.observed.good) M) && places_fit l outputs) _ a.1 in
      let f = both_true (eqb (length l.tracks.observed.values) M && eqb (length l.tracks.observed.good) M) (places_fit l outputs) e.0 in
      let g = both_true (eqb (length l.tracks.observed.values) M) (eqb (length l.tracks.observed.good) M) f.0 in
      record {
        static = m.static;
        added = m.added;
        a = m.a;
        b = m.b;
        states_c = t.states_c;
        states_d = t.states_d;
        acc_c = t.acc_c;
        acc_d = t.acc_d;
        values = eqb-true (length l.tracks.observed.values) M g.0;
        good = eqb-true (length l.tracks.observed.good) M g.1;
        outputs_fit_law = f.1;
        scratch = scratch_says S.degree (length l.fields.field_times) (length l.tracks.nodes) M room e.1;
      }

  record Counts : Type 0 where
    pub fields : 2 ≤ length l.fields.field_times
    pub fields_few : length l.fields.field_times ≤ 32
    pub counts : Few (length l.tracks.states.c.keys) (length l.tracks.states.d.keys) (length l.tracks.accs.c.keys) (length l.tracks.accs.d.keys)
    pub nodes : length l.tracks.nodes ≤ 64
    pub observations : length l.tracks.observed.obs_times ≤ 100000

  counts_say : lists_counted S l ≡ true → Counts
  unfolding lists_counted counts_fine
  counts_say h =
      let f : ℕ = length l.fields.field_times in
      let a = both_true (counts_fine f (length l.tracks.states.c.keys) (length l.tracks.states.d.keys) (length l.tracks.accs.c.keys) (length l.tracks.accs.d.keys)) _ h in
      let b = both_true (leb 2 f && leb f 32) _ a.0 in
      let e = both_true (leb 2 f) (leb f 32) b.0 in
      let g = both_true (leb (length l.tracks.nodes) 64) (leb (length l.tracks.observed.obs_times) 100000) a.1 in
      record {
        fields = leb-true 2 f e.0;
        fields_few = leb-true f 32 e.1;
        counts = counts_pass f (length l.tracks.states.c.keys) (length l.tracks.states.d.keys) (length l.tracks.accs.c.keys) (length l.tracks.accs.d.keys) a.0;
        nodes = leb-true (length l.tracks.nodes) 64 g.0;
        observations = leb-true (length l.tracks.observed.obs_times) 100000 g.1;
      }

  record Values : Type 0 where
    pub field_times : list_all is_time l.fields.field_times ≡ true
    pub node_times : list_all is_time l.tracks.nodes ≡ true
    pub times : list_all is_time l.tracks.observed.obs_times ≡ true

  values_say : lists_fine S l ≡ true → Values
  unfolding lists_fine model_fine
  values_say h =
      let a = both_true (inputs_fine (inputs_in S l)) _ h in
      let b = both_true (model_fine (model_in S l)) _ a.0 in
      let e = both_true (list_all finite S.static && list_all finite l.fields.added) _ b.0 in
      let f = both_true (list_all is_time l.tracks.nodes) _ a.1 in
      let g = both_true (list_all is_time l.tracks.observed.obs_times) (list_all finite l.tracks.observed.values) f.1 in
      record { field_times = (both_true (list_all is_time l.fields.field_times) (list_all finite S.a && list_all finite S.b) e.1).0; node_times = f.0; times = g.0 }

  pub accepts : sheet_refusal S l outputs room ≡ accepted → Accepts S l outputs room
  unfolding refusal_of lists_rise
  accepts h =
      let t = all_pass (degree_fine S.degree) _ (lists_fit S l (places_fit l outputs) room) (lists_fine S l) _ accepted h in
      let k = counts_say t.counts in
      let n = lengths_say t.lengths in
      let v = values_say t.values in
      let o = both_true (inputs_rise (inputs_in S l)) _ t.order in
      let q = both_true (rising l.tracks.nodes) (rising l.tracks.observed.obs_times) o.1 in
      record {
        degree = leb-true S.degree 180 (both_true (leb 2 S.degree) (leb S.degree 180) t.degree).1;
        fields = k.fields;
        fields_few = k.fields_few;
        counts = k.counts;
        nodes = k.nodes;
        observations = k.observations;
        static = n.static;
        added = n.added;
        a = n.a;
        b = n.b;
        states_c = n.states_c;
        states_d = n.states_d;
        acc_c = n.acc_c;
        acc_d = n.acc_d;
        values = n.values;
        good = n.good;
        outputs_fit_law = n.outputs_fit_law;
        scratch = n.scratch;
        field_times = v.field_times;
        node_times = v.node_times;
        times = v.times;
        rise = rise_passes l.fields.field_times l.tracks.states.c.keys l.tracks.states.d.keys l.tracks.accs.c.keys l.tracks.accs.d.keys o.0;
        nodes_rise = q.0;
        times_rise = q.1;
      }

-- ---- what follows of them

module _ (S : Fixed) (l : Lists) (outputs : List (List Float)) (room : ℕ) (h : Accepts S l outputs room) where
  pub passed : Passed S l
  passed = record {
    fields = h.fields;
    added = h.added;
    states_c = h.states_c;
    states_d = h.states_d;
    acc_c = h.acc_c;
    acc_d = h.acc_d;
    values = h.values;
    good = h.good;
    field_times = (holds _ h.field_times, holds _ h.rise.fields);
    keys_c_rise = holds _ h.rise.states_c;
    keys_d_rise = holds _ h.rise.states_d;
    acc_keys_c_rise = holds _ h.rise.acc_c;
    acc_keys_d_rise = holds _ h.rise.acc_d;
    node_times = (holds _ h.node_times, holds _ h.nodes_rise);
    observed_times = (holds _ h.times, holds _ h.times_rise);
  }

  -- each output has a place for each observation
  pub outputs_long : All (λ (o : List Float). length o ≡ length l.tracks.observed.obs_times) outputs
  outputs_long =
      let m : ℕ = length l.tracks.observed.obs_times in
      all_map (λ (o : List Float). T (eqb (length o) m)) (λ (o : List Float). length o ≡ m) outputs (λ o t. eqb→eq (length o) m t)
      (all_says (λ (o : List Float). eqb (length o) m) outputs (holds _ h.outputs_fit_law))

  pub model_fits_law : ModelFits S l
  model_fits_law = record { degree = h.degree; static = h.static; fields = h.fields; added = h.added; a = h.a; b = h.b }

  -- there is room for the fits of a satellite
  pub windows_serve_law : (keys : List ℤ) (states : List Float) (satellite : ℕ) → satellite ≤ 1 → length states ≡ 6 * length keys → rising_seconds keys ≡ true →
      windows_serve S.degree keys (length states) l.tracks.nodes satellite room ≡ true
  unfolding windows_serve room_for
  windows_serve_law keys states satellite one six rises =
      let base : ℕ = front_size S.degree + fit_room in
      let n : ℕ = length l.tracks.nodes in
      let b : base + window_room * (n - 1) ≤ room = omega (arith, h.scratch) in
      let fits : n ≤ (room - base) / window_room + 1 = omega arith in
      rw (
        le-leb S.degree 180 h.degree,
        le-leb base room (omega (arith, b)),
        le-leb n ((room - base) / window_room + 1) fits,
        le-leb satellite 1 one,
        eq-eqb (length states) (6 * length keys) six,
        rises,
        h.node_times,
        h.nodes_rise,
      ) refl
