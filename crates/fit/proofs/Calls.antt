-- Laws of the public call. Assumes nothing.
use Rattle.std.specs.Prelude.{Err, Ok}
use Rattle.std.proofs.Common.{◌≡◌, ℕ, ◌+◌, ◌-◌, ◌*◌, ◌≤◌, Bool, true, false, ◌&&◌, leb, List, [], ◌∷◌, map, length, take, drop, sym, refl, ap, ◌∙◌, arith, length-drop, length-take-le, eq-eqb, le-leb}
use mathlib.Core.Bool.{and-true}
use lib.Ieee.{Float}
use lib.Ieee.Scale.{finite}
use Rattle.std.specs.List.{list_all}
use Rattle.laws.specs.Checks.{rising, rising_seconds, degree_fine}
use Rattle.laws.specs.Loops.{cleared, same_cleared}
use Rattle.laws.specs.Bools.{both_true}
use Rattle.slices.specs.Slices.{copied}
use Rattle.slices.specs.Calls.{left, left_clear, handed, settled, accepted}
use Rattle.slices.specs.declared.refusal.Refusal.{Refusal}
use Rattle.slices.specs.declared.refusal.Refusal.TheVariants.{NotFinite}
use Rattle.slices.proofs.Calls.{call_refused, call_failed, call_handed}
use Rattle.slices.proofs.SliceLoops.{copied_all}
use Rattle.inputs.specs.Inputs.{Model, fit_room, fields_fine, few, sizes_fit, states_fit, model_fine, rows_fine, front_size, Front, Keyed}
use Rattle.inputs.proofs.Passed.{all_pass, degree_passes, states_pass, sizes_room}
use Rattle.finality.specs.Brackets.{covers}
use Rattle.integrate.specs.declared.kernel.Arc.{Arc}
use Rattle.integrate.specs.Room.{run_size, Run, flat}
use Rattle.integrate.specs.Force.{full_force}
use Rattle.integrate.specs.Calls.{out_fits, arc_fits}
use Rattle.integrate.proofs.Calls.{out_passes, flat_part}
use Rattle.fit.specs.Fit.{Fit, state_for, fit_of, orbit_of}
use Rattle.fit.specs.WorkLeaves.{Fits, arc_serves, ArcFit}
use Rattle.fit.specs.Handing.{Handed}
use Rattle.fit.specs.Calls.{during, refusal, fit_call}
use Rattle.fit.specs.Room.{work_size}

-- ---- the tests

pub record Passed (N : ℕ) (arc : Arc) (states : Keyed) (out scratch : ℕ) : Type 0 where
  pub degree : N ≤ 180
  pub few : arc.steps ≤ 5302
  pub room : front_size N + fit_room ≤ scratch
  pub each : out ≡ 6 * (arc.steps + 1)
  pub rows : length states.values ≡ 6 * length states.keys
  pub order : rising_seconds states.keys ≡ true

passes : (M : Model) (states : Keyed) (arc : Arc) (out scratch : ℕ) → refusal M states arc out scratch ≡ accepted → Passed M.fixed.degree arc states out scratch
unfolding refusal
passes M states arc out scratch h =
    let p = all_pass (degree_fine M.fixed.degree) ((fields_fine (length M.fields.field_times) && leb arc.steps 5302) && few (length states.keys))
    (sizes_fit M scratch && (out_fits arc.steps out && states_fit (length states.keys) (length states.values)))
    (model_fine M && (arc_fits arc && rows_fine states)) (rising M.fields.field_times && rising_seconds states.keys) accepted h in
    let l = both_true (sizes_fit M scratch) (out_fits arc.steps out && states_fit (length states.keys) (length states.values)) p.lengths in
    let s = both_true (out_fits arc.steps out) (states_fit (length states.keys) (length states.values)) l.1 in
    let o = out_passes arc.steps out s.0 in
    record {
      degree = degree_passes M.fixed.degree p.degree;
      few = o.0;
      room = sizes_room M scratch l.0;
      each = o.1;
      rows = states_pass (length states.keys) (length states.values) s.1;
      order = (both_true (rising M.fields.field_times) (rising_seconds states.keys) p.order).1;
    }

-- ---- handing out

module _ (x : Float) (N steps base : ℕ) (w out o1 w1 : List Float) (h : N ≤ 180) (k : steps ≤ 5302) (l : front_size N + run_size ≤ length w) (q : length out ≡ 6 * (steps + 1))
    (e : Front N base) (c : o1 ≡ copied (take (base + 6 * (steps + 1) - base) (drop base w)) out) (cl : w1 ≡ cleared w) where
  abbrev new : List Float
  new = take (6 * (steps + 1)) (drop (front_size N) w)

  part_is : take (base + 6 * (steps + 1) - base) (drop base w) ≡ new
  part_is = let z : base + 6 * (steps + 1) - base ≡ 6 * (steps + 1) = omega arith in λ i. take (z i) (drop (e.0 h i) w)

  part_length : length new ≡ 6 * (steps + 1)
  part_length = length-take-le (6 * (steps + 1)) (drop (front_size N) w) (omega (arith, length-drop (front_size N) w))

  out_is : o1 ≡ new
  out_is = c ∙ ap (λ (y : List Float). copied y out) part_is ∙ copied_all new out (q ∙ sym part_length)

  all_is : (g : Bool) → g ≡ list_all finite o1 → g ≡ list_all (list_all finite) (new ∷ [])
  all_is g eg = eg ∙ ap (list_all finite) out_is ∙ sym (and-true (list_all finite new))

  pub hand_good : finite x ≡ true → list_all finite o1 ≡ true → Handed x new out w (Ok x) o1 w1
  hand_good f g = record {
    is = (λ i. left (Ok x) (out_is i ∷ []) (cl i)) ∙ call_handed (new ∷ []) (out ∷ []) w accepted (during (Ok x)) x true refl (simp f) (sym g ∙ all_is (list_all finite o1) refl);
  }

  blank : (o2 : List Float) → o2 ≡ cleared o1 → left {Answer = Fit} (Err NotFinite) (o2 ∷ []) w1 ≡ left_clear (Err NotFinite) (out ∷ []) w
  blank o2 eo = λ i. left (Err NotFinite) ((eo ∙ same_cleared o1 out (ap length out_is ∙ part_length ∙ sym q)) i ∷ []) (cl i)

  pub hand_unfit : finite x ≡ false → (o2 : List Float) → o2 ≡ cleared o1 → Handed x new out w (Err NotFinite) o2 w1
  hand_unfit f o2 eo = record { is = blank o2 eo ∙ call_failed (new ∷ []) (out ∷ []) w accepted (during (Ok x)) NotFinite refl (simp f) }

  pub hand_bad : finite x ≡ true → list_all finite o1 ≡ false → (o2 : List Float) → o2 ≡ cleared o1 → Handed x new out w (Err NotFinite) o2 w1
  hand_bad f g o2 eo = record {
    is = blank o2 eo ∙ call_handed (new ∷ []) (out ∷ []) w accepted (during (Ok x)) x false refl (simp f) (sym g ∙ all_is (list_all finite o1) refl);
  }

-- ---- the call

settled_scratch : (d : Fit) (new outs : List (List Float)) (s s' : List Float) → cleared s ≡ cleared s' → settled accepted d new outs s ≡ settled accepted d new outs s'
settled_scratch (Err e) new outs s s' h = ap (left (Err e) (map cleared outs)) h
settled_scratch (Ok x) new outs s s' h = by_finite (list_all (list_all finite) new)
  where
    by_finite : (b : Bool) → handed x b new outs s ≡ handed x b new outs s'
    by_finite true = ap (left (Ok x) new) h
    by_finite false = ap (left (Err NotFinite) (map cleared outs)) h

module _ (M : Model) (states : Keyed) (arc : Arc) (out scratch : List Float) where
  pub fit_refused : (e : Refusal) → refusal M states arc (length out) (length scratch) ≡ Err e → left (Err e) (out ∷ []) scratch ≡ fit_call M states arc out scratch
  unfolding fit_call
  fit_refused e h = call_refused _ (out ∷ []) scratch _ _ e h

  module _ (h : refusal M states arc (length out) (length scratch) ≡ accepted) where
    pub fit_passed : Passed M.fixed.degree arc states (length out) (length scratch)
    fit_passed = passes M states arc (length out) (length scratch) h

    module _ (s1 : List Float) (answer : Fit)
        (af : ArcFit (arc_serves M.fixed.degree arc.steps states.keys (length states.values) (length scratch)) (covers M.fields.field_times) (full_force M) (state_for states) arc scratch s1
        (front_size M.fixed.degree) answer) where
      fitted : Fits (covers M.fields.field_times) (full_force M) (state_for states) arc scratch s1 (front_size M.fixed.degree) answer
      unfolding arc_serves
      fitted =
          let q = fit_passed in
          af.fits (simp (
            le-leb M.fixed.degree 180 q.degree,
            le-leb arc.steps 5302 q.few,
            eq-eqb (length states.values) (6 * length states.keys) q.rows,
            le-leb (front_size M.fixed.degree + work_size) (length scratch) (omega (arith, q.room)),
            q.order,
          ))

      pub fit_long : length s1 ≡ length scratch
      fit_long = fitted.only.long

      pub fit_failed : (e : Refusal) → answer ≡ Err e → (out' s2 : List Float) → out' ≡ cleared out → s2 ≡ cleared s1 → left (Err e) (out' ∷ []) s2 ≡ fit_call M states arc out scratch
      unfolding fit_call
      fit_failed e r out' s2 eo es =
          let ek : fit_of (covers M.fields.field_times) (full_force M) (state_for states) arc ≡ Err e = sym fitted.said ∙ r in
          (λ i. left (Err e) (eo i ∷ []) ((es ∙ same_cleared s1 scratch fit_long) i))
          ∙ call_failed _ (out ∷ []) scratch _ _ e h (ap during ek)

      pub fit_handed : (x : Float) → answer ≡ Ok x → (r : Fit) (out' s2 : List Float) → Handed x (take (6 * (arc.steps + 1)) (drop (front_size M.fixed.degree) s1)) out s1 r out' s2 →
          left r (out' ∷ []) s2 ≡ fit_call M states arc out scratch
      unfolding fit_call
      fit_handed x e r out' s2 hd =
          let run : Run = orbit_of (full_force M) (state_for states) arc in
          let ex : fit_of (covers M.fields.field_times) (full_force M) (state_for states) arc ≡ Ok x = sym fitted.said ∙ e in
          let new : take (6 * (arc.steps + 1)) (drop (front_size M.fixed.degree) s1) ≡ flat run (arc.steps + 1) =
          flat_part s1 (front_size M.fixed.degree) run (arc.steps + 1) (fitted.states x e) (omega (arith, fit_long, fit_passed.room, fit_passed.few)) in
          hd.is
          ∙ settled_scratch (during (Ok x)) _ (out ∷ []) s1 scratch (same_cleared s1 scratch fit_long)
          ∙ (λ i. settled (sym h i) (during (sym ex i)) (new i ∷ []) (out ∷ []) scratch)
