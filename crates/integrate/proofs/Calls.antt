-- Laws of the public call. Assumes nothing.
use Rattle.std.proofs.Common.{Ok, Err, ◌≡◌, ℕ, zero, suc, ◌+◌, ◌-◌, ◌*◌, ◌<◌, ◌≤◌, Bool, true, false, ◌&&◌, eqb, leb, List, [], ◌∷◌, ◌++◌, length, get_or, take, drop, sym, refl, ap, ◌∙◌, arith, length-append, length-drop, length-take-le, get_or-drop, get_or-take, drop-drop, ext_get_or, take-add, eqb-true, le-leb, leb-true}
use lib.Ieee.{Float, nan}
use lib.Ieee.Scale.{finite}
use Rattle.std.specs.List.{list_all}
use Rattle.laws.specs.Checks.{rising, degree_fine}
use Rattle.laws.specs.Loops.{cleared}
use Rattle.laws.specs.Bools.{both_true}
use Rattle.slices.specs.Slices.{copied}
use Rattle.slices.specs.Calls.{Verdict, accepted, left}
use Rattle.slices.specs.declared.refusal.Refusal.TheVariants.{NotFinite}
use Rattle.slices.proofs.Calls.{one_accepted, one_unfit}
use Rattle.slices.proofs.SliceLoops.{copied_all}
use Rattle.inputs.specs.Inputs.{Model, fit_room, fields_fine, sizes_fit, model_fine, front_size, Front}
use Rattle.inputs.proofs.Passed.{all_pass, degree_passes, sizes_room}
use Rattle.integrate.specs.declared.kernel.Arc.{Arc}
use Rattle.integrate.specs.declared.kernel.Force.{Force}
use Rattle.integrate.specs.Room.{run_size, Run, Orbit, six, flat}
use Rattle.integrate.specs.Force.{attraction_of, run_of, run_fits}
use Rattle.integrate.specs.Work.{Ran, Listed}
use Rattle.integrate.specs.Calls.{out_fits, arc_fits, refusal, integrate_call}

-- ---- the tests

pub out_passes : (steps out : ℕ) → out_fits steps out ≡ true → (steps ≤ 5302) × (out ≡ 6 * (steps + 1))
unfolding out_fits
out_passes steps out h =
    let p = both_true (leb steps 5302) (eqb out (6 * (steps + 1))) h in
    (leb-true steps 5302 p.0, eqb-true out (6 * (steps + 1)) p.1)

-- ---- what holds where none fails

pub record Passed (N : ℕ) (arc : Arc) (out scratch : ℕ) : Type 0 where
  pub degree : N ≤ 180
  pub few : arc.steps ≤ 5302
  pub room : front_size N + fit_room ≤ scratch
  pub each : out ≡ 6 * (arc.steps + 1)

pub passes : (M : Model) (arc : Arc) (p : List Float) (out scratch : ℕ) → refusal M arc p out scratch ≡ accepted → Passed M.fixed.degree arc out scratch
unfolding refusal
passes M arc q out scratch h =
    let p = all_pass (degree_fine M.fixed.degree) (fields_fine (length M.fields.field_times) && leb arc.steps 5302) (sizes_fit M scratch && out_fits arc.steps out)
    (model_fine M && (arc_fits arc && list_all finite q)) (rising M.fields.field_times) accepted h in
    let l = both_true (sizes_fit M scratch) (out_fits arc.steps out) p.lengths in
    let o = out_passes arc.steps out l.1 in
    record { degree = degree_passes M.fixed.degree p.degree; few = o.0; room = sizes_room M scratch l.0; each = o.1 }

-- ---- the states of a run as a list

six_part : (w : List Float) (at : ℕ) (run : Run) (k : ℕ) → Orbit w at run (suc k) → at + 6 * suc k ≤ length w → take 6 (drop (at + 6 * k) w) ≡ six (run k)
six_part w at run k o h =
    let b : ℕ = at + 6 * k in
    let l : length (take 6 (drop b w)) ≡ 6 = length-take-le 6 (drop b w) (omega (arith, length-drop b w)) in
    let p = o.position k (omega arith) in
    let v = o.velocity k (omega arith) in
    let zero_off : b + 0 ≡ b = omega arith in
    ext_get_or nan (take 6 (drop b w)) (six (run k)) l (λ i q. get_or-take 6 (drop b w) i nan (omega arith) ∙ get_or-drop b w i nan ∙ at_place i (omega arith))
  where
    at_place : (i : ℕ) → i < 6 → get_or w (at + 6 * k + i) nan ≡ get_or (six (run k)) i nan
    at_place zero q = let e : at + 6 * k + 0 ≡ at + 6 * k = omega arith in ap (λ (n : ℕ). get_or w n nan) e ∙ (o.position k (omega arith)).x
    at_place (suc zero) q = (o.position k (omega arith)).y
    at_place (suc (suc zero)) q = (o.position k (omega arith)).z
    at_place (suc (suc (suc zero))) q = (o.velocity k (omega arith)).x
    at_place (suc (suc (suc (suc zero)))) q = let e : at + 6 * k + 4 ≡ at + 6 * k + 3 + 1 = omega arith in ap (λ (n : ℕ). get_or w n nan) e ∙ (o.velocity k (omega arith)).y
    at_place (suc (suc (suc (suc (suc zero))))) q = let e : at + 6 * k + 5 ≡ at + 6 * k + 3 + 2 = omega arith in ap (λ (n : ℕ). get_or w n nan) e ∙ (o.velocity k (omega arith)).z
    at_place (suc (suc (suc (suc (suc (suc i)))))) q = absurd (omega arith)

pub flat_length : (run : Run) (n : ℕ) → length (flat run n) ≡ 6 * n
unfolding flat
flat_length run zero = refl
flat_length run (suc n) = length-append (flat run n) (six (run n)) ∙ omega (arith, flat_length run n)

pub flat_part : (w : List Float) (at : ℕ) (run : Run) (n : ℕ) → Orbit w at run n → at + 6 * n ≤ length w → take (6 * n) (drop at w) ≡ flat run n
unfolding flat
flat_part w at run zero o h = refl
flat_part w at run (suc n) o h =
    let less : Orbit w at run n = record { position = λ k l. o.position k (omega arith); velocity = λ k l. o.velocity k (omega arith) } in
    let e : 6 * suc n ≡ 6 * n + 6 = omega arith in
    ap (λ (k : ℕ). take k (drop at w)) e
    ∙ take-add (6 * n) 6 (drop at w)
    ∙ (λ i. flat_part w at run n less (omega arith) i ++ (ap (take 6) (drop-drop (6 * n) at w) ∙ six_part w at run n o h) i)

pub ran_long : (N steps : ℕ) (w w' : List Float) (run : Run) → N ≤ 180 → steps ≤ 5302 → front_size N + run_size ≤ length w → Ran (run_fits N steps (length w)) w w' (front_size N) steps run
    → length w' ≡ length w
unfolding run_fits
ran_long N steps w w' run h k l r = (r.flown (simp (le-leb N 180 h, le-leb steps 5302 k, le-leb (front_size N + run_size) (length w) l))).only.long

pub states_are : (N steps base : ℕ) (w w' out out' : List Float) (run : Run) → N ≤ 180 → steps ≤ 5302 → front_size N + run_size ≤ length w → length out ≡ 6 * (steps + 1) →
    Ran (run_fits N steps (length w)) w w' (front_size N) steps run → Front N base →
    out' ≡ copied (take (base + 6 * (steps + 1) - base) (drop base w')) out → Listed run (steps + 1) out' w w'
unfolding run_fits
states_are N steps base w w' out out' run h k l q r e c =
    let f = r.flown (simp (le-leb N 180 h, le-leb steps 5302 k, le-leb (front_size N + run_size) (length w) l)) in
    let eb : base ≡ front_size N = e.0 h in
    let z : base + 6 * (steps + 1) - base ≡ 6 * (steps + 1) = omega arith in
    let long : length w' ≡ length w = f.only.long in
    let part : take (base + 6 * (steps + 1) - base) (drop base w') ≡ flat run (steps + 1) =
    (λ i. take (z i) (drop (eb i) w')) ∙ flat_part w' (front_size N) run (steps + 1) f.states (omega (arith, long)) in
    let lp : length (take (base + 6 * (steps + 1) - base) (drop base w')) ≡ 6 * (steps + 1) =
    ap (λ (n : ℕ). length (take n (drop base w'))) z ∙ length-take-le (6 * (steps + 1)) (drop base w') (omega (arith, length-drop base w', long)) in
    record { states = c ∙ copied_all (take (base + 6 * (steps + 1) - base) (drop base w')) out (q ∙ sym lp) ∙ part; long = long }

-- ---- the call, nothing being refused before the work

module _ (force : Force) (M : Model) (arc : Arc) (p out scratch out' scratch' scratch'' : List Float) (v : Verdict)
    (ev : v ≡ refusal M arc p (length out) (length scratch)) (h : v ≡ accepted)
    (eo : Listed (run_of (attraction_of force M) arc p) (arc.steps + 1) out' scratch scratch') (es : scratch'' ≡ cleared scratch')
    (t : Bool) (et : t ≡ list_all finite out') where
  passed : refusal M arc p (length out) (length scratch) ≡ accepted
  passed = sym ev ∙ h

  pub integrate_accepted : t ≡ true → left (Ok tt) (out' ∷ []) scratch'' ≡ integrate_call force M arc p out scratch
  unfolding integrate_call
  integrate_accepted q = one_accepted tt _ _ out scratch out' scratch'' scratch' t passed eo.states es eo.long et q

  pub integrate_unfit : t ≡ false → (out'' : List Float) → out'' ≡ cleared out' → left (Err NotFinite) (out'' ∷ []) scratch'' ≡ integrate_call force M arc p out scratch
  unfolding integrate_call
  integrate_unfit q out'' e =
      let long : length out' ≡ length out = ap length eo.states ∙ flat_length _ (arc.steps + 1) ∙ sym (passes M arc p (length out) (length scratch) passed).each in
      one_unfit tt _ _ out scratch out' out'' scratch'' out' scratch' t passed eo.states e long es eo.long et q
