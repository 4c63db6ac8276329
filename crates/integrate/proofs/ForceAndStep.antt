-- Laws of the force and of one step. Assumes nothing.
use Rattle.std.proofs.Common.{◌≡◌, ℕ, ◌+◌, ◌-◌, ◌*◌, ◌<◌, ◌≤◌, Bool, true, false, ◌&&◌, leb, List, length, get_or, take, replicate, sym, refl, ap, ◌∙◌, subst, add-one, arith, length-take-le, leb-true}
use mathlib.Core.Bool.{false≢true}
use native.Mathlib.Decide.{dec_le}
use lib.Ieee.{Float, nan}
use borrow.Rule.Slice.PartMut.{mid_of, put_mid}
use Rattle.laws.specs.Bools.{both_true}
use Rattle.inputs.specs.Inputs.{Model, front_size}
use Rattle.laws.specs.Floats.{◌⊕◌, ◌⊘◌, two64, zero64}
use Rattle.laws.specs.Loops.{cleared}
use Rattle.laws.specs.WholeNumbers.{number}
use Rattle.laws.specs.Times.{step_time, step}
use Rattle.vectors.specs.Vector.{plus}
use Rattle.vectors.specs.declared.Vector.{Vector}
use Rattle.forces.specs.declared.kernel.Moment.{Moment}
use Rattle.forces.specs.Forces.{moment_of, tides_at, tides_of, fictitious_of, empirical_of, j2_of}
use Rattle.model.specs.Calls.{at_left}
use Rattle.integrate.specs.declared.kernel.State.{State}
use Rattle.integrate.specs.declared.kernel.Arc.{Arc}
use Rattle.integrate.specs.declared.kernel.Instant.{Instant}
use Rattle.integrate.specs.declared.kernel.Push.{Push}
use Rattle.integrate.specs.declared.kernel.Stepped.{Stepped}
use Rattle.integrate.specs.declared.kernel.Force.{Force}
use Rattle.integrate.specs.declared.kernel.Force.TheVariants.{Full, J2}
use Rattle.legendre.specs.Prepared.{prepared}
use Rattle.forces.specs.Forces.{gravity_with}
use Rattle.integrate.specs.Steps.{Acceleration, along_of, weighed_of, step_of, state_at}
use Rattle.integrate.specs.Force.{gravity_at, full_force, attraction_of, argument_of, acceleration_of, strengths_of, run_of, run_fits}
use Rattle.integrate.specs.Room.{run_size, state_in, Run, Only, Holds3, Orbit}
use Rattle.integrate.specs.Work.{instant_of, front_at, Ready, ReadyFor, Refreshed, Pulled, Pushed, Moved, Stored, Advanced, Begun, Flown, Ran}
use Rattle.integrate.proofs.Places.{only_then, orbit_first}
use Rattle.integrate.proofs.Front.{at_length, at_again, front_length, front_gravity, put_front, put_only, take_only}

-- ---- the instant

pub opened : (M : Model) (front y : List Float) (t : Float) (r : Instant) → length front ≡ front_size M.fixed.degree →
    y ≡ at_left M t (prepared M.fixed.degree (cleared front)) → r ≡ instant_of t →
    Ready M y r × (length y ≡ length front)
unfolding front_at
opened M front y t r e ey er =
    let is : y ≡ front_at M t = ey ∙ ap (λ (k : ℕ). at_left M t (prepared M.fixed.degree (replicate k zero64))) e in
    let ready : Ready M y (instant_of t) = record { holds = is; sky = refl } in
    (subst (λ (x : Instant). Ready M y x) (sym er) ready, ap length is ∙ front_length M t ∙ sym e)

pub kept_instant : (M : Model) (front : List Float) (known : Instant) (t : Float) (b : Bool) → (b ≡ true → known.time ≡ t) → b ≡ true → Refreshed M front front known t known
kept_instant M front known t b f h = record { ready = λ r. r; time = f h; long = refl }

pub new_instant : (M : Model) (front y : List Float) (known : Instant) (t : Float) (r : Instant) → y ≡ at_left M t front → r ≡ instant_of t → Refreshed M front y known t r
unfolding front_at
new_instant M front y known t r ey er =
    let fresh : Refreshed M front y known t (instant_of t) = record {
      ready = λ q. record {
        holds = ey ∙ ap (at_left M t) q.holds ∙ at_again M t known.time (prepared M.fixed.degree (replicate (front_size M.fixed.degree) zero64));
        sky = refl;
      };
      time = refl;
      long = ap length ey ∙ at_length M t front;
    } in
    subst (λ (x : Instant). Refreshed M front y known t x) (sym er) fresh

-- ---- the force

pub pulled : (M : Model) (front front' : List Float) (known here : Instant) (t : Float) (x g s p : Vector) (gm radius : Float) →
    Refreshed M front front' known t here → gm ≡ get_or M.fixed.static 0 nan → radius ≡ get_or M.fixed.static 1 nan →
    g ≡ gravity_with M.fixed.degree gm radius M.fixed.a M.fixed.b front' x → s ≡ tides_at here.moment x → p ≡ plus g s →
    Pulled M front front' known t x (record { known = here; pull = p })
unfolding full_force tides_of
pulled M front front' known here t x g s p gm radius f em er eg es ep = record {
  ready = f.ready;
  pull = λ r.
      let r' : Ready M front' here = f.ready r in
      let part : front' ≡ front_at M t = r'.holds ∙ ap (front_at M) f.time in
      let sky : here.moment ≡ moment_of t = r'.sky ∙ ap moment_of f.time in
      let field : g ≡ gravity_at M t x = eg ∙ (λ i. gravity_with M.fixed.degree (em i) (er i) M.fixed.a M.fixed.b (part i) x) ∙ front_gravity M t x in
      ep ∙ (λ i. plus (field i) ((es ∙ ap (λ (m : Moment). tides_at m x) sky) i));
  long = f.long;
}

module _ (M : Model) (w w' : List Float) (known : Instant) (t : Float) (x : Vector) (force : Force) where
  pub full_chosen : (r : Push) → force ≡ Full → Pulled M w w' known t x r → Pushed force M w w' known (attraction_of force M t x) r
  unfolding attraction_of
  full_chosen r e f = record {
    ready = λ g _. f.ready (g e);
    pull = λ g. f.pull (g e) ∙ sym (ap (λ (c : Force). attraction_of c M t x) e);
    long = f.long;
  }

  pub j2_chosen : (p : Vector) → force ≡ J2 → p ≡ j2_of x → Pushed force M w w known (attraction_of force M t x) (record { known = known; pull = p })
  unfolding attraction_of
  j2_chosen p e f = record {
    ready = λ g. g;
    pull = λ g. f ∙ sym (ap (λ (c : Force). attraction_of c M t x) e);
    long = refl;
  }

pub accelerated : (force : Force) (M : Model) (w w' : List Float) (known : Instant) (arc : Arc) (e : List Float) (t u : Float) (x v f p i s : Vector) (g : Push) →
    Pushed force M w w' known (attraction_of force M t x) g → f ≡ fictitious_of x v → u ≡ argument_of arc t → p ≡ empirical_of x v u e → i ≡ plus f p → s ≡ plus g.pull i →
    Pushed force M w w' known (acceleration_of (attraction_of force M) arc e t x v) (record { known = g.known; pull = s })
unfolding acceleration_of
accelerated force M w w' known arc e t u x v f p i s g h ef eu ep ei es = record {
  ready = h.ready;
  pull = λ r. es ∙ simp (h.pull r, ei, ef, ep, eu);
  long = h.long;
}

-- ---- one step, from what each call gave

pub rk : (a : Acceleration) (t : Float) (s : State) (a1 x2 v2 a2 x3 v3 a3 x4 v4 a4 dx position dv velocity : Vector) →
    a1 ≡ a t s.position s.velocity →
    x2 ≡ along_of s.position s.velocity (step ⊘ two64) →
    v2 ≡ along_of s.velocity a1 (step ⊘ two64) →
    a2 ≡ a (t ⊕ step ⊘ two64) x2 v2 →
    x3 ≡ along_of s.position v2 (step ⊘ two64) →
    v3 ≡ along_of s.velocity a2 (step ⊘ two64) →
    a3 ≡ a (t ⊕ step ⊘ two64) x3 v3 →
    x4 ≡ along_of s.position v3 step →
    v4 ≡ along_of s.velocity a3 step →
    a4 ≡ a (t ⊕ step) x4 v4 →
    dx ≡ weighed_of s.velocity v2 v3 v4 →
    position ≡ along_of s.position dx (step ⊘ number 6) →
    dv ≡ weighed_of a1 a2 a3 a4 →
    velocity ≡ along_of s.velocity dv (step ⊘ number 6) →
    record { position = position; velocity = velocity } ≡ step_of a t s
unfolding step_of
rk a t s a1 x2 v2 a2 x3 v3 a3 x4 v4 a4 dx position dv velocity e1 e2 e3 e4 e5 e6 e7 e8 e9 e10 e11 e12 e13 e14 =
    simp (e14, e13, e12, e11, e10, e9, e8, e7, e6, e5, e4, e3, e2, e1)

-- four pushes of the lent numbers, one after the other
pub stepped : (force : Force) (M : Model) (w w1 w2 w3 w4 : List Float) (known : Instant) (a : Acceleration) (t : Float) (s : State) (p1 p2 p3 p4 : Push)
    (x2 v2 x3 v3 x4 v4 dx position dv velocity : Vector) →
    Pushed force M w w1 known (a t s.position s.velocity) p1 →
    x2 ≡ along_of s.position s.velocity (step ⊘ two64) →
    v2 ≡ along_of s.velocity p1.pull (step ⊘ two64) →
    Pushed force M w1 w2 p1.known (a (t ⊕ step ⊘ two64) x2 v2) p2 →
    x3 ≡ along_of s.position v2 (step ⊘ two64) →
    v3 ≡ along_of s.velocity p2.pull (step ⊘ two64) →
    Pushed force M w2 w3 p2.known (a (t ⊕ step ⊘ two64) x3 v3) p3 →
    x4 ≡ along_of s.position v3 step →
    v4 ≡ along_of s.velocity p3.pull step →
    Pushed force M w3 w4 p3.known (a (t ⊕ step) x4 v4) p4 →
    dx ≡ weighed_of s.velocity v2 v3 v4 →
    position ≡ along_of s.position dx (step ⊘ number 6) →
    dv ≡ weighed_of p1.pull p2.pull p3.pull p4.pull →
    velocity ≡ along_of s.velocity dv (step ⊘ number 6) →
    Moved force M w w4 known (step_of a t s) (record { known = p4.known; state = record { position = position; velocity = velocity } })
stepped force M w w1 w2 w3 w4 known a t s p1 p2 p3 p4 x2 v2 x3 v3 x4 v4 dx position dv velocity q1 e2 e3 q2 e5 e6 q3 e8 e9 q4 e11 e12 e13 e14 =
    record {
      ready = λ r. q4.ready (q3.ready (q2.ready (q1.ready r)));
      state = λ r.
          let r1 = q1.ready r in
          let r2 = q2.ready r1 in
          let r3 = q3.ready r2 in
          rk a t s p1.pull x2 v2 p2.pull x3 v3 p3.pull x4 v4 p4.pull dx position dv velocity (q1.pull r) e2 e3 (q2.pull r1) e5 e6 (q3.pull r2) e8 e9 (q4.pull r3) e11 e12 e13 e14;
      long = q4.long ∙ q3.long ∙ q2.long ∙ q1.long;
    }

-- ---- a run

-- the lent numbers w where those before the states, base of them, are made to be y, and then others behind them are changed
module _ (base a e : ℕ) (w y w2 : List Float) (h : base ≤ length w) (long : length y ≡ base) (o : Only a e (put_mid 0 (base - 0) w y) w2) (g : base ≤ a) where
  front_first : Only 0 base w (put_mid 0 (base - 0) w y)
  front_first = put_only base w y h long

  front_after : take base w2 ≡ y
  front_after = take_only base a e (put_mid 0 (base - 0) w y) w2 o g (omega (arith, front_first.long)) ∙ put_front base w y h long

front_part : (n : ℕ) (w : List Float) → take n w ≡ mid_of 0 (n - 0) w
front_part n w = let e : n ≡ n - 0 = omega arith in ap (λ (k : ℕ). take k w) e

pub advanced : (force : Force) (M : Model) (w y w2 : List Float) (base k : ℕ) (known : Instant) (a : Acceleration) (t0 t : Float) (s : State) (r : Stepped) →
    k < 5302 → base + run_size ≤ length w → t ≡ step_time t0 k → Moved force M (mid_of 0 (base - 0) w) y known (step_of a t s) r →
    Stored (put_mid 0 (base - 0) w y) w2 (base + 6 * (k + 1)) r.state →
    Advanced force M w w2 base k known (step_of a (step_time t0 k) s) r
advanced force M w y w2 base k known a t0 t s r lk lw et m p =
    let fits : base ≤ length w = omega arith in
    let long : length y ≡ base = m.long ∙ ap length (sym (front_part base w)) ∙ length-take-le base w fits in
    let first = front_first base (base + 6 * (k + 1)) (base + 6 * (k + 1) + 6) w y w2 fits long p.only (omega arith) in
    let after : take base w2 ≡ y = front_after base (base + 6 * (k + 1)) (base + 6 * (k + 1) + 6) w y w2 fits long p.only (omega arith) in
    let before : ReadyFor force M (take base w) known → ReadyFor force M (mid_of 0 (base - 0) w) known =
    subst (λ (l : List Float). ReadyFor force M l known) (front_part base w) in
    record {
      ready = λ g. subst (λ (l : List Float). ReadyFor force M l r.known) (sym after) (m.ready (before g));
      state = λ g. m.state (before g) ∙ ap (λ (u : Float). step_of a u s) et;
      position = p.position (omega (arith, first.long));
      velocity = p.velocity (omega (arith, first.long));
      states = λ i l h. p.only.same i (λ q z. omega arith) ∙ first.same i (λ q z. omega arith);
      only = only_then 0 (base + run_size) 0 base (base + 6 * (k + 1)) (base + 6 * (k + 1) + 6) w (put_mid 0 (base - 0) w y) w2 first p.only (omega arith) (omega arith)
          (omega arith) (omega arith);
    }

module _ (force : Force) (M : Model) (front front' : List Float) (r : Instant) where
  pub begun_full : Ready M front' r × (length front' ≡ length front) → Begun force M front front' r
  begun_full h = record { ready = λ f. h.0; long = h.1 }

  pub begun_j2 : force ≡ J2 → Begun force M front front r
  begun_j2 e = record { ready = λ f. absurd (other (sym e ∙ f)); long = refl }
    where
      other : J2 ≡ Full → ⊥
      other q = let z : ◌≡◌ {A = ℕ} 0 1 = cc in omega arith

-- the states so far stay where a step is added
holds_kept : (w w' : List Float) (at : ℕ) (v : Vector) → ((i : ℕ) → at ≤ i → i < at + 3 → get_or w' i nan ≡ get_or w i nan) → Holds3 w at v → Holds3 w' at v
holds_kept w w' at v f h = record { x = f at (omega arith) (omega arith) ∙ h.x; y = f (at + 1) (omega arith) (omega arith) ∙ h.y; z = f (at + 2) (omega arith) (omega arith) ∙ h.z }

pub flown_first : (force : Force) (M : Model) (w y w2 : List Float) (base : ℕ) (known : Instant) (a : Acceleration) (t0 : Float) (start : State) →
    base + run_size ≤ length w → Begun force M (mid_of 0 (base - 0) w) y known → Stored (put_mid 0 (base - 0) w y) w2 base start →
    Orbit w2 base (state_at a t0 start) 1 × Only 0 (base + run_size) w w2 × ReadyFor force M (take base w2) known
unfolding state_at
flown_first force M w y w2 base known a t0 start lw g p =
    let fits : base ≤ length w = omega arith in
    let long : length y ≡ base = g.long ∙ ap length (sym (front_part base w)) ∙ length-take-le base w fits in
    let first = front_first base base (base + 6) w y w2 fits long p.only (omega arith) in
    let after : take base w2 ≡ y = front_after base base (base + 6) w y w2 fits long p.only (omega arith) in (
      orbit_first (put_mid 0 (base - 0) w y) w2 base (state_at a t0 start) start (omega (arith, first.long)) p refl,
      only_then 0 (base + run_size) 0 base base (base + 6) w (put_mid 0 (base - 0) w y) w2 first p.only (omega arith) (omega arith) (omega arith) (omega arith),
      subst (λ (l : List Float). ReadyFor force M l known) (sym after) g.ready,
    )

pub flown_more : (force : Force) (M : Model) (w w' : List Float) (base k : ℕ) (known : Instant) (a : Acceleration) (t0 : Float) (start s : State) (r : Stepped) →
    s ≡ state_at a t0 start k → Orbit w base (state_at a t0 start) (k + 1) → ReadyFor force M (take base w) known → Advanced force M w w' base k known (step_of a (step_time t0 k) s) r →
    (r.state ≡ state_at a t0 start (k + 1)) × Orbit w' base (state_at a t0 start) (k + 1 + 1) × ReadyFor force M (take base w') r.known
unfolding state_at
flown_more force M w w' base k known a t0 start s r es o g h =
    let run : Run = state_at a t0 start in
    let e : r.state ≡ state_at a t0 start (k + 1) = h.state g ∙ ap (step_of a (step_time t0 k)) es ∙ ap (state_at a t0 start) (sym (add-one k)) in (
      e,
      record {
        position = λ i l. elim (dec_le (k + 1) i) [
          | yes q ↦ let j : k + 1 ≡ i = omega arith in subst (λ (n : ℕ). Holds3 w' (base + 6 * n) (run n).position) j
              (subst (λ (x : State). Holds3 w' (base + 6 * (k + 1)) x.position) e h.position)
          | no q ↦ holds_kept w w' (base + 6 * i) (run i).position (λ n u v. h.states n (omega arith) (omega arith)) (o.position i (omega arith))
        ];
        velocity = λ i l. elim (dec_le (k + 1) i) [
          | yes q ↦ let j : k + 1 ≡ i = omega arith in subst (λ (n : ℕ). Holds3 w' (base + 6 * n + 3) (run n).velocity) j
              (subst (λ (x : State). Holds3 w' (base + 6 * (k + 1) + 3) x.velocity) e h.velocity)
          | no q ↦ holds_kept w w' (base + 6 * i + 3) (run i).velocity (λ n u v. h.states n (omega arith) (omega arith)) (o.velocity i (omega arith))
        ];
      },
      h.ready g,
    )

-- ---- the guard

-- what holds where it lets a run through
pub fits_parts : (N steps room : ℕ) → run_fits N steps room ≡ true → (N ≤ 180) × (steps ≤ 5302) × (front_size N + run_size ≤ room)
unfolding run_fits
fits_parts N steps room h =
    let a = both_true (leb N 180 && leb steps 5302) (leb (front_size N + run_size) room) h in
    let b = both_true (leb N 180) (leb steps 5302) a.0 in
    (leb-true N 180 b.0, leb-true steps 5302 b.1, leb-true (front_size N + run_size) room a.1)

module _ (force : Force) (M : Model) (p w w' : List Float) (arc : Arc) (base : ℕ) (t : Bool) (g : t ≡ run_fits M.fixed.degree arc.steps (length w)) where
  pub ran : (e : List Float) (s : State) → t ≡ true → base ≡ front_size M.fixed.degree → e ≡ strengths_of p → s ≡ state_in p 0 →
      Flown w w' base arc.steps (state_at (acceleration_of (attraction_of force M) arc e) arc.t0 s) →
      Ran (run_fits M.fixed.degree arc.steps (length w)) w w' (front_size M.fixed.degree) arc.steps (run_of (attraction_of force M) arc p)
  unfolding run_of
  ran e s h eb ee es f = record {
    flown = λ _. subst (λ (x : List Float). Flown w w' (front_size M.fixed.degree) arc.steps (state_at (acceleration_of (attraction_of force M) arc x) arc.t0 (state_in p 0))) ee
        (subst (λ (x : State). Flown w w' (front_size M.fixed.degree) arc.steps (state_at (acceleration_of (attraction_of force M) arc e) arc.t0 x)) es
        (subst (λ (n : ℕ). Flown w w' n arc.steps (state_at (acceleration_of (attraction_of force M) arc e) arc.t0 s)) eb f));
    kept = λ q. absurd (false≢true (sym q ∙ sym g ∙ h));
  }

  pub not_ran : t ≡ false → Ran (run_fits M.fixed.degree arc.steps (length w)) w w (front_size M.fixed.degree) arc.steps (run_of (attraction_of force M) arc p)
  not_ran h = record { flown = λ q. absurd (false≢true (sym h ∙ g ∙ q)); kept = λ _. refl }
