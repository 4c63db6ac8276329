-- Laws of the windows' slots: what one window leaves, and that the slots before it stay. Assumes nothing.
use Rattle.slices.specs.declared.refusal.Refusal.{Refusal}
use Rattle.std.specs.Prelude.{Err, Ok, Option}
use Rattle.std.proofs.Common.{◌≡◌, ℕ, zero, suc, ◌+◌, ◌-◌, ◌*◌, ◌/◌, ◌<◌, ◌≤◌, Bool, true, false, ◌&&◌, T, eqb, leb, List, [], ◌∷◌, length, get_or, set, ℤ, sym, refl, ap, ◌∙◌, subst, arith, eqb→eq, leb→le, get_or-set_other, get_or-set_same, eq-eqb, eqb-true, le-leb}
use mathlib.Core.Bool.{false≢true}
use lib.Ieee.{Float, nan, lt}
use lib.Ieee.Fits.{and_l, and_r}
use lib.Ieee.Bits.{is_true}
use borrow.Author.Tests.{eqb-false}
use Rattle.inputs.specs.Inputs.{window_room, slot_room, fit_room, front_size}
use Rattle.laws.specs.Floats.{◌⊖◌}
use Rattle.std.specs.List.{list_all}
use Rattle.laws.specs.Checks.{is_time, rising, rising_seconds, time_says}
use Rattle.laws.specs.Order.{lt→le}
use Rattle.laws.specs.WholeNumbers.{number}
use Rattle.laws.specs.Bools.{by}
use Rattle.laws.specs.Tables.{row, row_length}
use Rattle.finality.specs.Tables.{Table}
use Rattle.finality.specs.Arcs.{longest, start, steps, arc_of, inside}
use Rattle.finality.proofs.WindowTimes.{states_short, steps_short}
use Rattle.vectors.specs.declared.Vector.{Vector}
use Rattle.integrate.specs.Room.{Run, Holds3, Orbit}
use Rattle.integrate.specs.declared.kernel.State.{State}
use Rattle.integrate.specs.declared.kernel.Arc.{Arc as ArcStruct}
use Rattle.fit.specs.Fit.{Fit, fit_of, orbit_of, state_for}
use Rattle.fit.specs.WorkLeaves.{arc_serves, Fits, ArcFit}
use Rattle.inputs.specs.Lent.{model_of, keyed_of}
use Rattle.finality.specs.Brackets.{covers}
use Rattle.integrate.specs.Force.{full_force}
use Rattle.windows.specs.declared.kernel.Track.{Track}
use Rattle.windows.specs.Stage.{arc_struct, states_of}
use Rattle.windows.specs.Slots.{nth, Entries, Slot, Keeps}
use Rattle.windows.specs.Windows.{window_by, arc_between, room_for, windows_serve, Leaves, Windowed, Ends, Filled, WindowsFit}
use Rattle.fit.specs.Room.{work_size}
use Rattle.windows.proofs.Arcs.{Fine, arc_between_law}

-- ---- numbers that stay

holds_same : (at : ℕ) (s s' : List Float) (v : Vector) → ((k : ℕ) → at ≤ k → k < at + 3 → get_or s' k nan ≡ get_or s k nan) → Holds3 s at v → Holds3 s' at v
holds_same at s s' v e h = record {
  x = e at (omega arith) (omega arith) ∙ h.x;
  y = e (at + 1) (omega arith) (omega arith) ∙ h.y;
  z = e (at + 2) (omega arith) (omega arith) ∙ h.z;
}

entries_same : (at : ℕ) (s s' : List Float) (table : Table State) → ((k : ℕ) → at ≤ k → k < at + 7 * length table → get_or s' k nan ≡ get_or s k nan) → Entries s at table → Entries s' at table
entries_same at s s' table e h = record {
  each = λ j l.
      let x = h.each j l in
      record {
        second = e (at + 7 * j) (omega arith) (omega arith) ∙ x.second;
        position = holds_same (at + 7 * j + 1) s s' (nth table j).1.position (λ k p q. e k (omega arith) (omega arith)) x.position;
        velocity = holds_same (at + 7 * j + 4) s s' (nth table j).1.velocity (λ k p q. e k (omega arith) (omega arith)) x.velocity;
      };
}

pub slot_same : (at : ℕ) (s s' : List Float) (table : Table State) → length table ≤ 3500 → ((k : ℕ) → at ≤ k → k < at + slot_room → get_or s' k nan ≡ get_or s k nan) → Slot s at table → Slot s' at table
slot_same at s s' table few e h = record {
  count = e at (omega arith) (omega arith) ∙ h.count;
  entries = entries_same (at + 1) s s' table (λ k p q. e k (omega arith) (omega arith)) h.entries;
}

-- ---- one window

serves_arc : (N n : ℕ) (keys : List ℤ) (states room : ℕ) → N ≤ 180 → n ≤ 5302 → states ≡ 6 * length keys → front_size N + work_size ≤ room → rising_seconds keys ≡ true
    → arc_serves N n keys states room ≡ true
unfolding arc_serves
serves_arc N n keys states room a b c d e = simp (le-leb N 180 a, le-leb n 5302 b, eq-eqb states (6 * length keys) c, le-leb (front_size N + work_size) room d, e)

-- at most 3,500 states of any run lie inside
pub inside_few : (a b : Float) → Ends a b → T (lt (b ⊖ a) longest) → (t0 : Float) (n : ℕ) → t0 ≡ start a → n ≡ steps a b → (run : Run) → length (inside t0 a b 0 (row run (n + 1))) ≤ 3500
inside_few a b e short t0 n et en run =
    subst (λ (t : Float). length (inside t a b 0 (row run (n + 1))) ≤ 3500) (sym et)
    (states_short a b e.from e.to (lt→le a b e.order) short 0 (row run (n + 1)) (let h = row_length run (n + 1) in omega (arith, h, en)))

-- the arc of a window shorter than 7,000 s
module _ (a b : Float) (fine : Fine a b) where
  pub steps_few : steps a b ≤ 5302
  steps_few = let h = steps_short a b fine.ends.from fine.ends.to (lt→le a b fine.ends.order) fine.short in omega (arith, h)

  module _ (x : ArcStruct) (e : x ≡ arc_between a b) where
    pub arc_is : x ≡ arc_struct (arc_of a b)
    arc_is = e ∙ arc_between_law a b fine.ends fine.short

    pub arc_start : x.t0 ≡ start a
    arc_start = ap (λ (y : ArcStruct). y.t0) arc_is

    pub arc_steps : x.steps ≡ steps a b
    arc_steps = ap (λ (y : ArcStruct). y.steps) arc_is

    pub arc_few : x.steps ≤ 5302
    arc_few = let q = arc_steps in omega (arith, q, steps_few)

    -- at most 3,500 states of any run lie inside
    pub arc_inside : (run : Run) → length (inside x.t0 a b 0 (row run (x.steps + 1))) ≤ 3500
    arc_inside run = inside_few a b fine.ends fine.short x.t0 x.steps arc_start arc_steps run

module _ (covered : Float → Bool) (full : Float → Vector → Vector) (look : Float → Option State) (a b : Float) (ends : Ends a b) where
  abbrev arc : ArcStruct
  arc = arc_struct (arc_of a b)

  abbrev table : Table State
  table = window_by covered full look a b

  -- a long window leaves none
  pub long_leaves : (s : List Float) (base at : ℕ) → lt (b ⊖ a) longest ≡ false → Leaves table s s base at 0
  unfolding window_by
  long_leaves s base at e = subst (λ (t : Table State). Leaves t s s base at 0) (sym none) (record {
    entries = record { each = λ j l. absurd (omega arith) };
    counted = refl;
    few = omega arith;
    apart = record { long = refl; same = λ k p q. refl };
  })
    where
      none : window_by covered full look a b ≡ []
      none = rw e refl

  short_table : T (lt (b ⊖ a) longest) → (answer : Fit) → answer ≡ fit_of covered full look arc → table ≡ inside (start a) a b 0 (states_of answer (orbit_of full look arc) (steps a b))
  unfolding window_by
  short_table short answer e = rw (is_true (lt (b ⊖ a) longest) short) (ap (λ (x : Fit). inside (start a) a b 0 (states_of x (orbit_of full look arc) (steps a b))) (sym e))

  pub fits_of : (N n : ℕ) (keys : List ℤ) (states : ℕ) (s s₁ : List Float) (base : ℕ) (t0 : Float) (answer : Fit) → t0 ≡ start a → n ≡ steps a b →
      N ≤ 180 → n ≤ 5302 → states ≡ 6 * length keys → base ≡ front_size N → base + work_size ≤ length s → rising_seconds keys ≡ true →
      ArcFit (arc_serves N n keys states (length s)) covered full look (record { t0 = t0; steps = n; node = a; period = b ⊖ a }) s s₁ (front_size N) answer → Fits covered full look arc s s₁ base answer
  fits_of N n keys states s s₁ base t0 answer et en dn ln es eb room rise f =
      subst (λ (k : ℕ). Fits covered full look arc s s₁ k answer) (sym eb)
      (subst (λ (x : ArcStruct). Fits covered full look x s s₁ (front_size N) answer) (λ i. record { t0 = et i; steps = en i; node = a; period = b ⊖ a })
      (f.fits (serves_arc N n keys states (length s) dn ln es (omega (arith, eb)) rise)))

  -- a fit that is refused leaves none
  pub refused_leaves : T (lt (b ⊖ a) longest) → (s s₁ : List Float) (base at : ℕ) (answer : Fit) (code : Refusal) → answer ≡ Err code → base + work_size ≤ at
      → Fits covered full look arc s s₁ base answer → Leaves table s s₁ base at 0
  unfolding inside
  refused_leaves short s s₁ base at answer code e l f = subst (λ (t : Table State). Leaves t s s₁ base at 0) (sym none) (record {
    entries = record { each = λ j h. absurd (omega arith) };
    counted = refl;
    few = omega arith;
    apart = record { long = f.only.long; same = λ k p q. f.only.same k (λ u v. omega arith) };
  })
    where
      none : table ≡ []
      none = short_table short (Err code) (sym e ∙ f.said)

  -- else those of its states that lie inside
  pub fitted_leaves : T (lt (b ⊖ a) longest) → (s s₁ s₂ : List Float) (base at n r : ℕ) (t0 : Float) (answer : Fit) (x : Float) → answer ≡ Ok x → t0 ≡ start a → n ≡ steps a b
      → base + work_size ≤ at →
      Fits covered full look arc s s₁ base answer → Keeps t0 a b n s₁ s₂ base at r → Leaves table s s₂ base at r
  fitted_leaves short s s₁ s₂ base at n r t0 answer x e et en l f k = subst (λ (t : Table State). Leaves t s s₂ base at r) (sym is) (record {
    entries = k.all run (subst (λ (m : ℕ). Orbit s₁ base run (m + 1)) (sym en) (f.states x e));
    counted = k.counted run;
    few = inside_few a b ends short t0 n et en run;
    apart = record {
      long = k.only.long ∙ f.only.long;
      same = λ i p q. k.only.same i q ∙ f.only.same i (λ u v. omega arith);
    };
  })
    where
      run : Run
      run = orbit_of full look arc

      is : table ≡ inside t0 a b 0 (row run (n + 1))
      is =
          short_table short (Ok x) (sym e ∙ f.said)
          ∙ ap (λ (t : Float). inside t a b 0 (row run (suc (steps a b)))) (sym et)
          ∙ ap (λ (m : ℕ). inside t0 a b 0 (row run m)) (let q = en in omega (arith, q))

-- the fit of a window over the lists of a track
pub track_fits : (t : Track) (a b : Float) → Fine a b → (s s₁ : List Float) (x : ArcStruct) (answer : Fit) → t.base + work_size ≤ length s → x ≡ arc_between a b →
    ArcFit (arc_serves t.model.degree x.steps t.states.keys.now (length t.states.values.now) (length s)) (covers t.model.field_times.now) (full_force (model_of t.model))
    (state_for (keyed_of t.states)) x s s₁ (front_size t.model.degree) answer →
    Fits (covers t.model.field_times.now) (full_force (model_of t.model)) (state_for (keyed_of t.states)) (arc_struct (arc_of a b)) s s₁ t.base answer
track_fits t a b fine s s₁ x answer room e f =
    let M = model_of t.model in
    let keys = t.states.keys.now in
    let many = length t.states.values.now in
    fits_of (covers t.model.field_times.now) (full_force M) (state_for (keyed_of t.states)) a b fine.ends t.model.degree (steps a b) keys many s s₁ t.base (start a) answer refl refl t.within
    (steps_few a b fine) t.six_each t.placed room t.rising
    (subst (λ (y : ArcStruct). ArcFit (arc_serves t.model.degree y.steps keys many (length s)) (covers t.model.field_times.now) (full_force M) (state_for (keyed_of t.states)) y s s₁
    (front_size t.model.degree) answer) (arc_is a b fine x e) f)

-- the count in front
pub windowed : (table : Table State) (s s₁ : List Float) (base at n : ℕ) (x : Float) → base + fit_room ≤ at → at + slot_room ≤ length s → x ≡ number n → Leaves table s s₁ base (at + 1) n
    → Windowed table s (set s₁ at x) base at
windowed table s s₁ base at n x l room ex f = record {
  slot = record {
    count = get_or-set_same s₁ at x nan (omega (arith, f.apart.long)) ∙ ex ∙ ap number f.counted;
    entries = entries_same (at + 1) s₁ (set s₁ at x) table (λ k p q. get_or-set_other s₁ at k x nan (λ e. omega arith)) f.entries;
  };
  few = f.few;
  apart = record {
    long = lib.ListN.length-set s₁ at x ∙ f.apart.long;
    same = λ k p q. get_or-set_other s₁ at k x nan (λ e. q (omega arith) (omega arith)) ∙ f.apart.same k p (λ u v. q (omega arith) (omega arith));
  };
}

-- ---- window after window

pub filled_none : (window : Float → Float → Table State) (nodes s : List Float) (base first : ℕ) → Filled window nodes 0 s s base first
filled_none window nodes s base first = record {
  slots = λ w l. absurd (omega arith);
  few = λ w l. absurd (omega arith);
  long = refl;
  same = λ k p q. refl;
}

pub filled_more : (window : Float → Float → Table State) (nodes : List Float) (w : ℕ) (s s₁ s₂ : List Float) (base first : ℕ) → base + fit_room ≤ first → Filled window nodes w s s₁ base first →
    Windowed (window (get_or nodes w nan) (get_or nodes (w + 1) nan)) s₁ s₂ base (first + window_room * w) → Filled window nodes (w + 1) s s₂ base first
filled_more window nodes w s s₁ s₂ base first l f g = record {
  slots = λ v h. by (eqb v w)
      (λ t. let e : v ≡ w = eqb-true v w t in
      subst (λ (i : ℕ). Slot s₂ (first + window_room * i) (window (get_or nodes i nan) (get_or nodes (i + 1) nan))) (sym e) g.slot)
      (λ t. let b : v < w = omega (arith, eqb-false v w t) in
      slot_same (first + window_room * v) s₁ s₂ (window (get_or nodes v nan) (get_or nodes (v + 1) nan)) (f.few v b) (λ k p q. g.apart.same k (omega arith) (λ x y. omega arith)) (f.slots v b));
  few = λ v h. by (eqb v w)
      (λ t. let e : v ≡ w = eqb-true v w t in
      subst (λ (i : ℕ). length (window (get_or nodes i nan) (get_or nodes (i + 1) nan)) ≤ 3500) (sym e) g.few)
      (λ t. let b : v < w = omega (arith, eqb-false v w t) in f.few v b);
  long = g.apart.long ∙ f.long;
  same = λ k p q. g.apart.same k p (λ x y. q w (omega arith) x y) ∙ f.same k p (λ v h x y. q v (omega arith) x y);
}

-- ---- the guard

pub ends_at : (nodes : List Float) → T (list_all is_time nodes) → T (rising nodes) → (w : ℕ) → w + 1 < length nodes → Ends (get_or nodes w nan) (get_or nodes (w + 1) nan)
ends_at [] t r w h = absurd (omega arith)
ends_at (a ∷ []) t r w h = absurd (omega arith)
ends_at (a ∷ b ∷ ns) t r zero h = record {
  from = time_says a (and_l (is_time a) (list_all is_time (b ∷ ns)) t);
  to = time_says b (and_l (is_time b) (list_all is_time ns) (and_r (is_time a) (list_all is_time (b ∷ ns)) t));
  order = and_l (lt a b) (rising (b ∷ ns)) r;
}
ends_at (a ∷ b ∷ ns) t r (suc w) h =
    subst (λ (i : ℕ). Ends (get_or (b ∷ ns) w nan) (get_or (a ∷ b ∷ ns) i nan)) (let e : suc (w + 1) ≡ suc w + 1 = omega arith in e)
    (ends_at (b ∷ ns) (and_r (is_time a) (list_all is_time (b ∷ ns)) t) (and_r (lt a b) (rising (b ∷ ns)) r) w (omega arith))

pub record Served (N : ℕ) (keys : List ℤ) (states : ℕ) (nodes : List Float) (satellite room : ℕ) : Type 0 where
  pub degree : N ≤ 180
  pub enough : front_size N + fit_room ≤ room
  pub slots : front_size N + fit_room + slot_room * satellite + window_room * length nodes ≤ room + (window_room + slot_room)
  pub one_of_two : satellite ≤ 1
  pub each : states ≡ 6 * length keys
  pub rises : rising_seconds keys ≡ true
  pub ends : (w : ℕ) → w + 1 < length nodes → Ends (get_or nodes w nan) (get_or nodes (w + 1) nan)

pub served : (N : ℕ) (keys : List ℤ) (states : ℕ) (nodes : List Float) (satellite room : ℕ) → windows_serve N keys states nodes satellite room ≡ true → Served N keys states nodes satellite room
unfolding windows_serve room_for
served N keys states nodes satellite room e =
    let t = subst T (sym e) tt in
    let r1 = leb N 180 in
    let r2 = leb (front_size N + fit_room) room in
    let r3 = leb (length nodes) ((room - (front_size N + fit_room)) / window_room + 1) in
    let s1 = leb satellite 1 in
    let s2 = eqb states (6 * length keys) in
    let o1 = rising_seconds keys in
    let o2 = list_all is_time nodes && rising nodes in
    let shape = and_l ((r1 && (r2 && r3)) && (s1 && s2)) (o1 && o2) t in
    let order = and_r ((r1 && (r2 && r3)) && (s1 && s2)) (o1 && o2) t in
    let rooms = and_l (r1 && (r2 && r3)) (s1 && s2) shape in
    let rest = and_r (r1 && (r2 && r3)) (s1 && s2) shape in
    let two = and_r r1 (r2 && r3) rooms in
    let times = and_r o1 o2 order in
    let h2 : front_size N + fit_room ≤ room = leb→le (front_size N + fit_room) room (and_l r2 r3 two) in
    let h3 : length nodes ≤ (room - (front_size N + fit_room)) / window_room + 1 = leb→le (length nodes) ((room - (front_size N + fit_room)) / window_room + 1) (and_r r2 r3 two) in
    let hs : satellite ≤ 1 = leb→le satellite 1 (and_l s1 s2 rest) in
    record {
      degree = leb→le N 180 (and_l r1 (r2 && r3) rooms);
      enough = h2;
      slots = omega (arith, h2, h3, hs);
      one_of_two = hs;
      each = eqb→eq states (6 * length keys) (and_r s1 s2 rest);
      rises = is_true o1 (and_l o1 o2 order);
      ends = ends_at nodes (and_l (list_all is_time nodes) (rising nodes) times) (and_r (list_all is_time nodes) (rising nodes) times);
    }

pub fit_filled : (window : Float → Float → Table State) (nodes s s' : List Float) (N satellite base : ℕ) (serves answer : Bool) → answer ≡ serves → answer ≡ true → base ≡ front_size N →
    Filled window nodes (length nodes - 1) s s' base (base + fit_room + slot_room * satellite) → WindowsFit serves window nodes s s' (front_size N) satellite answer
fit_filled window nodes s s' N satellite base serves answer e t eb f = record {
  says = e;
  filled = λ h. subst (λ (m : ℕ). Filled window nodes (length nodes - 1) s s' (front_size N) m) (omega arith)
      (subst (λ (m : ℕ). Filled window nodes (length nodes - 1) s s' m (m + fit_room + slot_room * satellite)) eb f);
  unfit = λ h. absurd (false≢true (sym h ∙ sym e ∙ t));
}
