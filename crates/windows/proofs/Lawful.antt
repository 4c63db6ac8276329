-- The fit obeys the law that the theorem on final entries asks of it: at most one state a step, and nothing read but at the arc's own times. Assumes nothing.
use Rattle.std.proofs.Common.{◌≡◌, ℕ, suc, ◌*◌, ◌<◌, ◌≤◌, Bool, true, false, cond, T, leb, List, [], length, ℤ, sym, refl, ap, ◌∙◌, le_of_eq, le_refl, arith, leb→le}
use Rattle.std.specs.Prelude.{Option, Err, Ok}
use lib.Ieee.{Float, div, of_bits}
use Rattle.inputs.specs.Inputs.{Fixed}
use Rattle.laws.specs.Floats.{◌⊕◌, ◌⊘◌, two64}
use Rattle.laws.specs.Times.{second, step, step_time}
use Rattle.laws.specs.Tables.{row_length, row_same}
use Rattle.finality.specs.Arcs.{Arc, half_step}
use Rattle.finality.proofs.ArcFits.{LawfulFit}
use Rattle.vectors.specs.Vector.{plus}
use Rattle.vectors.specs.declared.Vector.{Vector}
use Rattle.forces.specs.Forces.{tides_of}
use Rattle.integrate.specs.Room.{Run}
use Rattle.integrate.specs.declared.kernel.State.{State}
use Rattle.fit.specs.Fit.{Fit, fit_of, orbit_of}
use Rattle.fit.proofs.Locality.{Agree, SameReads, fit_same, orbit_same}
use Rattle.windows.specs.Stage.{field_gravity, full_of, arc_struct, look_of, states_of, fit_from, fit_stage}

-- ---- lists of states

states_length : (r : Fit) (run : Run) (n : ℕ) → length (states_of r run n) ≤ suc n
states_length (Ok rms) run n = le_of_eq (row_length run (suc n))
states_length (Err k) run n = omega arith

pub states_same : (r r' : Fit) (run run' : Run) (n : ℕ) → r ≡ r' → ((k : ℕ) → k < suc n → run k ≡ run' k) → states_of r run n ≡ states_of r' run' n
states_same r r' run run' n e h = each r ∙ ap (λ (q : Fit). states_of q run' n) e
  where
    each : (q : Fit) → states_of q run n ≡ states_of q run' n
    each (Ok rms) = row_same run run' (suc n) h
    each (Err k) = refl

-- ---- what a fit reads

-- half a step is 1 s
half_step_law : two64 ⊘ two64 ≡ half_step
unfolding div of_bits
half_step_law = refl

module _ (S : Fixed) (c c' : Float → Bool) (m m' : Float → List Float) (g g' : ℤ → Option State) (arc : Arc)
    (first : c arc.t0 ≡ c' arc.t0) (start : g (second arc.t0) ≡ g' (second arc.t0))
    (covers : (i : ℕ) → i ≤ arc.steps → c (step_time arc.t0 i) ≡ c' (step_time arc.t0 i))
    (at_step : (i : ℕ) → i < arc.steps → m (step_time arc.t0 i) ≡ m' (step_time arc.t0 i))
    (at_half : (i : ℕ) → i < arc.steps → m (step_time arc.t0 i ⊕ half_step) ≡ m' (step_time arc.t0 i ⊕ half_step))
    (at_next : (i : ℕ) → i < arc.steps → m (step_time arc.t0 i ⊕ step) ≡ m' (step_time arc.t0 i ⊕ step))
    (states : (i : ℕ) → i ≤ arc.steps → g (second (step_time arc.t0 i)) ≡ g' (second (step_time arc.t0 i))) where
  pull : (t : Float) (x : Vector) → m t ≡ m' t → full_of S m t x ≡ full_of S m' t x
  pull t x e = ap (λ (f : List Float). plus (field_gravity S f x) (tides_of t x)) e

  at_halves : (k : ℕ) → k < arc.steps → m (step_time arc.t0 k ⊕ two64 ⊘ two64) ≡ m' (step_time arc.t0 k ⊕ two64 ⊘ two64)
  at_halves k h =
      let e : step_time arc.t0 k ⊕ two64 ⊘ two64 ≡ step_time arc.t0 k ⊕ half_step = ap (λ (h : Float). step_time arc.t0 k ⊕ h) half_step_law in
      ap m e ∙ at_half k h ∙ ap m' (sym e)

  agree : Agree (full_of S m) (full_of S m') (arc_struct arc)
  agree = record {
    start = λ k h x. pull (step_time arc.t0 k) x (at_step k h);
    middle = λ k h x. pull (step_time arc.t0 k ⊕ two64 ⊘ two64) x (at_halves k h);
    end = λ k h x. pull (step_time arc.t0 k ⊕ two64) x (at_next k h);
  }

  held_same : (t : Float) → g (second t) ≡ g' (second t) → look_of g t ≡ look_of g' t
  held_same t e = e

  same_reads : SameReads c c' (full_of S m) (full_of S m') (look_of g) (look_of g') (arc_struct arc)
  same_reads = record {
    first = first;
    last = covers arc.steps (le_refl arc.steps);
    force = agree;
    start = held_same arc.t0 start;
    places = λ n h. held_same (step_time arc.t0 (5 * n)) (states (5 * n) (omega arith));
  }

  fit_reads_same : fit_stage S c m g arc ≡ fit_stage S c' m' g' arc
  unfolding fit_from
  fit_reads_same = go (leb arc.steps 5302) (leb→le arc.steps 5302)
    where
      go : (b : Bool) → (T b → arc.steps ≤ 5302) →
          cond b (states_of (fit_of c (full_of S m) (look_of g) (arc_struct arc)) (orbit_of (full_of S m) (look_of g) (arc_struct arc)) arc.steps) []
          ≡ cond b (states_of (fit_of c' (full_of S m') (look_of g') (arc_struct arc)) (orbit_of (full_of S m') (look_of g') (arc_struct arc)) arc.steps) []
      go false h = refl
      go true h =
          states_same _ _ _ _ arc.steps
          (fit_same c c' (full_of S m) (full_of S m') (look_of g) (look_of g') (arc_struct arc) (h tt) same_reads)
          (λ k l. orbit_same c c' (full_of S m) (full_of S m') (look_of g) (look_of g') (arc_struct arc) (h tt) same_reads k (omega arith))

fit_length : (S : Fixed) (c : Float → Bool) (m : Float → List Float) (g : ℤ → Option State) (arc : Arc) → length (fit_stage S c m g arc) ≤ suc arc.steps
unfolding fit_from
fit_length S c m g arc = go (leb arc.steps 5302)
  where
    go : (b : Bool) → length (cond b (states_of (fit_of c (full_of S m) (look_of g) (arc_struct arc)) (orbit_of (full_of S m) (look_of g) (arc_struct arc)) arc.steps) []) ≤ suc arc.steps
    go true = states_length (fit_of c (full_of S m) (look_of g) (arc_struct arc)) (orbit_of (full_of S m) (look_of g) (arc_struct arc)) arc.steps
    go false = omega arith

pub lawful_fit : (S : Fixed) → LawfulFit (fit_stage S)
lawful_fit S = record { fit_length = fit_length S; fit_reads = fit_reads_same S }
