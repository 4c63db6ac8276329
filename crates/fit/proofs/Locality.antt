-- A fit reads its model and its states at the arc's own times only: where two agree there, the fits are the same.
use Rattle.std.specs.Prelude.{None, Option, Some}
use Rattle.std.proofs.Common.{◌≡◌, ℕ, zero, suc, ◌+◌, ◌*◌, ◌/◌, ◌%◌, ◌<◌, ◌≤◌, Bool, List, ◌++◌, length, refl, ap, ◌∙◌, arith}
use lib.Ieee.{Float}
use Rattle.vectors.specs.declared.Vector.{Vector}
use Rattle.integrate.specs.declared.kernel.State.{State}
use Rattle.integrate.specs.declared.kernel.Arc.{Arc}
use Rattle.fit.specs.Fit.{Observed, axis, nth, seen, observed_to, observed, start_of, misfit_at, misfits_of, design_at, misfits_at, improved, regular, rms_at, fitted_from, fit_from, fit_of, held, orbit_of}
use Rattle.fit.specs.WorkLeaves.{Within}
use Rattle.fit.proofs.Steps.{within}
use Rattle.forces.specs.Forces.{empirical_of, fictitious_of}
use Rattle.integrate.specs.Force.{acceleration_of, argument_of, run_of, strengths_of}
use Rattle.integrate.specs.Room.{state_in}
use Rattle.integrate.specs.Steps.{Acceleration, state_at, step_of}
use Rattle.laws.specs.Floats.{◌⊕◌, ◌⊖◌, ◌⊘◌, two64}
use Rattle.laws.specs.Tables.{row_same}
use Rattle.laws.specs.Times.{step_time}
use Rattle.vectors.specs.Vector.{plus}

-- two accelerations agree at a step's three times
pub record AgreeAt (a a' : Float → Vector → Vector → Vector) (t : Float) : Type 0 where
  pub start : (x v : Vector) → a t x v ≡ a' t x v
  pub middle : (x v : Vector) → a (t ⊕ two64 ⊘ two64) x v ≡ a' (t ⊕ two64 ⊘ two64) x v
  pub end : (x v : Vector) → a (t ⊕ two64) x v ≡ a' (t ⊕ two64) x v

step_same : (a a' : Acceleration) (t : Float) (s : State) → AgreeAt a a' t → step_of a t s ≡ step_of a' t s
unfolding step_of
step_same a a' t s h = let h₀ = h.start in let h₁ = h.middle in let h₂ = h.end in simp (h₀, h₁, h₂)

state_same : (a a' : Acceleration) (t0 : Float) (s : State) (n : ℕ) → ((k : ℕ) → k < n → AgreeAt a a' (step_time t0 k)) → state_at a t0 s n ≡ state_at a' t0 s n
unfolding state_at
state_same a a' t0 s zero h = refl
state_same a a' t0 s (suc n) h =
    step_same a a' (step_time t0 n) (state_at a t0 s n) (h n (omega arith))
    ∙ ap (step_of a' (step_time t0 n)) (state_same a a' t0 s n (λ k l. h k (omega arith)))

-- two attractions agree at the times of an arc
pub record Agree (full full' : Float → Vector → Vector) (arc : Arc) : Type 0 where
  pub start : (k : ℕ) → k < arc.steps → (x : Vector) → full (step_time arc.t0 k) x ≡ full' (step_time arc.t0 k) x
  pub middle : (k : ℕ) → k < arc.steps → (x : Vector) → full (step_time arc.t0 k ⊕ two64 ⊘ two64) x ≡ full' (step_time arc.t0 k ⊕ two64 ⊘ two64) x
  pub end : (k : ℕ) → k < arc.steps → (x : Vector) → full (step_time arc.t0 k ⊕ two64) x ≡ full' (step_time arc.t0 k ⊕ two64) x

module _ (full full' : Float → Vector → Vector) (arc : Arc) (g : Agree full full' arc) where
  run_same : (p : List Float) (n : ℕ) → n ≤ arc.steps → run_of full arc p n ≡ run_of full' arc p n
  unfolding run_of acceleration_of
  run_same p n l =
      let rest : Float → Vector → Vector → Vector = λ t x v. plus (fictitious_of x v) (empirical_of x v (argument_of arc t) (strengths_of p)) in
      state_same (acceleration_of full arc (strengths_of p)) (acceleration_of full' arc (strengths_of p)) arc.t0 (state_in p 0) n
      (λ k h. record {
        start = λ x v. ap (λ (y : Vector). plus y (rest (step_time arc.t0 k) x v)) (g.start k (omega arith) x);
        middle = λ x v. ap (λ (y : Vector). plus y (rest (step_time arc.t0 k ⊕ two64 ⊘ two64) x v)) (g.middle k (omega arith) x);
        end = λ x v. ap (λ (y : Vector). plus y (rest (step_time arc.t0 k ⊕ two64) x v)) (g.end k (omega arith) x);
      })

  module _ (obs : List Observed) (w : Within obs arc.steps) where
    misfits_same : (p : List Float) → misfits_at full arc obs p ≡ misfits_at full' arc obs p
    unfolding misfits_at misfits_of misfit_at
    misfits_same p =
        row_same (misfit_at (run_of full arc p) obs) (misfit_at (run_of full' arc p) obs) (3 * length obs)
        (λ r h. ap (λ (s : State). axis (r % 3) (nth obs (r / 3)).place ⊖ axis (r % 3) s.position) (run_same p (nth obs (r / 3)).step (w (r / 3) (omega arith)).0))

    design_same : (p : List Float) → design_at full arc obs p ≡ design_at full' arc obs p
    unfolding design_at
    design_same p = refl

    improved_same : (p : List Float) → improved full arc obs p ≡ improved full' arc obs p
    unfolding improved
    improved_same p = simp (design_same p, misfits_same p)

    regular_same : (p : List Float) → regular full arc obs p ≡ regular full' arc obs p
    unfolding regular
    regular_same p = simp (design_same p, misfits_same p)

    rms_same : (p : List Float) → rms_at full arc obs p ≡ rms_at full' arc obs p
    unfolding rms_at
    rms_same p = simp (misfits_same p)

    fitted_same : (s : State) → fitted_from full arc obs s ≡ fitted_from full' arc obs s
    unfolding fitted_from
    fitted_same s =
        let p = start_of s in
        simp (regular_same p, improved_same p, regular_same (improved full' arc obs p), improved_same (improved full' arc obs p), rms_same (improved full' arc obs (improved full' arc obs p)))

    from_same : (h : Option State) → fit_from full arc obs h ≡ fit_from full' arc obs h
    from_same (Some s) = fitted_same s
    from_same None = refl

-- two look-ups agree at every fifth step
observed_same : (look look' : Float → Option State) (t0 : Float) (c : ℕ) → ((k : ℕ) → k < c → look (step_time t0 (5 * k)) ≡ look' (step_time t0 (5 * k))) → observed_to look t0 c ≡ observed_to look' t0 c
unfolding observed_to
observed_same look look' t0 zero h = refl
observed_same look look' t0 (suc c) h =
    ap (λ (l : List Observed). l ++ seen (5 * c) (look (step_time t0 (5 * c)))) (observed_same look look' t0 c (λ k l. h k (omega arith)))
    ∙ ap (λ (x : Option State). observed_to look' t0 c ++ seen (5 * c) x) (h c (omega arith))

-- what a fit reads of two models and two tables is the same
pub record SameReads (covered covered' : Float → Bool) (full full' : Float → Vector → Vector) (look look' : Float → Option State) (arc : Arc) : Type 0 where
  pub first : covered arc.t0 ≡ covered' arc.t0
  pub last : covered (step_time arc.t0 arc.steps) ≡ covered' (step_time arc.t0 arc.steps)
  pub force : Agree full full' arc
  pub start : look arc.t0 ≡ look' arc.t0
  pub places : (c : ℕ) → c < arc.steps / 5 + 1 → look (step_time arc.t0 (5 * c)) ≡ look' (step_time arc.t0 (5 * c))

module _ (covered covered' : Float → Bool) (full full' : Float → Vector → Vector) (look look' : Float → Option State) (arc : Arc) (l : arc.steps ≤ 5302)
    (r : SameReads covered covered' full full' look look' arc) where
  places_same : observed look arc ≡ observed look' arc
  unfolding observed
  places_same = observed_same look look' arc.t0 (arc.steps / 5 + 1) r.places

  -- the answer is the same
  pub fit_same : fit_of covered full look arc ≡ fit_of covered' full' look' arc
  unfolding fit_of
  fit_same = simp (r.first, r.last, places_same, r.start, from_same full full' arc r.force (observed look' arc) (within look' arc l) (look' arc.t0))

  -- and so is each state
  pub orbit_same : (n : ℕ) → n ≤ arc.steps → orbit_of full look arc n ≡ orbit_of full' look' arc n
  unfolding orbit_of
  orbit_same n h =
      let obs = observed look' arc in
      let w = within look' arc l in
      let p = start_of (held (look' arc.t0)) in
      simp (places_same, r.start, improved_same full full' arc r.force obs w p, improved_same full full' arc r.force obs w (improved full' arc obs p))
      (run_same full full' arc r.force (improved full' arc obs (improved full' arc obs p)) n h)
