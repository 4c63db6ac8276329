-- Laws of the last run and of the whole fit.
use Rattle.slices.specs.declared.refusal.Refusal.{Refusal}
use Rattle.slices.specs.declared.refusal.Refusal.TheVariants.{Uncovered, TooFew, NoStart, Singular}
use Rattle.std.specs.Prelude.{Err, None, Ok, Option, Some, cond, refl, ok_or}
use Rattle.slices.specs.Calls.{accepted, tested}
use Rattle.std.proofs.Common.{◌≡◌, ℕ, ◌+◌, ◌*◌, ◌/◌, ◌%◌, ◌<◌, ◌≤◌, Bool, true, false, ltb, List, length, take, drop, sym, ap, ◌∙◌, subst, arith, ltb-false, ltb-true, le-ltb, lt-ltb}
use lib.Ieee.{Float}
use Rattle.vectors.specs.declared.Vector.{Vector}
use Rattle.integrate.specs.declared.kernel.State.{State}
use Rattle.integrate.specs.declared.kernel.Arc.{Arc}
use Rattle.integrate.specs.declared.kernel.Force.TheVariants.{Full}
use Rattle.fit.specs.Fit.{Fit, Observed, axis, observed, start_of, misfits_of, misfits_at, improved, regular, rms_of, rms_at, fitted_from, fit_of, orbit_of}
use Rattle.fit.specs.Room.{observed_part, base_part, misfit_part, design_part, work_size, Observes, step_at, place_at, run_at}
use Rattle.fit.specs.WorkLeaves.{Measured, Apart, Within, Rounded, Finished, FitFrom, Fits, Observing}
use Rattle.fit.proofs.Columns.{run_reads, step_past, place_past, apart_then}
use Rattle.fit.proofs.Rounds.{misfit_list, full_is}
use Rattle.fit.proofs.Steps.{within}
use Rattle.integrate.proofs.Places.{only_same, only_then, stays3}
use Rattle.inputs.specs.Inputs.{Model}
use Rattle.integrate.specs.Force.{attraction_of, full_force, run_of}
use Rattle.integrate.specs.Room.{Only, Orbit, Run}
use Rattle.laws.specs.Floats.{◌⊖◌}
use Rattle.laws.specs.Bools.{by}
use Rattle.laws.specs.Times.{step_time}

pub orbit_stays : (a e b m : ℕ) (s s' : List Float) (run : Run) → Only a e s s' → b + 6 * m ≤ a → Orbit s b run m → Orbit s' b run m
orbit_stays a e b m s s' run o h w = record {
  position = λ k l. stays3 a e (b + 6 * k) s s' (run k).position o (w.position k l) (λ i p q u v. omega arith);
  velocity = λ k l. stays3 a e (b + 6 * k + 3) s s' (run k).velocity o (w.velocity k l) (λ i p q u v. omega arith);
}

pub observes_apart : (b : ℕ) (s s' : List Float) (obs : List Observed) → length obs ≤ 1061 → Apart s s' b base_part → Observes s (b + observed_part) obs → Observes s' (b + observed_part) obs
observes_apart b s s' obs n o w = record {
  step = λ j l. o.same (b + observed_part + 4 * j) (omega arith) (λ p q. omega arith) ∙ w.step j l;
  place = λ j l. record {
    x = o.same (b + observed_part + 4 * j + 1) (omega arith) (λ p q. omega arith) ∙ (w.place j l).x;
    y = o.same (b + observed_part + 4 * j + 1 + 1) (omega arith) (λ p q. omega arith) ∙ (w.place j l).y;
    z = o.same (b + observed_part + 4 * j + 1 + 2) (omega arith) (λ p q. omega arith) ∙ (w.place j l).z;
  };
}

-- the last run and its misfits
pub finished : (M : Model) (arc : Arc) (p s s₁ s₂ : List Float) (b n k : ℕ) (x : Float) → n ≤ 1061 → arc.steps ≤ 5302 → k ≡ 3 * n → b + work_size ≤ length s →
    Orbit s₁ b (run_of (attraction_of Full M) arc p) (arc.steps + 1) → Only 0 (b + observed_part) s s₁ → Measured s₁ s₂ b (3 * n) → x ≡ rms_of (take k (drop (b + misfit_part) s₂)) →
    Finished (full_force M) arc p s s₂ b n x
unfolding rms_at misfits_at
finished M arc p s s₁ s₂ b n k x l ls ek room o u me ex =
    let full = run_of (attraction_of Full M) arc p in
    record {
      said = λ obs lo ob w.
          ex ∙ ap rms_of (misfit_list full s s₂ b n k arc.steps obs ek lo l (omega (arith, me.only.long, u.long)) ob w
          (λ r h low. let e : step_at s₁ b r ≡ step_at s b r = step_past b s s₁ u r in
          me.rows r h
          ∙ ap (λ (v : Float). v ⊖ run_at s₁ b r) (place_past b s s₁ u r)
          ∙ ap (λ (v : Float). place_at s b r ⊖ v) (run_reads s₁ b full arc.steps r o (omega arith) ∙ ap (λ (m : ℕ). axis (r % 3) (full m).position) e))
          ∙ ap (λ (pull : Float → Vector → Vector). misfits_of (run_of pull arc p) obs) (full_is M));
      states = subst (λ (pull : Float → Vector → Vector). Orbit s₂ b (run_of pull arc p) (arc.steps + 1)) (full_is M)
          (orbit_stays (b + misfit_part) (b + design_part) b (arc.steps + 1) s₁ s₂ full me.only (omega arith) o);
      apart = record {
        long = me.only.long ∙ u.long;
        same = λ m a f. me.only.same m (λ p' q. f (omega arith) (omega arith)) ∙ u.same m (λ p' q. omega arith);
      };
    }

beyond : (k e : ℕ) → (0 ≤ k → k < e → ⊥) → e ≤ k
beyond k e z = by (ltb k e) (λ t. absurd (z (omega arith) (ltb-true k e t))) (λ t. ltb-false k e t)

no_rms : {P : Type 0} (x : Float) (e : Refusal) → Err e ≡ Ok x → P
no_rms x e h = absurd (cc)

-- what `ok_or` says of its option
pub none_refused : {A : Type 0} (o : Option A) (e f : Refusal) → ok_or o e ≡ Err f → (o ≡ None) × (f ≡ e)
none_refused (Some x) e f h = absurd (cc)
none_refused None e f h = (refl, cc)

pub some_found : {A : Type 0} (o : Option A) (e : Refusal) (x : A) → ok_or o e ≡ Ok x → o ≡ Some x
some_found (Some y) e x h = cc
some_found None e x h = absurd (cc)

-- what a test says
pub passed_is : (b : Bool) (e : Refusal) → tested b e ≡ accepted → b ≡ true
passed_is true e h = refl
passed_is false e h = absurd (cc)

pub failed_is : (b : Bool) (e f : Refusal) → tested b e ≡ Err f → (b ≡ false) × (f ≡ e)
failed_is true e f h = absurd (cc)
failed_is false e f h = (refl, cc)

-- what an answer that is none, or one, says of its test
none_says : (b : Bool) (x : List Float) → None ≡ cond b (Some x) None → b ≡ false
none_says true x h = absurd (cc)
none_says false x h = refl

some_says : (b : Bool) (x y : List Float) → Some y ≡ cond b (Some x) None → (b ≡ true) × (y ≡ x)
some_says true x y h = (refl, cc)
some_says false x y h = absurd (cc)

module _ (full : Float → Vector → Vector) (arc : Arc) (start : State) (p s s₁ : List Float) (b n : ℕ) (l : n ≤ 1061) (hp : p ≡ start_of start)
    (e : Option (List Float)) (r₁ : Rounded full arc p s s₁ b n e) where
  module _ (obs : List Observed) (lo : length obs ≡ n) (o : Observes s (b + observed_part) obs) (w : Within obs arc.steps) where
    first : e ≡ cond (regular full arc obs (start_of start)) (Some (improved full arc obs (start_of start))) None
    first = r₁.said obs lo o w ∙ (λ i. cond (regular full arc obs (hp i)) (Some (improved full arc obs (hp i))) None)

    kept : Observes s₁ (b + observed_part) obs
    kept = observes_apart b s s₁ obs (omega arith) r₁.apart o

  pub first_bad : e ≡ None → FitFrom full arc start s s₁ b n (Err Singular)
  unfolding fitted_from
  first_bad g = record {
    said = λ obs lo o w. sym (simp (none_says _ _ (sym g ∙ first obs lo o w)));
    states = λ obs lo o w x f. no_rms x Singular f;
    apart = r₁.apart;
  }

  module _ (q : List Float) (g : e ≡ Some q) (s₂ : List Float) (e₂ : Option (List Float)) (r₂ : Rounded full arc q s₁ s₂ b n e₂) where
    module _ (obs : List Observed) (lo : length obs ≡ n) (o : Observes s (b + observed_part) obs) (w : Within obs arc.steps) where
      good : (regular full arc obs (start_of start) ≡ true) × (q ≡ improved full arc obs (start_of start))
      good = some_says _ _ q (sym g ∙ first obs lo o w)

      second : e₂ ≡ cond (regular full arc obs (improved full arc obs (start_of start))) (Some (improved full arc obs (improved full arc obs (start_of start)))) None
      second = r₂.said obs lo (kept obs lo o w) w ∙ (λ i. cond (regular full arc obs (good.1 i)) (Some (improved full arc obs (good.1 i))) None)

    pub second_bad : e₂ ≡ None → FitFrom full arc start s s₂ b n (Err Singular)
    unfolding fitted_from
    second_bad h = record {
      said = λ obs lo o w. sym (simp ((good obs lo o w).0, none_says _ _ (sym h ∙ second obs lo o w)));
      states = λ obs lo o w x f. no_rms x Singular f;
      apart = apart_then s s₁ s₂ b base_part base_part base_part r₁.apart r₂.apart (omega arith) (omega arith);
    }

    pub both_good : (q₂ : List Float) → e₂ ≡ Some q₂ → (s₃ : List Float) (x : Float) → Finished full arc q₂ s₂ s₃ b n x → FitFrom full arc start s s₃ b n (Ok x)
    unfolding fitted_from
    both_good q₂ h s₃ x f =
        let best : (obs : List Observed) → length obs ≡ n → Observes s (b + observed_part) obs → Within obs arc.steps →
        (regular full arc obs (improved full arc obs (start_of start)) ≡ true) × (q₂ ≡ improved full arc obs (improved full arc obs (start_of start))) =
        λ obs lo o w. some_says _ _ q₂ (sym h ∙ second obs lo o w) in
        record {
          said = λ obs lo o w.
              ap Ok (f.said obs lo (observes_apart b s₁ s₂ obs (omega arith) r₂.apart (kept obs lo o w)) w ∙ ap (rms_at full arc obs) (best obs lo o w).1)
              ∙ sym (simp ((good obs lo o w).0, (best obs lo o w).0));
          states = λ obs lo o w y z. subst (λ (z : List Float). Orbit s₃ b (run_of full arc z) (arc.steps + 1)) (best obs lo o w).1 f.states;
          apart = apart_then s s₂ s₃ b base_part base_part base_part (apart_then s s₁ s₂ b base_part base_part base_part r₁.apart r₂.apart (omega arith) (omega arith)) f.apart (omega arith)
              (omega arith);
        }

-- ---- the whole fit

module _ (covered : Float → Bool) (full : Float → Vector → Vector) (look : Float → Option State) (arc : Arc) (s : List Float) (b : ℕ) where
  pub first_uncovered : covered arc.t0 ≡ false → Fits covered full look arc s s b (Err Uncovered)
  unfolding fit_of
  first_uncovered h = record { said = sym (simp h); states = λ x e. no_rms x Uncovered e; only = only_same 0 (b + work_size) s }

  pub last_uncovered : (t : Float) → t ≡ step_time arc.t0 arc.steps → covered arc.t0 ≡ true → covered t ≡ false → Fits covered full look arc s s b (Err Uncovered)
  unfolding fit_of
  last_uncovered t e g h = record { said = sym (simp (g, ap covered (sym e) ∙ h)); states = λ x f. no_rms x Uncovered f; only = only_same 0 (b + work_size) s }

  module _ (t : Float) (et : t ≡ step_time arc.t0 arc.steps) (g : covered arc.t0 ≡ true) (h : covered t ≡ true) (ls : arc.steps ≤ 5302) (s₁ : List Float) (n : ℕ)
      (ob : Observing s s₁ b (observed look arc) n) where
    ends : covered (step_time arc.t0 arc.steps) ≡ true
    ends = ap covered (sym et) ∙ h

    pub few : n < arc.steps / 10 → Fits covered full look arc s s₁ b (Err TooFew)
    unfolding fit_of
    few l = record {
      said = sym (simp (g, ends, lt-ltb (length (observed look arc)) (arc.steps / 10) (omega (arith, ob.counted))));
      states = λ x e. no_rms x TooFew e;
      only = only_then 0 (b + work_size) (b + observed_part) (b + base_part) 0 (b + work_size) s s₁ s₁ ob.only (only_same 0 (b + work_size) s₁) (omega arith) (omega arith) (omega arith) (omega arith);
    }

    pub no_start : arc.steps / 10 ≤ n → look arc.t0 ≡ None → Fits covered full look arc s s₁ b (Err NoStart)
    unfolding fit_of
    no_start l e = record {
      said = sym (simp (g, ends, le-ltb (length (observed look arc)) (arc.steps / 10) (omega (arith, ob.counted)), e));
      states = λ x f. no_rms x NoStart f;
      only = only_then 0 (b + work_size) (b + observed_part) (b + base_part) 0 (b + work_size) s s₁ s₁ ob.only (only_same 0 (b + work_size) s₁) (omega arith) (omega arith) (omega arith) (omega arith);
    }

    pub started : arc.steps / 10 ≤ n → (state : State) → look arc.t0 ≡ Some state → (s₂ : List Float) (answer : Fit) → FitFrom full arc state s₁ s₂ b n answer
        → Fits covered full look arc s s₂ b answer
    unfolding fit_of orbit_of
    started l state e s₂ answer f = record {
      said = f.said (observed look arc) (sym ob.counted) ob.all (within look arc ls)
          ∙ sym (simp (g, ends, le-ltb (length (observed look arc)) (arc.steps / 10) (omega (arith, ob.counted)), e));
      states = λ x q. simp e (f.states (observed look arc) (sym ob.counted) ob.all (within look arc ls) x q);
      only = record {
        long = f.apart.long ∙ ob.only.long;
        same = λ k z. f.apart.same k (omega (arith, beyond k (b + work_size) z)) (λ p q. z (omega arith) q) ∙ ob.only.same k (λ p q. z (omega arith) (omega arith));
      };
    }
