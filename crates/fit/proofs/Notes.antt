-- Laws of the observations in scratch.
use Rattle.std.specs.Prelude.{None, Option, Some}
use Rattle.std.proofs.Common.{◌≡◌, ℕ, ◌+◌, ◌*◌, ◌/◌, ◌<◌, ◌≤◌, eqb, List, [], ◌∷◌, ◌++◌, length, get_or, set, sym, refl, ap, ◌∙◌, subst, append-nil, add-one, arith, length-append, length-set, get_or-set_same, eqb-true}
use lib.Ieee.{Float, nan}
use lib.ListN.{get_or-append}
use lib.Seq.{get_or_at}
use borrow.Author.Tests.{eqb-false}
use Rattle.vectors.specs.declared.Vector.{Vector}
use Rattle.integrate.specs.declared.kernel.State.{State}
use Rattle.integrate.specs.declared.kernel.Arc.{Arc}
use Rattle.fit.specs.Fit.{Observed, nth, seen, observed_to, observed}
use Rattle.fit.specs.Room.{observed_part, base_part, Observes}
use Rattle.fit.specs.WorkLeaves.{Stored, Noted, Observing}
use Rattle.fit.proofs.Rows.{set_only}
use Rattle.integrate.proofs.Places.{only_same, only_then, stays3}
use Rattle.integrate.specs.Room.{Holds3, Only}
use Rattle.integrate.specs.Work.{Placed}
use Rattle.laws.specs.WholeNumbers.{number}
use Rattle.laws.specs.Bools.{by}
use Rattle.laws.specs.Times.{step_time}

pub stored : (s s' : List Float) (at k : ℕ) (v : Vector) (x : Float) → at + 4 ≤ length s → x ≡ number k → Placed (set s at x) s' (at + 1) v → Stored s s' at k v
stored s s' at k v x h e p = record {
  step = p.only.same at (λ a b. omega arith) ∙ get_or-set_same s at x nan (omega arith) ∙ e;
  place = p.here (simp length-set (omega arith));
  only = only_then at (at + 4) at (at + 1) (at + 1) (at + 1 + 3) s (set s at x) s' (set_only s at x) p.only (omega arith) (omega arith) (omega arith) (omega arith);
}

-- the last of a list that is longer by one, and the others
nth_last : (obs : List Observed) (o : Observed) (j : ℕ) → j ≡ length obs → nth (obs ++ (o ∷ [])) j ≡ o
nth_last obs o j e = get_or_at obs o [] _ j (sym e)

nth_before : (obs : List Observed) (o : Observed) (j : ℕ) → j < length obs → nth (obs ++ (o ∷ [])) j ≡ nth obs j
nth_before obs o j h = get_or-append obs (o ∷ []) _ j h

-- one observation more
pub observes_more : (s s' : List Float) (at : ℕ) (obs : List Observed) (o : Observed) → Observes s at obs → Stored s s' (at + 4 * length obs) o.step o.place → Observes s' at (obs ++ (o ∷ []))
observes_more s s' at obs o h w =
    let long : length (obs ++ (o ∷ [])) ≡ length obs + 1 = length-append obs (o ∷ []) in
    record {
      step = λ j l. by (eqb j (length obs))
          (λ t. let e : j ≡ length obs = eqb-true j (length obs) t in
          ap (λ (n : ℕ). get_or s' (at + 4 * n) nan) e ∙ w.step ∙ ap (λ (x : Observed). number x.step) (sym (nth_last obs o j e)))
          (λ t. let b : j < length obs = omega (arith, eqb-false j (length obs) t) in
          w.only.same (at + 4 * j) (λ p q. omega arith) ∙ h.step j b ∙ ap (λ (x : Observed). number x.step) (sym (nth_before obs o j b)));
      place = λ j l. by (eqb j (length obs))
          (λ t. let e : j ≡ length obs = eqb-true j (length obs) t in
          subst (λ (x : Observed). Holds3 s' (at + 4 * j + 1) x.place) (sym (nth_last obs o j e)) (subst (λ (n : ℕ). Holds3 s' (at + 4 * n + 1) o.place) (sym e) w.place))
          (λ t. let b : j < length obs = omega (arith, eqb-false j (length obs) t) in
          subst (λ (x : Observed). Holds3 s' (at + 4 * j + 1) x.place) (sym (nth_before obs o j b))
          (stays3 (at + 4 * length obs) (at + 4 * length obs + 4) (at + 4 * j + 1) s s' (nth obs j).place w.only (h.place j b) (λ k p q u v. omega arith)));
    }

pub observes_none : (s : List Float) (at : ℕ) → Observes s at []
observes_none s at = record { step = λ j l. absurd (omega arith); place = λ j l. absurd (omega arith) }

-- a step whose position is known, and one whose position is not
pub noted_known : (s s' : List Float) (b n k : ℕ) (held : Option State) (state : State) → held ≡ Some state → n < 1061 → Stored s s' (b + observed_part + 4 * n) k state.position
    → Noted s s' b n (seen k held) (n + 1)
noted_known s s' b n k held state e l w =
    subst (λ (x : Option State). Noted s s' b n (seen k x) (n + 1)) (sym e) (record {
      all = λ obs q h. observes_more s s' (b + observed_part) obs (record { step = k; place = state.position }) h
          (subst (λ (m : ℕ). Stored s s' (b + observed_part + 4 * m) k state.position) (sym q) w);
      counted = refl;
      only = only_then (b + observed_part) (b + base_part) (b + observed_part + 4 * n) (b + observed_part + 4 * n + 4) (b + observed_part) (b + base_part) s s' s' w.only
          (only_same (b + observed_part) (b + base_part) s') (omega arith) (omega arith) (omega arith) (omega arith);
    })

pub noted_missing : (s : List Float) (b n k : ℕ) (held : Option State) → held ≡ None → Noted s s b n (seen k held) n
noted_missing s b n k held e =
    subst (λ (x : Option State). Noted s s b n (seen k x) n) (sym e) (record {
      all = λ obs q h. subst (λ (x : List Observed). Observes s (b + observed_part) x) (sym (append-nil obs)) h;
      counted = omega arith;
      only = only_same (b + observed_part) (b + base_part) s;
    })

seen_short : (k : ℕ) (held : Option State) → length (seen k held) ≤ 1
seen_short k (Some s) = omega arith
seen_short k None = omega arith

-- what the loop over the steps keeps
pub record Sofar (look : Float → Option State) (t0 : Float) (s s' : List Float) (b c n : ℕ) : Type 0 where
  pub counted : n ≡ length (observed_to look t0 c)
  pub few : n ≤ c
  pub all : Observes s' (b + observed_part) (observed_to look t0 c)
  pub only : Only (b + observed_part) (b + base_part) s s'

pub sofar_none : (look : Float → Option State) (t0 : Float) (s : List Float) (b : ℕ) → Sofar look t0 s s b 0 0
unfolding observed_to
sofar_none look t0 s b = record { counted = refl; few = omega arith; all = observes_none s (b + observed_part); only = only_same (b + observed_part) (b + base_part) s }

pub sofar_more : (look : Float → Option State) (t0 : Float) (s s₁ s₂ : List Float) (b c n r : ℕ) → Sofar look t0 s s₁ b c n → Noted s₁ s₂ b n (seen (5 * c) (look (step_time t0 (5 * c)))) r
    → Sofar look t0 s s₂ b (c + 1) r
unfolding observed_to
sofar_more look t0 s s₁ s₂ b c n r f w =
    let more = seen (5 * c) (look (step_time t0 (5 * c))) in
    let next : observed_to look t0 (c + 1) ≡ observed_to look t0 c ++ more = rw add-one in
    record {
      counted = w.counted ∙ ap (λ (m : ℕ). m + length more) f.counted ∙ sym (ap length next ∙ length-append (observed_to look t0 c) more);
      few = omega (arith, w.counted, f.few, seen_short (5 * c) (look (step_time t0 (5 * c))));
      all = subst (λ (x : List Observed). Observes s₂ (b + observed_part) x) (sym next) (w.all (observed_to look t0 c) (sym f.counted) f.all);
      only = only_then (b + observed_part) (b + base_part) (b + observed_part) (b + base_part) (b + observed_part) (b + base_part) s s₁ s₂ f.only w.only (omega arith) (omega arith) (omega arith)
          (omega arith);
    }

pub observing : (look : Float → Option State) (arc : Arc) (s s' : List Float) (b c n : ℕ) → arc.steps ≤ 5302 → c ≡ arc.steps / 5 + 1 → Sofar look arc.t0 s s' b c n
    → Observing s s' b (observed look arc) n
unfolding observed
observing look arc s s' b c n l e f = record {
  all = subst (λ (m : ℕ). Observes s' (b + observed_part) (observed_to look arc.t0 m)) e f.all;
  counted = f.counted ∙ ap (λ (m : ℕ). length (observed_to look arc.t0 m)) e;
  only = f.only;
}
