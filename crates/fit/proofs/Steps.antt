-- The steps of the observations: every fifth, within the arc, and known again from their floats.
use Rattle.std.specs.Prelude.{None, Option, Some}
use Rattle.integrate.specs.declared.kernel.State.{State}
use Rattle.std.proofs.Common.{◌≡◌, ℕ, zero, suc, ◌+◌, ◌*◌, ◌/◌, ◌<◌, ◌≤◌, eqb, List, [], ◌∷◌, ◌++◌, length, sym, ap, ◌∙◌, subst, append-nil, arith, length-append, eqb-true}
use lib.Ieee.{Float}
use lib.ListN.{get_or-append}
use lib.Seq.{get_or_at}
use borrow.Author.Tests.{eqb-false}
use Rattle.integrate.specs.declared.kernel.Arc.{Arc}
use Rattle.fit.specs.Fit.{Observed, nth, seen, observed_to, observed}
use Rattle.fit.specs.Room.{step_number}
use Rattle.fit.specs.WorkLeaves.{Within}
use Rattle.laws.specs.WholeNumbers.{number}
use Rattle.laws.specs.Bools.{by}
use Rattle.laws.specs.Times.{step_time}
use Rattle.numbers.proofs.Counts.{counted}

pub record Fifth (k c : ℕ) : Type 0 where
  pub n : ℕ
  pub less : n < c
  pub is : k ≡ 5 * n

fifth_more : (k c : ℕ) → Fifth k c → Fifth k (suc c)
fifth_more k c f = record { n = f.n; less = omega (arith, f.less); is = f.is }

more : (c : ℕ) (obs : List Observed) (held : Option State) → ((j : ℕ) → j < length obs → Fifth (nth obs j).step c) →
    (j : ℕ) → j < length (obs ++ seen (5 * c) held) → Fifth (nth (obs ++ seen (5 * c) held) j).step (suc c)
more c obs (Some s) f j h =
    let o : Observed = record { step = 5 * c; place = s.position } in
    let long : length (obs ++ (o ∷ [])) ≡ length obs + 1 = length-append obs (o ∷ []) in
    by (eqb j (length obs))
    (λ t. record { n = c; less = omega arith; is = ap (λ (x : Observed). x.step) (get_or_at obs o [] _ j (sym (eqb-true j (length obs) t))) })
    (λ t. let l : j < length obs = omega (arith, eqb-false j (length obs) t) in
    subst (λ (x : Observed). Fifth x.step (suc c)) (sym (get_or-append obs (o ∷ []) _ j l)) (fifth_more _ c (f j l)))
more c obs None f j h =
    let e : obs ++ [] ≡ obs = append-nil obs in
    subst (λ (x : List Observed). Fifth (nth x j).step (suc c)) (sym e) (fifth_more _ c (f j (subst (λ (x : List Observed). j < length x) e h)))

fifths : (look : Float → Option State) (t0 : Float) (c : ℕ) → (j : ℕ) → j < length (observed_to look t0 c) → Fifth (nth (observed_to look t0 c) j).step c
unfolding observed_to
fifths look t0 zero j h = absurd (omega arith)
fifths look t0 (suc c) j h = more c (observed_to look t0 c) (look (step_time t0 (5 * c))) (fifths look t0 c) j h

pub within : (look : Float → Option State) (arc : Arc) → arc.steps ≤ 5302 → Within (observed look arc) arc.steps
unfolding observed
within look arc l = λ j h.
    let f = fifths look arc.t0 (arc.steps / 5 + 1) j h in
    let e = f.is in
    (omega (arith, f.less, f.is), ap (λ (k : ℕ). step_number (number k)) e ∙ counted (5 * f.n) 5302 (omega (arith, f.less, l)) (omega (arith, f.less, l)) ∙ sym e)
