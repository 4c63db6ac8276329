-- Laws of what stands where in a list of numbers. Assumes nothing.
use Rattle.std.proofs.Common.{◌≡◌, ℕ, ◌+◌, ◌*◌, ◌<◌, ◌≤◌, eqb, List, length, get_or, set, sym, refl, ◌∙◌, subst, arith, length-set, get_or-set_other, get_or-set_same, eqb-true}
use lib.Ieee.{Float, nan}
use lib.ListN.{get_or-eq_default}
use borrow.Author.Tests.{eqb-false}
use Rattle.laws.specs.Bools.{by}
use Rattle.vectors.specs.declared.Vector.{Vector}
use Rattle.integrate.specs.declared.kernel.State.{State}
use Rattle.integrate.specs.Room.{Run, state_in, Only, Holds3, Orbit}
use Rattle.integrate.specs.Work.{Placed, Stored}

-- a case on a test, with the equation in each case
pub only_same : (a e : ℕ) (s : List Float) → Only a e s s
only_same a e s = record { long = refl; same = λ k h. refl }

pub only_then : (a e a₁ e₁ a₂ e₂ : ℕ) (s s₁ s₂ : List Float) → Only a₁ e₁ s s₁ → Only a₂ e₂ s₁ s₂ → a ≤ a₁ → e₁ ≤ e → a ≤ a₂ → e₂ ≤ e → Only a e s s₂
only_then a e a₁ e₁ a₂ e₂ s s₁ s₂ o₁ o₂ h₁ h₂ h₃ h₄ = record {
  long = o₂.long ∙ o₁.long;
  same = λ k h. o₂.same k (λ p q. h (omega arith) (omega arith)) ∙ o₁.same k (λ p q. h (omega arith) (omega arith));
}

pub only_wide : (a e a₁ e₁ : ℕ) (s s₁ : List Float) → Only a₁ e₁ s s₁ → a ≤ a₁ → e₁ ≤ e → Only a e s s₁
only_wide a e a₁ e₁ s s₁ o h₁ h₂ = record { long = o.long; same = λ k h. o.same k (λ p q. h (omega arith) (omega arith)) }

-- what stands apart from the change stays
pub stays3 : (a e at : ℕ) (s s' : List Float) (v : Vector) → Only a e s s' → Holds3 s at v → ((k : ℕ) → at ≤ k → k < at + 3 → a ≤ k → k < e → ⊥) → Holds3 s' at v
stays3 a e at s s' v o h f = record {
  x = o.same at (λ p q. f at (omega arith) (omega arith) p q) ∙ h.x;
  y = o.same (at + 1) (λ p q. f (at + 1) (omega arith) (omega arith) p q) ∙ h.y;
  z = o.same (at + 2) (λ p q. f (at + 2) (omega arith) (omega arith) p q) ∙ h.z;
}

-- three stores
pub placed : (l : List Float) (at : ℕ) (v : Vector) → at + 3 ≤ length l → Placed l (set (set (set l at v.x) (at + 1) v.y) (at + 2) v.z) at v
placed l at v h =
    let l₁ = set l at v.x in
    let l₂ = set l₁ (at + 1) v.y in
    record {
      here = λ _. record {
        x = get_or-set_other l₂ (at + 2) at v.z nan (λ q. omega arith) ∙ get_or-set_other l₁ (at + 1) at v.y nan (λ q. omega arith) ∙ get_or-set_same l at v.x nan (omega arith);
        y = get_or-set_other l₂ (at + 2) (at + 1) v.z nan (λ q. omega arith) ∙ get_or-set_same l₁ (at + 1) v.y nan (simp length-set (omega arith));
        z = get_or-set_same l₂ (at + 2) v.z nan (simp length-set (omega arith));
      };
      only = record {
        long = simp length-set;
        same = λ k f.
            get_or-set_other l₂ (at + 2) k v.z nan (λ q. f (omega arith) (omega arith))
            ∙ get_or-set_other l₁ (at + 1) k v.y nan (λ q. f (omega arith) (omega arith))
            ∙ get_or-set_other l at k v.x nan (λ q. f (omega arith) (omega arith));
      };
    }

pub not_placed : (l : List Float) (at : ℕ) (v : Vector) → (at + 3 ≤ length l → ⊥) → Placed l l at v
not_placed l at v h = record { here = λ e. absurd (h e); only = only_same at (at + 3) l }

-- a position, then a velocity
pub stored : (s s₁ s₂ : List Float) (at : ℕ) (state : State) → Placed s s₁ at state.position → Placed s₁ s₂ (at + 3) state.velocity → Stored s s₂ at state
stored s s₁ s₂ at state p q = record {
  position = λ h. stays3 (at + 3) (at + 3 + 3) at s₁ s₂ state.position q.only (p.here (omega arith)) (λ k a b c d. omega arith);
  velocity = λ h. q.here (omega (arith, h, p.only.long));
  only = only_then at (at + 6) at (at + 3) (at + 3) (at + 3 + 3) s s₁ s₂ p.only q.only (omega arith) (omega arith) (omega arith) (omega arith);
}

pub not_stored : (s : List Float) (at : ℕ) (state : State) → length s ≤ at → Stored s s at state
not_stored s at state h = record { position = λ e. absurd (omega arith); velocity = λ e. absurd (omega arith); only = only_same at (at + 6) s }

-- one state more
pub orbit_more : (s s' : List Float) (at : ℕ) (run : Run) (n : ℕ) (state : State) → Orbit s at run n → at + 6 * n + 6 ≤ length s → Stored s s' (at + 6 * n) state → state ≡ run n
    → Orbit s' at run (n + 1)
orbit_more s s' at run n state o room w e = record {
  position = λ k h. by (eqb k n)
      (λ t. subst (λ (m : ℕ). Holds3 s' (at + 6 * m) (run m).position) (sym (eqb-true k n t)) (subst (λ (x : State). Holds3 s' (at + 6 * n) x.position) e (w.position room)))
      (λ t. let b : k < n = omega (arith, eqb-false k n t) in
      stays3 (at + 6 * n) (at + 6 * n + 6) (at + 6 * k) s s' (run k).position w.only (o.position k b) (λ i p q r u. omega arith));
  velocity = λ k h. by (eqb k n)
      (λ t. subst (λ (m : ℕ). Holds3 s' (at + 6 * m + 3) (run m).velocity) (sym (eqb-true k n t)) (subst (λ (x : State). Holds3 s' (at + 6 * n + 3) x.velocity) e (w.velocity room)))
      (λ t. let b : k < n = omega (arith, eqb-false k n t) in
      stays3 (at + 6 * n) (at + 6 * n + 6) (at + 6 * k + 3) s s' (run k).velocity w.only (o.velocity k b) (λ i p q r u. omega arith));
}

pub orbit_none : (s : List Float) (at : ℕ) (run : Run) → Orbit s at run 0
orbit_none s at run = record { position = λ k h. absurd (omega arith); velocity = λ k h. absurd (omega arith) }

pub orbit_first : (s s' : List Float) (at : ℕ) (run : Run) (state : State) → at + 6 ≤ length s → Stored s s' at state → state ≡ run 0 → Orbit s' at run 1
orbit_first s s' at run state room w e =
    let q : at ≡ at + 6 * 0 = omega arith in
    orbit_more s s' at run 0 state (orbit_none s at run) (omega arith) (subst (λ (m : ℕ). Stored s s' m state) q w) e

-- ---- past the end

past : (l : List Float) (i k : ℕ) → length l ≤ i → length l ≤ k → get_or l i nan ≡ get_or l k nan
past l i k h e = get_or-eq_default l nan h ∙ sym (get_or-eq_default l nan e)

pub state_past : (l : List Float) (i : ℕ) → length l ≤ i → state_in l (length l) ≡ state_in l i
unfolding state_in
state_past l i h = rw (
  past l (length l) i (omega arith) h,
  past l (length l + 1) (i + 1) (omega arith) (omega arith),
  past l (length l + 2) (i + 2) (omega arith) (omega arith),
  past l (length l + 3) (i + 3) (omega arith) (omega arith),
  past l (length l + 4) (i + 4) (omega arith) (omega arith),
  past l (length l + 5) (i + 5) (omega arith) (omega arith),
)
