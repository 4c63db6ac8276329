-- Laws of the rows: what a row reads stays while its result is stored, and one row more.
use Rattle.std.proofs.Common.{◌≡◌, ℕ, ◌+◌, ◌*◌, ◌/◌, ◌%◌, ◌<◌, ◌≤◌, eqb, List, length, get_or, set, sym, refl, ap, ◌∙◌, arith, length-set, get_or-set_other, get_or-set_same, eqb-true}
use lib.Ieee.{Float, nan}
use borrow.Author.Tests.{eqb-false}
use Rattle.fit.specs.Room.{observed_part, base_part, misfit_part, design_part, work_size, step_number, step_at, place_at, run_at}
use Rattle.fit.specs.WorkLeaves.{Measured, Based, Columned}
use Rattle.integrate.proofs.Places.{only_same, only_then}
use Rattle.integrate.specs.Room.{Only}
use Rattle.laws.specs.Floats.{◌⊖◌}
use Rattle.laws.specs.Bools.{by}
use Rattle.numbers.proofs.Counts.{count_bound}

pub step_bound : (x : Float) → step_number x ≤ 5302
step_bound x = count_bound x 5302

module _ (a e b : ℕ) (s s' : List Float) (o : Only a e s s') (after : b + base_part ≤ a) (r : ℕ) (low : r < 3183) where
  pub step_kept : step_at s' b r ≡ step_at s b r
  unfolding step_at
  step_kept = ap step_number (o.same (b + observed_part + 4 * (r / 3)) (λ p q. omega arith))

  pub place_kept : place_at s' b r ≡ place_at s b r
  unfolding place_at
  place_kept = o.same (b + observed_part + 4 * (r / 3) + 1 + r % 3) (λ p q. omega arith)

  pub run_kept : run_at s' b r ≡ run_at s b r
  unfolding run_at step_at
  run_kept =
      ap (λ (k : ℕ). get_or s' (b + 6 * k + r % 3) nan) step_kept
      ∙ o.same (b + 6 * step_at s b r + r % 3) (λ p q. omega (arith, step_bound (get_or s (b + observed_part + 4 * (r / 3)) nan)))

pub set_only : (s : List Float) (i : ℕ) (v : Float) → Only i (i + 1) s (set s i v)
set_only s i v = record { long = length-set s i v; same = λ k h. get_or-set_other s i k v nan (λ q. h (omega arith) (omega arith)) }

module _ (s₀ s : List Float) (b r : ℕ) (low : r < 3183) (room : b + work_size ≤ length s) where
  pub measured_more : (x y : Float) → Measured s₀ s b r → x ≡ place_at s b r → y ≡ run_at s b r → Measured s₀ (set s (b + misfit_part + r) (x ⊖ y)) b (r + 1)
  measured_more x y h ex ey = record {
    rows = λ q l. by (eqb q r)
        (λ t. let e : q ≡ r = eqb-true q r t in
        ap (λ (n : ℕ). get_or (set s (b + misfit_part + r) (x ⊖ y)) (b + misfit_part + n) nan) e
        ∙ get_or-set_same s (b + misfit_part + r) (x ⊖ y) nan (omega arith)
        ∙ ap (λ (u : Float). u ⊖ y) (ex ∙ place_kept (b + misfit_part) (b + design_part) b s₀ s h.only (omega arith) r low)
        ∙ ap (λ (u : Float). place_at s₀ b r ⊖ u) (ey ∙ run_kept (b + misfit_part) (b + design_part) b s₀ s h.only (omega arith) r low)
        ∙ ap (λ (n : ℕ). place_at s₀ b n ⊖ run_at s₀ b n) (sym e))
        (λ t. get_or-set_other s (b + misfit_part + r) (b + misfit_part + q) (x ⊖ y) nan (λ p. eqb-false q r t (omega arith))
        ∙ h.rows q (omega (arith, eqb-false q r t)));
    only = only_then (b + misfit_part) (b + design_part) (b + misfit_part) (b + design_part) (b + misfit_part + r) (b + misfit_part + r + 1) s₀ s _ h.only (set_only s (b + misfit_part + r) (x ⊖ y))
        (omega arith) (omega arith) (omega arith) (omega arith);
  }

  pub based_more : (y : Float) → Based s₀ s b r → y ≡ run_at s b r → Based s₀ (set s (b + base_part + r) y) b (r + 1)
  based_more y h ey = record {
    rows = λ q l. by (eqb q r)
        (λ t. let e : q ≡ r = eqb-true q r t in
        ap (λ (n : ℕ). get_or (set s (b + base_part + r) y) (b + base_part + n) nan) e
        ∙ get_or-set_same s (b + base_part + r) y nan (omega arith)
        ∙ ey ∙ run_kept (b + base_part) (b + misfit_part) b s₀ s h.only (omega arith) r low
        ∙ ap (λ (n : ℕ). run_at s₀ b n) (sym e))
        (λ t. get_or-set_other s (b + base_part + r) (b + base_part + q) y nan (λ p. eqb-false q r t (omega arith))
        ∙ h.rows q (omega (arith, eqb-false q r t)));
    only = only_then (b + base_part) (b + misfit_part) (b + base_part) (b + misfit_part) (b + base_part + r) (b + base_part + r + 1) s₀ s _ h.only (set_only s (b + base_part + r) y)
        (omega arith) (omega arith) (omega arith) (omega arith);
  }

  module _ (i : ℕ) (li : i < 15) where
    pub columned_more : (y : Float) → Columned s₀ s b r i → y ≡ run_at s b r → Columned s₀ (set s (b + design_part + (15 * r + i)) (y ⊖ get_or s (b + base_part + r) nan)) b (r + 1) i
    columned_more y h ey =
        let z = get_or s (b + base_part + r) nan in
        let at = b + design_part + (15 * r + i) in
        record {
          rows = λ q l. by (eqb q r)
              (λ t. let e : q ≡ r = eqb-true q r t in
              ap (λ (n : ℕ). get_or (set s at (y ⊖ z)) (b + design_part + (15 * n + i)) nan) e
              ∙ get_or-set_same s at (y ⊖ z) nan (omega arith)
              ∙ ap (λ (u : Float). u ⊖ z) (ey ∙ run_kept (b + design_part) (b + work_size) b s₀ s h.only (omega arith) r low)
              ∙ ap (λ (u : Float). run_at s₀ b r ⊖ u) (h.only.same (b + base_part + r) (λ p u. omega arith))
              ∙ ap (λ (n : ℕ). run_at s₀ b n ⊖ get_or s₀ (b + base_part + n) nan) (sym e))
              (λ t. get_or-set_other s at (b + design_part + (15 * q + i)) (y ⊖ z) nan (λ p. eqb-false q r t (omega arith))
              ∙ h.rows q (omega (arith, eqb-false q r t)));
          others = λ q j lj ne.
              get_or-set_other s at (b + design_part + (15 * q + j)) (y ⊖ z) nan (λ p. ne (omega arith))
              ∙ h.others q j lj ne;
          only = only_then (b + design_part) (b + work_size) (b + design_part) (b + work_size) at (at + 1) s₀ s _ h.only (set_only s at (y ⊖ z))
              (omega arith) (omega arith) (omega arith) (omega arith);
        }

pub measured_none : (s : List Float) (b : ℕ) → Measured s s b 0
measured_none s b = record { rows = λ r h. absurd (omega arith); only = only_same _ _ s }

pub based_none : (s : List Float) (b : ℕ) → Based s s b 0
based_none s b = record { rows = λ r h. absurd (omega arith); only = only_same _ _ s }

pub columned_none : (s : List Float) (b i : ℕ) → Columned s s b 0 i
columned_none s b i = record { rows = λ r h. absurd (omega arith); others = λ r j l n. refl; only = only_same _ _ s }
