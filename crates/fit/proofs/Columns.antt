-- Laws of the design: what a row reads of a run, one column, the columns so far, and misfits beside them.
use Rattle.std.proofs.Common.{◌≡◌, ◌≢◌, ℕ, zero, suc, ◌+◌, ◌*◌, ◌/◌, ◌%◌, ◌<◌, ◌≤◌, eqb, List, get_or, sym, refl, ap, ◌∙◌, arith, eqb-true}
use lib.Ieee.{Float, nan}
use borrow.Author.Tests.{eqb-false}
use Rattle.vectors.specs.declared.Vector.{Vector}
use Rattle.fit.specs.Fit.{axis}
use Rattle.fit.specs.Room.{observed_part, base_part, misfit_part, design_part, step_number, step_at, place_at, run_at}
use Rattle.fit.specs.WorkLeaves.{Measured, Based, Columned, Apart, Designed, Linearised}
use Rattle.fit.proofs.Rows.{step_kept}
use Rattle.integrate.specs.Room.{Holds3, Only, Orbit, Run}
use Rattle.laws.specs.Floats.{◌⊖◌}
use Rattle.laws.specs.Bools.{by}

pub axis_of : (s : List Float) (at d : ℕ) (v : Vector) → Holds3 s at v → d < 3 → get_or s (at + d) nan ≡ axis d v
axis_of s at zero v h l = let e : at + 0 ≡ at = omega arith in ap (λ (n : ℕ). get_or s n nan) e ∙ h.x
axis_of s at (suc zero) v h l = h.y
axis_of s at (suc (suc zero)) v h l = h.z
axis_of s at (suc (suc (suc d))) v h l = absurd (omega arith)

-- row r reads a coordinate of its step's state
pub run_reads : (s : List Float) (b : ℕ) (run : Run) (steps r : ℕ) → Orbit s b run (steps + 1) → step_at s b r ≤ steps → run_at s b r ≡ axis (r % 3) (run (step_at s b r)).position
unfolding run_at
run_reads s b run steps r o l = axis_of s (b + 6 * step_at s b r) (r % 3) (run (step_at s b r)).position (o.position (step_at s b r) (omega arith)) (omega arith)

-- a run leaves the observations
module _ (b : ℕ) (s s' : List Float) (o : Only 0 (b + observed_part) s s') (r : ℕ) where
  pub step_past : step_at s' b r ≡ step_at s b r
  unfolding step_at
  step_past = ap step_number (o.same (b + observed_part + 4 * (r / 3)) (λ p q. omega arith))

  pub place_past : place_at s' b r ≡ place_at s b r
  unfolding place_at
  place_past = o.same (b + observed_part + 4 * (r / 3) + 1 + r % 3) (λ p q. omega arith)

-- and so does what leaves what stands from them on
pub step_apart : (b from : ℕ) (s s' : List Float) → 4244 ≤ from → from ≤ design_part → base_part ≤ from → Apart s s' b from → (r : ℕ) → r < 3183 → step_at s' b r ≡ step_at s b r
unfolding step_at
step_apart b from s s' _ _ g o r l = ap step_number (o.same (b + observed_part + 4 * (r / 3)) (omega arith) (λ p q. omega arith))

-- one column of the design, by a run with its parameter moved
pub record Differentiated (moved : Run) (steps : ℕ) (s s' : List Float) (b m i : ℕ) : Type 0 where
  pub rows : (r : ℕ) → r < m → step_at s b r ≤ steps → get_or s' (b + design_part + (15 * r + i)) nan ≡ axis (r % 3) (moved (step_at s b r)).position ⊖ get_or s
      (b + base_part + r) nan
  pub others : (r j : ℕ) → j < 15 → (j ≢ i) → get_or s' (b + design_part + (15 * r + j)) nan ≡ get_or s (b + design_part + (15 * r + j)) nan
  pub apart : Apart s s' b design_part

pub differentiated : (run : Run) (steps : ℕ) (s s₁ s₂ : List Float) (b m i : ℕ) → m ≤ 3183 → Orbit s₁ b run (steps + 1) → Only 0 (b + observed_part) s s₁ → Columned s₁ s₂ b m i
    → Differentiated run steps s s₂ b m i
differentiated run steps s s₁ s₂ b m i lm o u w = record {
  rows = λ r h l.
      let e : step_at s₁ b r ≡ step_at s b r = step_past b s s₁ u r in
      w.rows r h
      ∙ ap (λ (x : Float). x ⊖ get_or s₁ (b + base_part + r) nan) (run_reads s₁ b run steps r o (omega arith) ∙ ap (λ (k : ℕ). axis (r % 3) (run k).position) e)
      ∙ ap (λ (x : Float). axis (r % 3) (run (step_at s b r)).position ⊖ x) (u.same (b + base_part + r) (λ p q. omega arith));
  others = λ r j lj ne. w.others r j lj ne ∙ u.same (b + design_part + (15 * r + j)) (λ p q. omega arith);
  apart = record {
    long = w.only.long ∙ u.long;
    same = λ k a f. w.only.same k f ∙ u.same k (λ p q. omega arith);
  };
}

pub apart_same : (s : List Float) (b from : ℕ) → Apart s s b from
apart_same s b from = record { long = refl; same = λ k a f. refl }

pub apart_then : (s s₁ s₂ : List Float) (b from from₁ from₂ : ℕ) → Apart s s₁ b from₁ → Apart s₁ s₂ b from₂ → from ≤ from₁ → from ≤ from₂ → Apart s s₂ b from
apart_then s s₁ s₂ b from from₁ from₂ o₁ o₂ h₁ h₂ = record {
  long = o₂.long ∙ o₁.long;
  same = λ k a f. o₂.same k a (λ p q. f (omega arith) q) ∙ o₁.same k a (λ p q. f (omega arith) q);
}

pub designed_none : (moved : ℕ → Run) (steps : ℕ) (s : List Float) (b m : ℕ) → Designed moved steps s s b m 0
designed_none moved steps s b m = record { rows = λ r i h l u. absurd (omega arith); apart = apart_same s b design_part }

pub designed_more : (moved : ℕ → Run) (steps : ℕ) (s s₁ s₂ : List Float) (b m i : ℕ) → m ≤ 3183 → i < 15 → Designed moved steps s s₁ b m i → Differentiated (moved i) steps s₁ s₂ b m i
    → Designed moved steps s s₂ b m (i + 1)
designed_more moved steps s s₁ s₂ b m i lm li d w = record {
  rows = λ r j h l u.
      let e : step_at s₁ b r ≡ step_at s b r = step_apart b design_part s s₁ (omega arith) (omega arith) (omega arith) d.apart r (omega arith) in
      by (eqb j i)
      (λ t. let q : j ≡ i = eqb-true j i t in
      ap (λ (n : ℕ). get_or s₂ (b + design_part + (15 * r + n)) nan) q
      ∙ w.rows r h (omega arith)
      ∙ ap (λ (x : Float). axis (r % 3) (moved i (step_at s₁ b r)).position ⊖ x) (d.apart.same (b + base_part + r) (omega arith) (λ p q'. omega arith))
      ∙ ap (λ (k : ℕ). axis (r % 3) (moved i k).position ⊖ get_or s (b + base_part + r) nan) e
      ∙ ap (λ (n : ℕ). axis (r % 3) (moved n (step_at s b r)).position ⊖ get_or s (b + base_part + r) nan) (sym q))
      (λ t. w.others r j (omega arith) (eqb-false j i t) ∙ d.rows r j h (omega (arith, eqb-false j i t)) u);
  apart = apart_then s s₁ s₂ b design_part design_part design_part d.apart w.apart (omega arith) (omega arith);
}

-- a full run and its misfits, a base run and its positions, and the columns
pub linearised : (full base : Run) (moved : ℕ → Run) (steps : ℕ) (s s₁ s₂ s₃ s₄ s₅ : List Float) (b m : ℕ) → m ≤ 3183 →
    Orbit s₁ b full (steps + 1) → Only 0 (b + observed_part) s s₁ → Measured s₁ s₂ b m →
    Orbit s₃ b base (steps + 1) → Only 0 (b + observed_part) s₂ s₃ → Based s₃ s₄ b m → Designed moved steps s₄ s₅ b m 15 →
    Linearised full base moved steps s s₅ b m
linearised full base moved steps s s₁ s₂ s₃ s₄ s₅ b m lm of o₁ me ob o₃ ba d =
    record {
      misfits = λ r h l.
          let e : step_at s₁ b r ≡ step_at s b r = step_past b s s₁ o₁ r in
          d.apart.same (b + misfit_part + r) (omega arith) (λ p q. omega arith)
          ∙ ba.only.same (b + misfit_part + r) (λ p q. omega arith)
          ∙ o₃.same (b + misfit_part + r) (λ p q. omega arith)
          ∙ me.rows r h
          ∙ ap (λ (x : Float). x ⊖ run_at s₁ b r) (place_past b s s₁ o₁ r)
          ∙ ap (λ (x : Float). place_at s b r ⊖ x) (run_reads s₁ b full steps r of (omega arith) ∙ ap (λ (k : ℕ). axis (r % 3) (full k).position) e);
      design = λ r i h li l.
          let e₁ : step_at s₁ b r ≡ step_at s b r = step_past b s s₁ o₁ r in
          let e₂ : step_at s₂ b r ≡ step_at s₁ b r = step_kept (b + misfit_part) (b + design_part) b s₁ s₂ me.only (omega arith) r (omega arith) in
          let e₃ : step_at s₃ b r ≡ step_at s₂ b r = step_past b s₂ s₃ o₃ r in
          let e₄ : step_at s₄ b r ≡ step_at s₃ b r = step_kept (b + base_part) (b + misfit_part) b s₃ s₄ ba.only (omega arith) r (omega arith) in
          let f : step_at s₃ b r ≡ step_at s b r = e₃ ∙ e₂ ∙ e₁ in
          d.rows r i h li (omega arith)
          ∙ ap (λ (k : ℕ). axis (r % 3) (moved i k).position ⊖ get_or s₄ (b + base_part + r) nan) (e₄ ∙ f)
          ∙ ap (λ (x : Float). axis (r % 3) (moved i (step_at s b r)).position ⊖ x) (ba.rows r h ∙ run_reads s₃ b base steps r ob (omega arith) ∙ ap (λ (k : ℕ). axis (r % 3) (base k).position) f);
      apart = record {
        long = d.apart.long ∙ ba.only.long ∙ o₃.long ∙ me.only.long ∙ o₁.long;
        same = λ k a f.
            d.apart.same k a (λ p q. f (omega arith) q)
            ∙ ba.only.same k (λ p q. f (omega arith) (omega arith))
            ∙ o₃.same k (λ p q. omega arith)
            ∙ me.only.same k (λ p q. f (omega arith) (omega arith))
            ∙ o₁.same k (λ p q. omega arith);
      };
    }
