-- Laws of the kernel of least squares. Assumes nothing.
use mathlib.Core.Path.{◌≡◌, refl, sym, ap, ◌∙◌}
use mathlib.Core.Bool.{Bool, true, false, cond, false≢true}
use mathlib.Core.List.{List}
use Rattle.std.specs.Prelude.{Some, None}
use Prim.Native.Nat.{ℕ, ◌*◌, ◌≤◌}
use lib.Dec.{ltb, eqb}
use lib.Ieee.{Float}
use lib.ListN.{length}
use borrow.Author.Tests.{le-ltb, eq-eqb, ltb-false, eqb-true}
use Rattle.laws.specs.Tables.{row}
use Rattle.laws.specs.Bools.{by}
use Rattle.least_squares.specs.Flat.{fine_in, stage_in, view, equations}
use Rattle.least_squares.specs.Kernel.{coefficients_of, estimate, shape_fits, solvable_for, solved_else}
use Rattle.least_squares.specs.LeastSquares.{coefficient_at, solvable, solved}
use Rattle.least_squares.proofs.Matrices.{solvable_flat, solved_flat}

solvable_is : (rows y : List Float) (p : ℕ) (n : List Float) (t g : Bool) → p ≤ 15 → n ≡ equations rows y p → t ≡ fine_in p n p → t ≡ g → g ≡ solvable rows y p
solvable_is rows y p n t g few hn ht h = sym h ∙ ht ∙ ap (λ (x : List Float). fine_in p x p) hn ∙ solvable_flat p few rows y

module _ (rows y : List Float) (p : ℕ) (few : p ≤ 15) (n : List Float) (t : Bool) (hn : n ≡ equations rows y p) (ht : t ≡ fine_in p n p) where
  pub found : t ≡ true → true ≡ solvable rows y p
  found h = solvable_is rows y p n t true few hn ht h

  pub none : t ≡ false → false ≡ solvable rows y p
  none h = solvable_is rows y p n t false few hn ht h

  pub found_is : (b s b' : List Float) → t ≡ true → (t ≡ true → s ≡ stage_in p n p) → b' ≡ row (coefficient_at (view s) p) p → b' ≡ solved_else rows y p b
  unfolding solved_else
  found_is b s b' h hs hb = simp (sym (found h)) (hb ∙ simp (hs h, hn) (solved_flat p few rows y))

  pub none_is : (b : List Float) → t ≡ false → b ≡ solved_else rows y p b
  unfolding solved_else
  none_is b h = simp (sym (none h))

pub shape_true : (rows y : List Float) (p nb : ℕ) → shape_fits rows y p nb ≡ true → (length rows ≡ length y * p) × (p ≤ 15) × (nb ≡ p)
unfolding shape_fits
shape_true rows y p nb h =
    by (ltb 15 p)
    (λ e. absurd (false≢true (sym (simp e) ∙ h)))
    (λ e. by (eqb (length rows) (length y * p))
    (λ f. let g : eqb nb p ≡ true = sym (simp (e, f)) ∙ h in (eqb-true _ _ f, ltb-false 15 p e, eqb-true nb p g))
    (λ f. absurd (false≢true (sym (simp (e, f)) ∙ h))))

-- a shape that fits
pub shape_is : (rows y : List Float) (p nb : ℕ) → length rows ≡ length y * p → p ≤ 15 → nb ≡ p → shape_fits rows y p nb ≡ true
unfolding shape_fits
shape_is rows y p nb h k l = simp (le-ltb 15 p k, eq-eqb (length rows) (length y * p) h, eq-eqb nb p l)

-- what the kernel gives where the shape fits
pub kernel_is : (rows y b : List Float) (p : ℕ) → length rows ≡ length y * p → p ≤ 15 → length b ≡ p →
    (solvable_for rows y p (length b) ≡ solvable rows y p) × (coefficients_of rows y p b ≡ solved_else rows y p b)
unfolding solvable_for coefficients_of
kernel_is rows y b p h k l =
    let q : shape_fits rows y p (length b) ≡ true = shape_is rows y p (length b) h k l in
    (simp q, simp q)

-- the same for a number of columns that is known beforehand
pub estimate_is : (rows y : List Float) (p : ℕ) → length rows ≡ length y * p → p ≤ 15 → estimate rows y p ≡ cond (solvable rows y p) (Some (solved rows y p)) None
unfolding estimate solvable_for
estimate_is rows y p h k = let q : shape_fits rows y p p ≡ true = shape_is rows y p p h k refl in simp q

-- b is what stood there before
module _ (rows y b : List Float) (p : ℕ) (t : Bool) (e : t ≡ solvable_for rows y p (length b)) (l : length b ≡ p) where
  pub estimate_none : t ≡ false → None ≡ estimate rows y p
  unfolding estimate
  estimate_none h = let q : solvable_for rows y p p ≡ false = ap (solvable_for rows y p) (sym l) ∙ sym e ∙ h in simp q

  pub estimate_some : (b' : List Float) → b' ≡ coefficients_of rows y p b → t ≡ true → Some b' ≡ estimate rows y p
  unfolding estimate coefficients_of solvable_for solved_else
  estimate_some b' f h =
      by (shape_fits rows y p (length b))
      (λ q. let s : solvable rows y p ≡ true = sym (simp q) ∙ sym e ∙ h in
      let g : shape_fits rows y p p ≡ true = ap (shape_fits rows y p) (sym l) ∙ q in
      simp (g, s) (ap Some (f ∙ simp (q, s))))
      (λ q. absurd (false≢true (sym (simp q) ∙ sym e ∙ h)))
