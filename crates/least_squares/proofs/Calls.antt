-- Laws of the public call. Assumes nothing.
use Rattle.std.specs.Prelude.{◌≡◌, refl, ℕ, ◌*◌, ◌≤◌, Bool, true, false, ◌&&◌, List, [], ◌∷◌, length, leb, eqb, Float, Err}
use Rattle.std.proofs.Common.{sym, ap, ◌∙◌, leb-true, eqb-true}
use Rattle.std.specs.Float.Ieee.Scale.{finite}
use Rattle.std.specs.List.{list_all}
use Rattle.laws.specs.Loops.{cleared, same_cleared}
use Rattle.laws.specs.Tables.{row_length}
use Rattle.laws.specs.Bools.{right_true}
use Rattle.slices.specs.Calls.{accepted, left}
use Rattle.slices.specs.declared.refusal.Refusal.TheVariants.{Count, Length, Singular, NotFinite}
use Rattle.slices.proofs.Calls.{cond_passes, call_failed, call_handed}
use Rattle.least_squares.specs.LeastSquares.{solvable, solved, residuals_of, residual_at}
use Rattle.least_squares.specs.Kernel.{solvable_for, coefficients_of, solved_else}
use Rattle.least_squares.specs.Calls.{up_to, refusal, failure, least_squares_call}
use Rattle.least_squares.proofs.KernelShapes.{kernel_is}

up_to_says : (n k : ℕ) → up_to n k ≡ true → k ≤ n
unfolding up_to
up_to_says n k h = leb-true k n (right_true (leb 1 k) (leb k n) h)

pub few_columns : (p : ℕ) (u : Bool) → u ≡ up_to 15 p → u ≡ true → p ≤ 15
few_columns p u e h = up_to_says 15 p (sym e ∙ h)

-- ---- what holds where no test fails

pub record Passed (rows y : List Float) (p places misfits : ℕ) : Type 0 where
  pub columns : p ≤ 15
  pub full : length rows ≡ length y * p
  pub room : places ≡ p
  pub count : misfits ≡ length y

pub passes : (rows y : List Float) (p places misfits : ℕ) → refusal rows y p places misfits ≡ accepted → Passed rows y p places misfits
unfolding refusal
passes rows y p places misfits h =
    let a = cond_passes (up_to 15 p) _ Count h in
    let b = cond_passes (up_to 100000 (length y)) _ Count a.1 in
    let c = cond_passes (eqb (length rows) (length y * p)) _ Length b.1 in
    let d = cond_passes (eqb places p) _ Length c.1 in
    let e = cond_passes (eqb misfits (length y)) _ Length d.1 in
    record {
      columns = up_to_says 15 p a.0;
      full = eqb-true (length rows) (length y * p) c.0;
      room = eqb-true places p d.0;
      count = eqb-true misfits (length y) e.0;
    }

-- t and b' are what the kernel answers
module _ (rows y : List Float) (p : ℕ) (b r : List Float) (h : refusal rows y p (length b) (length r) ≡ accepted)
    (t : Bool) (et : t ≡ solvable_for rows y p (length b)) (b' : List Float) (eb : b' ≡ coefficients_of rows y p b) where
  passed : Passed rows y p (length b) (length r)
  passed = passes rows y p (length b) (length r) h

  solvable_is : t ≡ solvable rows y p
  solvable_is = et ∙ (kernel_is rows y b p passed.full passed.columns passed.room).0

  else_is : b' ≡ solved_else rows y p b
  else_is = eb ∙ (kernel_is rows y b p passed.full passed.columns passed.room).1

  ols_found : t ≡ true → b' ≡ solved rows y p
  unfolding solved_else
  ols_found g = else_is ∙ simp (sym solvable_is ∙ g)

  ols_none : t ≡ false → b' ≡ b
  unfolding solved_else
  ols_none g = else_is ∙ simp (sym solvable_is ∙ g)

  -- what the residuals ask for
  pub ols_room : t ≡ true → (length b' ≡ p) × (length r ≡ length y)
  unfolding solved
  ols_room g = (ap length (ols_found g) ∙ row_length _ p, passed.count)

  pub ols_failed : t ≡ false → (b'' r' : List Float) → b'' ≡ cleared b' → r' ≡ cleared r → left (Err Singular) (b'' ∷ r' ∷ []) [] ≡ least_squares_call rows y p b r
  unfolding least_squares_call failure
  ols_failed g b'' r' e f =
      (λ i. left (Err Singular) ((e ∙ ap cleared (ols_none g)) i ∷ f i ∷ []) [])
      ∙ call_failed _ (b ∷ r ∷ []) [] _ _ Singular h (simp (sym solvable_is ∙ g))

  module _ (g : t ≡ true) (r' : List Float) (er : r' ≡ residuals_of rows y p b') where
    residuals_are : r' ≡ residuals_of rows y p (solved rows y p)
    residuals_are = er ∙ ap (residuals_of rows y p) (ols_found g)

    fine_is : (f : Bool) → list_all finite b' && list_all finite r' ≡ f → f ≡ list_all (list_all finite) (solved rows y p ∷ residuals_of rows y p (solved rows y p) ∷ [])
    fine_is f q = sym q ∙ simp (ols_found g, residuals_are) (and_true (list_all finite (solved rows y p)) (list_all finite (residuals_of rows y p (solved rows y p))))
      where
        and_true : (a c : Bool) → a && c ≡ a && (c && true)
        and_true true true = refl
        and_true true false = refl
        and_true false c = refl

    no_failure : failure rows y p ≡ accepted
    unfolding failure
    no_failure = simp (sym solvable_is ∙ g)

    pub ols_accepted : list_all finite b' && list_all finite r' ≡ true → left accepted (b' ∷ r' ∷ []) [] ≡ least_squares_call rows y p b r
    unfolding least_squares_call
    ols_accepted q =
        (λ i. left accepted (ols_found g i ∷ residuals_are i ∷ []) []) ∙ call_handed _ (b ∷ r ∷ []) [] _ _ tt true h no_failure (fine_is true q)

    same_long : length r' ≡ length r
    unfolding residuals_of
    same_long = ap length residuals_are ∙ row_length (residual_at rows y p (solved rows y p)) (length y) ∙ sym passed.count

    pub ols_unfit : list_all finite b' && list_all finite r' ≡ false → (b'' r'' : List Float) → b'' ≡ cleared b' → r'' ≡ cleared r'
        → left (Err NotFinite) (b'' ∷ r'' ∷ []) [] ≡ least_squares_call rows y p b r
    unfolding least_squares_call
    ols_unfit q b'' r'' e1 e2 =
        let lb : length b' ≡ length b = (ols_room g).0 ∙ sym passed.room in
        (λ i. left (Err NotFinite) ((e1 ∙ same_cleared b' b lb) i ∷ (e2 ∙ same_cleared r' r same_long) i ∷ []) [])
        ∙ call_handed _ (b ∷ r ∷ []) [] _ _ tt false h no_failure (fine_is false q)
