-- The elimination of the list of 240 numbers is that of the matrices, in the first p rows and p + 1 columns. Assumes nothing.
use mathlib.Core.Path.{◌≡◌, refl, ap, ◌∙◌}
use mathlib.Core.List.{List}
use Prim.Native.Nat.{ℕ, zero, suc, ◌+◌, ◌-◌, ◌≤◌, ◌<◌}
use native.Mathlib.Omega.{arith}
use lib.Ieee.{Float}
use borrow.Author.Tests.{lt-ltb}
use Rattle.laws.specs.Tables.{row, row_same}
use Rattle.least_squares.specs.Elimination.{Matrix, swapped, eliminated, largest, pivot_row, too_small, turn, stage, singular, fine}
use Rattle.least_squares.specs.LeastSquares.{normal_at, solvable, coefficient_at, solved}
use Rattle.least_squares.specs.Flat.{view, flatten, augmented, equations, swapped_to, eliminated_to, pivot_row_in, turn_in, stage_in, singular_in, fine_in}
use Rattle.least_squares.proofs.MatrixLoops.{flat_holds}
use Rattle.least_squares.proofs.Pivot.{largest_is}

module _ (p : ℕ) (few : p ≤ 15) where
  -- the used part of a list is that of a matrix
  abbrev Same : List Float → Matrix → Type 0
  Same l m = (i j : ℕ) → i < p → j < p + 1 → view l i j ≡ m i j

  -- what a matrix leaves in a list
  flat_same : (x m : Matrix) → ((i j : ℕ) → i < p → j < p + 1 → x i j ≡ m i j) → Same (flatten x) m
  flat_same x m e i j a b = (flat_holds x).at i j (omega arith) (omega arith) ∙ e i j a b

  begun : (m : Matrix) → Same (flatten (augmented p m)) m
  unfolding augmented
  begun m = flat_same (augmented p m) m (λ i j a b. simp (lt-ltb i p a, lt-ltb j (p + 1) b))

  module _ (l : List Float) (m : Matrix) (s : Same l m) where
    -- the rows c .. c + n have the same largest
    largest_same : (c n : ℕ) → c + n < p → largest (view l) c n ≡ largest m c n
    unfolding largest
    largest_same c zero h = refl
    largest_same c (suc n) h =
        let e = largest_same c n (omega arith) in
        let q = largest_is m c n in
        simp (e, s (c + suc n) c (omega arith) (omega arith), s (largest m c n) c (omega (arith, q.to)) (omega arith))

    pivot_same : (c : ℕ) → c < p → pivot_row_in p c l ≡ pivot_row p c m
    unfolding pivot_row_in pivot_row
    pivot_same c h = largest_same c (p - (c + 1)) (omega arith)

    pivot_below : (c : ℕ) → c < p → pivot_row p c m < p
    unfolding pivot_row
    pivot_below c h = omega (arith, (largest_is m c (p - (c + 1))).to)

    swapped_same : (c q : ℕ) → c < p → q < p → Same (flatten (swapped_to c q (p + 1) (view l))) (swapped c q m)
    unfolding swapped_to swapped
    swapped_same c q hc hq = flat_same _ _ (λ i j a b. simp (lt-ltb j (p + 1) b, s q j hq b, s c j hc b, s i j a b))

    eliminated_same : (c : ℕ) → c < p → Same (flatten (eliminated_to c p (p + 1) (view l))) (eliminated c m)
    unfolding eliminated_to eliminated
    eliminated_same c hc = flat_same _ _ (λ i j a b. simp (lt-ltb i p a, lt-ltb j (p + 1) b, s i j a b, s i c a (omega arith), s c c hc (omega arith), s c j hc b))

  turn_same : (l : List Float) (m : Matrix) (c : ℕ) → c < p → Same l m → Same (turn_in p c l) (turn p c m)
  unfolding turn_in turn
  turn_same l m c h s =
      rw (pivot_same l m s c h)
      (eliminated_same (flatten (swapped_to c (pivot_row p c m) (p + 1) (view l))) (swapped c (pivot_row p c m) m) (swapped_same l m s c (pivot_row p c m) h (pivot_below l m s c h)) c h)

  stage_same : (l : List Float) (m : Matrix) (c : ℕ) → c ≤ p → Same l m → Same (stage_in p l c) (stage p m c)
  unfolding stage_in stage
  stage_same l m zero h s = s
  stage_same l m (suc c) h s = turn_same (stage_in p l c) (stage p m c) c (omega arith) (stage_same l m c (omega arith) s)

  singular_same : (l : List Float) (m : Matrix) (c : ℕ) → c < p → Same l m → singular_in p l c ≡ singular p m c
  unfolding singular_in singular
  singular_same l m c h s =
      let t = stage_same l m c (omega arith) s in
      ap too_small (ap (λ (q : ℕ). view (stage_in p l c) q c) (pivot_same (stage_in p l c) (stage p m c) t c h)
      ∙ t (pivot_row p c (stage p m c)) c (pivot_below (stage_in p l c) (stage p m c) t c h) (omega arith))

  fine_same : (l : List Float) (m : Matrix) (n : ℕ) → n ≤ p → Same l m → fine_in p l n ≡ fine p m n
  unfolding fine_in fine
  fine_same l m zero h s = refl
  fine_same l m (suc n) h s = simp (fine_same l m n (omega arith) s, singular_same l m n (omega arith) s)

  module _ (rows y : List Float) where
    pub solvable_flat : fine_in p (equations rows y p) p ≡ solvable rows y p
    unfolding equations solvable
    solvable_flat = fine_same _ (normal_at rows y p) p (omega arith) (begun (normal_at rows y p))

    pub solved_flat : row (coefficient_at (view (stage_in p (equations rows y p) p)) p) p ≡ solved rows y p
    unfolding equations solved coefficient_at
    solved_flat =
        let t = stage_same (flatten (augmented p (normal_at rows y p))) (normal_at rows y p) p (omega arith) (begun (normal_at rows y p)) in
        row_same _ _ p (λ i h. simp (t i p h (omega arith), t i i h (omega arith)))
