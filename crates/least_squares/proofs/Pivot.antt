-- The chosen pivot is the last of the largest, NaN counting as largest. Assumes nothing.
use mathlib.Core.Path.{◌≡◌, sym, subst}
use mathlib.Core.Bool.{false, cond, not, false≢true}
use Prim.Native.Nat.{ℕ, zero, suc, ◌+◌, ◌-◌, ◌≤◌, ◌<◌}
use native.Mathlib.Decide.{dec_le}
use native.Mathlib.Omega.{arith}
use lib.Dec.{T}
use lib.Ieee.{Float, nan, inf, fin, le, ne}
use lib.Ieee.Bits.{is_true}
use Rattle.laws.specs.Signed.{real}
use Rattle.laws.specs.Order.{le_tr, le_rfl, lt→le, nle→lt}
use Rattle.laws.specs.Bools.{by, holds}
use Rattle.numbers.specs.Numbers.{magnitude}
use Rattle.least_squares.specs.Elimination.{Matrix, reaches, largest, pivot_row}

-- ---- the order that NaN tops is total

number : (x : Float) → ne x x ≡ false → T (real x)
unfolding ne
number nan h = absurd (false≢true (sym h))
number (inf s) h = tt
number (fin s m e) h = tt

pub reaches_self : (x : Float) → T (reaches x x)
unfolding reaches
reaches_self x = by (ne x x) (λ e. rw e tt) (λ e. rw (e, is_true (le x x) (le_rfl x (number x e))) tt)

-- what it is_true of numbers
reached : (x y : Float) → ne x x ≡ false → T (reaches x y) → (ne y y ≡ false) × T (le y x)
unfolding reaches
reached x y e h = by (ne y y) (λ f. absurd (rw (e, f) at h)) (λ f. (f, rw (e, f) at h))

pub reaches_trans : (x y z : Float) → T (reaches x y) → T (reaches y z) → T (reaches x z)
unfolding reaches
reaches_trans x y z h k =
    by (ne x x)
    (λ e. rw e tt)
    (λ e. let a = reached x y e h in
    let b = reached y z a.0 k in
    rw (e, b.0) (le_tr z y x b.1 a.1))

pub reaches_total : (x y : Float) → T (not (reaches x y)) → T (reaches y x)
unfolding reaches
reaches_total x y h =
    by (ne y y)
    (λ f. rw f tt)
    (λ f. by (ne x x)
    (λ e. absurd (rw e at h))
    (λ e. rw (f, e) (lt→le x y (nle→lt y x (number y f) (number x e) (rw (e, f) at h)))))

-- ---- the last of the largest

-- in column c, q is a row of c .. c + n, no row of these counts as larger, and none after it as large
pub record LastOfLargest (m : Matrix) (c n q : ℕ) : Type 0 where
  pub from : c ≤ q
  pub to : q ≤ c + n
  pub top : (i : ℕ) → c ≤ i → i ≤ c + n → T (reaches (magnitude (m q c)) (magnitude (m i c)))
  pub last : (i : ℕ) → q < i → i ≤ c + n → T (not (reaches (magnitude (m i c)) (magnitude (m q c))))

abbrev size : Matrix → ℕ → ℕ → Float
size m c i = magnitude (m i c)

-- a row more
grown : (m : Matrix) (c n q : ℕ) → LastOfLargest m c n q →
    LastOfLargest m c (suc n) (cond (reaches (size m c (c + suc n)) (size m c q)) (c + suc n) q)
grown m c n q h =
    let r : ℕ = c + suc n in
    by (reaches (size m c r) (size m c q))
    (λ e. rw e (record {
      from = omega arith;
      to = omega arith;
      top = λ i a b. elim (dec_le i (c + n)) [
        | yes g ↦ reaches_trans (size m c r) (size m c q) (size m c i) (holds _ e) (h.top i a g)
        | no g ↦ let k : i ≡ r = omega arith in subst (λ (j : ℕ). T (reaches (size m c r) (size m c j))) (sym k) (reaches_self (size m c r))
      ];
      last = λ i a b. absurd (omega arith);
    }))
    (λ e. rw e (record {
      from = h.from;
      to = omega (arith, h.to);
      top = λ i a b. elim (dec_le i (c + n)) [
        | yes g ↦ h.top i a g
        | no g ↦ let k : i ≡ r = omega arith in subst (λ (j : ℕ). T (reaches (size m c q) (size m c j))) (sym k) (reaches_total (size m c r) (size m c q) (rw e tt))
      ];
      last = λ i a b. elim (dec_le i (c + n)) [
        | yes g ↦ h.last i a g
        | no g ↦ let k : i ≡ r = omega arith in subst (λ (j : ℕ). T (not (reaches (size m c j) (size m c q)))) (sym k) (rw e tt)
      ];
    }))

pub largest_is : (m : Matrix) (c n : ℕ) → LastOfLargest m c n (largest m c n)
unfolding largest
largest_is m c zero = record {
  from = omega arith;
  to = omega arith;
  top = λ i a b. let k : i ≡ c = omega arith in subst (λ (j : ℕ). T (reaches (magnitude (m c c)) (magnitude (m j c)))) (sym k) (reaches_self (magnitude (m c c)));
  last = λ i a b. absurd (omega arith);
}
largest_is m c (suc n) = grown m c n (largest m c n) (largest_is m c n)

-- of column c's pivot, in a matrix of p rows
pub pivot_is : (p c : ℕ) (m : Matrix) → LastOfLargest m c (p - (c + 1)) (pivot_row p c m)
unfolding pivot_row
pivot_is p c m = largest_is m c (p - (c + 1))
