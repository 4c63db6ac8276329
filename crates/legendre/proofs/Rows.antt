-- The rows by cases. Assumes nothing.
use Rattle.laws.specs.Floats.{◌⊖◌, ◌⊗◌, zero64}
use Rattle.legendre.specs.Legendre.{half64, derived_row}
use Rattle.legendre.specs.Arrays.{at, Begins}
use Rattle.legendre.specs.Rows.{next_row, step_at}
use Prim.Native.Nat.{ℕ, ◌+◌, ◌-◌, ◌≤◌, ◌<◌}
use mathlib.Core.Path.{◌≡◌, ap, ap₂, ◌∙◌}
use mathlib.Core.List.{List}
use native.Mathlib.Decide.{dec_le}
use native.Mathlib.Omega.{arith}
use borrow.Author.Tests.{lt-ltb, le-ltb, eq-eqb, ne_eqb}
use lib.Ieee.{Float, nan, neg}
use lib.ListN.{get_or}

-- the recursion's row, where q2 is being overwritten
pub next_mid : (n k : ℕ) (t h : Float) (a b q1 q2₀ : List Float) {q2 : List Float} {g : ℕ → Float} {m : ℕ} → Begins m g q2₀ q2 → m < n
    → step_at a b t (k + m) (get_or q1 m nan) (get_or q2 m nan) ≡ next_row n k t h a b (at q1) (at q2₀) m
next_mid n k t h a b q1 q2₀ {m = m} r l =
    ap (λ (x : Float). step_at a b t (k + m) (get_or q1 m nan) x) (r.rest m (omega arith)) ∙ rw (lt-ltb m n l)

-- the derivative's
module _ (n : ℕ) (low up p : ℕ → Float) where
  pub der_mid : (m : ℕ) → 1 ≤ m → m < n → neg half64 ⊗ (low m ⊗ p (m - 1) ⊖ up m ⊗ p (m + 1)) ≡ derived_row n low up p m
  der_mid m h l = rw (ne_eqb n 0 (λ e. absurd (omega arith)), ne_eqb m 0 (λ e. absurd (omega arith)), lt-ltb m n l)

  pub der_last : 1 ≤ n → neg half64 ⊗ (low n ⊗ p (n - 1) ⊖ zero64) ≡ derived_row n low up p n
  der_last h = rw (ne_eqb n 0 (λ e. absurd (omega arith)), le-ltb n n (omega arith))

-- the derivative's row is determined by what it reads
pub der_cong : (n : ℕ) (low up : ℕ → Float) {p p' : ℕ → Float} → ((i : ℕ) → i ≤ n → p i ≡ p' i) → (m : ℕ) → m ≤ n → derived_row n low up p m ≡ derived_row n low up p' m
der_cong n low up {p} {p'} ep m le =
    elim (dec_le 1 n) [
      | no z ↦ rw (eq-eqb n 0 (omega arith))
      | yes h ↦
          rw (ne_eqb n 0 (λ e. absurd (omega arith)))
          (elim (dec_le 1 m) [
            | no z ↦ rw (eq-eqb m 0 (omega arith)) (ap (λ (y : Float). up 0 ⊗ y) (ep 1 h))
            | yes g ↦
                elim (dec_le n m) [
                  | yes l ↦
                      rw (ne_eqb m 0 (λ e. absurd (omega arith)), le-ltb m n l)
                      (ap (λ (y : Float). neg half64 ⊗ (low m ⊗ y ⊖ zero64)) (ep (m - 1) (omega arith)))
                  | no l ↦
                      rw (ne_eqb m 0 (λ e. absurd (omega arith)), lt-ltb m n (omega arith))
                      (ap₂ (λ (x y : Float). neg half64 ⊗ (low m ⊗ x ⊖ up m ⊗ y)) (ep (m - 1) (omega arith)) (ep (m + 1) (omega arith)))
                ]
          ])
    ]
