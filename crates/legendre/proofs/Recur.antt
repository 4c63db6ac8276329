-- The rows that the arrays hold are those of the definition. Assumes nothing.
use Rattle.laws.specs.Tables.{tri}
use Rattle.laws.specs.Floats.{◌⊗◌, zero64}
use Rattle.legendre.specs.Arrays.{from, at, Begins, Has}
use Rattle.legendre.specs.Rows.{Tables, step_at, next_by, scaled_row, legendre_by, derived_by, Holds}
use Rattle.legendre.specs.Legendre.{unscale, derived_row}
use Rattle.legendre.specs.Sums.{Evaluation, degrees, degree_of, cosines, sines, RowSums}
use Prim.Native.Nat.{ℕ, zero, suc, ◌+◌, ◌≤◌, ◌<◌}
use mathlib.Core.Path.{◌≡◌, refl, sym, ap₂, ◌∙◌, subst}
use mathlib.Core.List.{List}
use native.Mathlib.Decide.{dec_le}
use native.Mathlib.Omega.{arith}
use borrow.Author.Tests.{lt-ltb, le-ltb}
use lib.ListN.{replicate, length-replicate, get_or-replicate}
use lib.Ieee.{Float, nan}
use Rattle.legendre.proofs.FilledArrays.{has_as}
use Rattle.legendre.proofs.Rows.{der_cong}
use Rattle.legendre.proofs.Added.{sums_as}

pub holds_at : {T : Tables} {t : Float} {w : List Float} {j : ℕ} (i : ℕ) → Holds T t j w → j ≡ i → Holds T t i w
holds_at {T} {t} {w} i h e = subst (λ (x : ℕ). Holds T t x w) e h

-- a row ends at its diagonal
pub past : (T : Tables) (t : Float) (j m : ℕ) → j ≤ m + 1 → scaled_row T t j m ≡ zero64
unfolding scaled_row
past T t zero m h = refl
past T t (suc zero) m h = refl
past T t (suc (suc k)) m h = rw (lt-ltb k m (omega arith))

pub row_is : (T : Tables) (t : Float) (n m : ℕ) → m ≤ n → next_by T t n (scaled_row T t (suc n)) (scaled_row T t n) m ≡ scaled_row T t (suc (suc n)) m
unfolding scaled_row
row_is T t n m h = rw (le-ltb n m h)

module _ (T : Tables) (t : Float) (n : ℕ) (q1 q2 : List Float) (h1 : Holds T t (suc n) q1) (h2 : Holds T t n q2) (small : n ≤ 180) where
  pub next_is : (m : ℕ) → m ≤ n → next_by T t n (at q1) (at q2) m ≡ scaled_row T t (suc (suc n)) m
  next_is m le =
      elim (dec_le n m) [
        | yes y ↦ rw (le-ltb m n y) (sym (rw (le-ltb m n y) at (sym (row_is T t n m le))))
        | no y ↦
            let l : m < n = omega arith in
            rw (lt-ltb m n l) (ap₂ (λ (x z : Float). step_at T.a T.b t (tri n + m) x z) (h1.at m (omega arith)) (h2.at m (omega arith)) ∙ (rw (lt-ltb m n l) at (row_is T t n m le)))
      ]

  pub holds_next : {w : List Float} → Begins (n + 1) (next_by T t n (at q1) (at q2)) q2 w → Holds T t (suc (suc n)) w
  holds_next r = record {
    len = r.len ∙ h2.len;
    at = λ m l.
        elim (dec_le m n) [
          | yes y ↦ r.set m (omega arith) ∙ next_is m y
          | no y ↦ r.rest m (omega arith) ∙ h2.at m l ∙ past T t n m (omega arith) ∙ sym (past T t (suc (suc n)) m (omega arith))
        ];
  }

  pub p_is : (u : Float) (r : List Float) {p : List Float} → ((m : ℕ) → m ≤ n → at r m ≡ unscale u m) → Has (n + 1) (λ (m : ℕ). next_by T t n (at q1) (at q2) m ⊗ at r m) p
      → Has (n + 1) (legendre_by T t u n) p
  p_is u r hr hp = has_as hp (λ m l. ap₂ (λ (x y : Float). x ⊗ y) (next_is m (omega arith)) (hr m (omega arith)))

pub d_is : (T : Tables) (t u : Float) (n : ℕ) {p d : List Float} → Has (n + 1) (legendre_by T t u n) p → Has (n + 1) (derived_row n (from T.lower (tri n)) (from T.upper (tri n)) (at p)) d
    → Has (n + 1) (derived_by T t u n) d
d_is T t u n hp hd =
    has_as hd (λ m l. der_cong n (from T.lower (tri n)) (from T.upper (tri n)) (λ i h. hp.set i (omega arith)) m (omega arith))

pub row_sums_are : (f : Evaluation) (n : ℕ) (x y : List Float) {p d : List Float} {v lat lon : Float} → ((m : ℕ) → m ≤ n → at x m ≡ cosines f.lon m) → ((m : ℕ) → m ≤ n → at y m ≡ sines f.lon m)
    → Has (n + 1) (legendre_by f.tables f.t f.u n) p → Has (n + 1) (derived_by f.tables f.t f.u n) d
    → RowSums (degree_of (from f.c (tri n)) (from f.s (tri n)) (at x) (at y) (at p) (at d)) (n + 1) v lat lon → RowSums (degrees f n) (n + 1) v lat lon
row_sums_are f n x y hx hy hp hd s = sums_as (λ m h. hx m (omega arith)) (λ m h. hy m (omega arith)) hp.set hd.set s

-- what an array has up to a degree it has up to a lower one
pub has_less : {g : ℕ → Float} {w : List Float} (N n : ℕ) → Has (N + 1) g w → n ≤ N → Has (n + 1) g w
has_less N n h l = record { len = h.len; set = λ i lt. h.set i (omega arith) }

-- the arrays as they are made hold the two rows before the first
pub zero_row : (T : Tables) (t : Float) (j : ℕ) → j ≤ 1 → Holds T t j (replicate 184 zero64)
zero_row T t j h =
    record { len = length-replicate 184 zero64; at = λ m l. get_or-replicate 184 m zero64 nan l ∙ sym (past T t j m (omega arith)) }
