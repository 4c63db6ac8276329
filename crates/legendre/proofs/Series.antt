-- With the true tables an evaluation from given tables is the published series. Assumes nothing.
use Prim.Native.Nat.{ℕ, zero, suc, ◌+◌, ◌-◌, ◌≤◌, ◌<◌}
use mathlib.Core.Path.{◌≡◌, refl, sym, ap, ap₂, ◌∙◌}
use mathlib.Core.List.{List}
use native.Mathlib.Decide.{dec_le}
use native.Mathlib.Omega.{arith}
use borrow.Author.Tests.{lt-ltb, le-ltb, eq-eqb, ne_eqb}
use lib.ListN.{get_or}
use lib.Ieee.{Float, nan, neg}
use Rattle.laws.specs.Tables.{tri}
use Rattle.laws.specs.Floats.{◌⊕◌, ◌⊖◌, ◌⊗◌, zero64}
use Rattle.laws.specs.WholeNumbers.{number}
use Rattle.laws.specs.Sums.{sum_same}
use Rattle.legendre.specs.Legendre.{half64, unscale, derived_row, a_of, b_of, lower_of, upper_of, diagonal, step_of, column, legendre, derived}
use Rattle.legendre.specs.Arrays.{from}
use Rattle.legendre.specs.Rows.{Tables, step_at, scaled_row, legendre_by, derived_by}
use Rattle.legendre.specs.Sums.{degrees, evaluation, cosines, sines, power, row_v, row_lat, row_lon, all_v, all_r, all_lat, all_lon, published}
use Rattle.legendre.specs.Field.{totals}
use Rattle.legendre.proofs.Recur.{past, row_is}
use Rattle.legendre.proofs.Rows.{der_cong}

-- tables that hold the factors up to degree N
pub record TrueTables (N : ℕ) (T : Tables) : Type 0 where
  pub a : (n m : ℕ) → m < n → n ≤ N → from T.a (tri n) m ≡ a_of n m
  pub b : (n m : ℕ) → m < n → n ≤ N → from T.b (tri n) m ≡ b_of n m
  pub lower : (n m : ℕ) → 1 ≤ m → m ≤ n → n ≤ N → from T.lower (tri n) m ≡ lower_of n m
  pub upper : (n m : ℕ) → m < n → n ≤ N → from T.upper (tri n) m ≡ upper_of n m
  pub heads : (m : ℕ) → m ≤ N → get_or T.heads m nan ≡ diagonal m

module _ (N : ℕ) (T : Tables) (t : Float) (true : TrueTables N T) where
  -- one step below the diagonal, as the table's and as the published
  stepped : (n m : ℕ) (x y x' y' : Float) → m < n → n ≤ N → x ≡ x' → y ≡ y' → step_at T.a T.b t (tri n + m) x y ≡ step_of t n m x' y'
  stepped n m x y x' y' l h ex ey =
      ap₂ (λ (z w : Float). ((z ⊗ t) ⊗ x) ⊖ (w ⊗ y)) (true.a n m l h) (true.b n m l h)
      ∙ ap₂ (λ (z w : Float). step_of t n m z w) ex ey

  below : (n m : ℕ) → m < n → scaled_row T t (suc (suc n)) m ≡ step_at T.a T.b t (tri n + m) (scaled_row T t (suc n) m) (scaled_row T t n m)
  below n m l = sym (row_is T t n m (omega arith)) ∙ rw (lt-ltb m n l)

  -- the rows are the columns
  pub columns : (m d n : ℕ) → n ≡ m + d → n ≤ N → scaled_row T t (suc (suc n)) m ≡ column t m d
  unfolding column
  columns m zero n e h =
      let f : n ≡ m = omega arith in
      sym (row_is T t n m (omega arith)) ∙ rw (le-ltb m n (omega arith)) (true.heads n h ∙ ap diagonal f)
  columns m (suc zero) zero e h = absurd (omega arith)
  columns m (suc zero) (suc n) e h =
      below (suc n) m (omega arith)
      ∙ stepped (suc n) m _ _ (diagonal m) zero64 (omega arith) h (columns m zero n (omega arith) (omega arith)) (past T t (suc n) m (omega arith))
      ∙ ap (λ (x : ℕ). step_of t x m (diagonal m) zero64) e
  columns m (suc (suc d)) zero e h = absurd (omega arith)
  columns m (suc (suc d)) (suc zero) e h = absurd (omega arith)
  columns m (suc (suc d)) (suc (suc n)) e h =
      below (suc (suc n)) m (omega arith)
      ∙ stepped (suc (suc n)) m _ _ (column t m (suc d)) (column t m d) (omega arith) h (columns m (suc d) (suc n) (omega arith) (omega arith)) (columns m d n (omega arith) (omega arith))
      ∙ ap (λ (x : ℕ). step_of t x m (column t m (suc d)) (column t m d)) e

  pub p_true : (u : Float) (n m : ℕ) → m ≤ n → n ≤ N → legendre_by T t u n m ≡ legendre t u n m
  p_true u n m l h = ap (λ (x : Float). x ⊗ unscale u m) (columns m (n - m) n (omega arith) h)

-- the derivative's row is determined by its factors
pub factors : (n : ℕ) {low up low' up' : ℕ → Float} (p : ℕ → Float) → ((i : ℕ) → 1 ≤ i → i ≤ n → low i ≡ low' i) → ((i : ℕ) → i < n → up i ≡ up' i) → (m : ℕ) → m ≤ n
    → derived_row n low up p m ≡ derived_row n low' up' p m
factors n {low} {up} {low'} {up'} p el eu m le =
    elim (dec_le 1 n) [
      | no z ↦ rw (eq-eqb n 0 (omega arith))
      | yes h ↦
          rw (ne_eqb n 0 (λ e. absurd (omega arith)))
          (elim (dec_le 1 m) [
            | no z ↦ rw (eq-eqb m 0 (omega arith)) (ap (λ (x : Float). x ⊗ p 1) (eu 0 (omega arith)))
            | yes g ↦
                elim (dec_le n m) [
                  | yes l ↦
                      rw (ne_eqb m 0 (λ e. absurd (omega arith)), le-ltb m n l)
                      (ap (λ (x : Float). neg half64 ⊗ (x ⊗ p (m - 1) ⊖ zero64)) (el m g le))
                  | no l ↦
                      rw (ne_eqb m 0 (λ e. absurd (omega arith)), lt-ltb m n (omega arith))
                      (ap₂ (λ (x y : Float). neg half64 ⊗ (x ⊗ p (m - 1) ⊖ y ⊗ p (m + 1))) (el m g le) (eu m (omega arith)))
                ]
          ])
    ]

module _ (N : ℕ) (T : Tables) (t u : Float) (true : TrueTables N T) where
  pub d_true : (n m : ℕ) → m ≤ n → n ≤ N → derived_by T t u n m ≡ derived (legendre t u) n m
  d_true n m l h =
      der_cong n (from T.lower (tri n)) (from T.upper (tri n)) (λ i k. p_true N T t true u n i k h) m l
      ∙ factors n (legendre t u n) (λ i f g. true.lower n i f g h) (λ i g. true.upper n i g h) m l

  module _ (lon : Float) (c s : List Float) where
    v_true : (n : ℕ) → n ≤ N → row_v (degrees (evaluation T t u lon c s)) n ≡ row_v (published t u lon c s) n
    v_true n h = sum_same (n + 1) (λ m l. ap (λ (x : Float). x ⊗ (from c (tri n) m ⊗ cosines lon m ⊕ from s (tri n) m ⊗ sines lon m)) (p_true N T t true u n m (omega arith) h))

    lat_true : (n : ℕ) → n ≤ N → row_lat (degrees (evaluation T t u lon c s)) n ≡ row_lat (published t u lon c s) n
    lat_true n h = sum_same (n + 1) (λ m l. ap (λ (x : Float). x ⊗ (from c (tri n) m ⊗ cosines lon m ⊕ from s (tri n) m ⊗ sines lon m)) (d_true n m (omega arith) h))

    lon_true : (n : ℕ) → n ≤ N → row_lon (degrees (evaluation T t u lon c s)) n ≡ row_lon (published t u lon c s) n
    lon_true n h = sum_same (n + 1) (λ m l. ap (λ (x : Float). x ⊗ number m ⊗ (from s (tri n) m ⊗ cosines lon m ⊖ from c (tri n) m ⊗ sines lon m)) (p_true N T t true u n m (omega arith) h))

    r_true : (q : Float) (j : ℕ) → j ≤ N + 1 → all_r (degrees (evaluation T t u lon c s)) q j ≡ all_r (published t u lon c s) q j
    unfolding all_r
    r_true q zero h = refl
    r_true q (suc j) h = ap₂ (λ (x y : Float). x ⊖ number (j + 1) ⊗ power q j ⊗ y) (r_true q j (omega arith)) (v_true j (omega arith))

    -- the four sums are those of the published series
    pub series : (q : Float) → totals (degrees (evaluation T t u lon c s)) q (N + 1) ≡ totals (published t u lon c s) q (N + 1)
    unfolding all_v all_lat all_lon
    series q = λ i. record {
      v = sum_same (N + 1) (λ n l. ap (λ (x : Float). power q n ⊗ x) (v_true n (omega arith))) i;
      r = r_true q (N + 1) (omega arith) i;
      lat = sum_same (N + 1) (λ n l. ap (λ (x : Float). power q n ⊗ x) (lat_true n (omega arith))) i;
      lon = sum_same (N + 1) (λ n l. ap (λ (x : Float). power q n ⊗ x) (lon_true n (omega arith))) i;
    }
