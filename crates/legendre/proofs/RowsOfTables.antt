-- Rows of arrays as rows of whole tables. Assumes nothing.
use Prim.Native.Nat.{ℕ, ◌+◌, ◌*◌}
use mathlib.Core.Path.{◌≡◌, sym, ap, ◌∙◌}
use mathlib.Core.Bool.{Bool, true, false}
use mathlib.Core.List.{List}
use native.Mathlib.Omega.{arith}
use lib.ListN.{length}
use lib.Ieee.{Float}
use Rattle.laws.specs.Tables.{tri, row, rows, row_same}
use Rattle.numbers.specs.Numbers.{sine_cosine}
use Rattle.numbers.specs.declared.SineCosine.{SineCosine}
use Rattle.legendre.specs.Legendre.{derived_row}
use Rattle.legendre.specs.Arrays.{at, from, Has}
use Rattle.legendre.specs.Rows.{Tables, legendre_by, derived_by}
use Rattle.legendre.specs.Field.{part, tables_in, fits_in, Fits}
use Rattle.legendre.specs.Tables.{derived_from, derived_with, both_fit, legendre_with, derivative_with}
use Rattle.legendre.proofs.Rows.{der_cong}
use Rattle.legendre.proofs.Kernel.{fits_true}

-- an array that holds g, as a row
pub row_has : {j : ℕ} {g : ℕ → Float} {w : List Float} → Has j g w → row (at w) j ≡ row g j
row_has {j} {g} {w} h = row_same (at w) g j h.set

pub derived_has : (n k : ℕ) (low up : ℕ → Float) (p x d : List Float) → Has (n + 1) (from p k) x → Has (n + 1) (derived_row n low up (at x)) d →
    row (at d) (n + 1) ≡ row (derived_row n low up (from p k)) (n + 1)
derived_has n k low up p x d hx hd =
    row_same (at d) (derived_row n low up (from p k)) (n + 1) (λ m l. hd.set m l ∙ der_cong n low up (λ i h. hx.set i (omega arith)) m (omega arith))

-- ---- the guards

pub derived_is : (N l : ℕ) (p work dp x : List Float) → Fits N (length p) (length dp) (length work) → l ≡ tri (N + 1) →
    x ≡ rows (derived_from (part work (2 * l) (3 * l)) (part work (3 * l) (4 * l)) p) (N + 1) → x ≡ derived_with N p work dp
unfolding derived_with
derived_is N l p work dp x f e ex =
    rw (fits_true N (length p) (length dp) (length work) f)
    (ex ∙ ap (λ (k : ℕ). rows (derived_from (part work (2 * k) (3 * k)) (part work (3 * k) (4 * k)) p) (N + 1)) e)

pub derived_not : (N : ℕ) (p work dp : List Float) (y : Bool) → y ≡ fits_in N (length p) (length dp) (length work) → y ≡ false → dp ≡ derived_with N p work dp
unfolding derived_with
derived_not N p work dp y e h = rw (sym e ∙ h)

both_fit_law : (N : ℕ) (a b work p dp : List Float) → Fits N (length a) (length b) (length work) → Fits N (length p) (length dp) (length work) → both_fit N a b work p dp ≡ true
both_fit_law N a b work p dp f g = rw (fits_true N (length a) (length b) (length work) f, fits_true N (length p) (length dp) (length work) g)

module _ (N : ℕ) (a b work : List Float) (lat : Float) (p dp : List Float) where
  pub computed_is : (M : ℕ) (w : SineCosine) (T : Tables) (x y : List Float) → Fits N (length a) (length b) (length work) → Fits N (length p) (length dp) (length work) → M ≡ N → w ≡ sine_cosine lat →
      T ≡ tables_in N a b work → x ≡ rows (legendre_by T w.sine w.cosine) (M + 1) → y ≡ rows (derived_by T w.sine w.cosine) (M + 1) →
      (x ≡ legendre_with N a b work lat p dp) × (y ≡ derivative_with N a b work lat p dp)
  unfolding legendre_with derivative_with sine_cosine
  computed_is M w T x y f g eM ew eT ex ey = (
    ex ∙ (λ i. rows (legendre_by (eT i) (ew i).sine (ew i).cosine) (eM i + 1)) ∙ rw (both_fit_law N a b work p dp f g),
    ey ∙ (λ i. rows (derived_by (eT i) (ew i).sine (ew i).cosine) (eM i + 1)) ∙ rw (both_fit_law N a b work p dp f g),
  )

  pub computed_not : both_fit N a b work p dp ≡ false → (p ≡ legendre_with N a b work lat p dp) × (dp ≡ derivative_with N a b work lat p dp)
  unfolding legendre_with derivative_with
  computed_not h = (rw h, rw h)
