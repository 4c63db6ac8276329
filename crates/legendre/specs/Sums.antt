-- The sums of the spherical harmonic series of the potential and its derivatives (synthesis.rs, `partials`): over the orders of a degree,
-- then over the degrees, from +0.0 on and in list order. Assumes nothing.
use Rattle.std.specs.Prelude.{ℕ, zero, suc, ◌+◌, ◌≡◌, List, Float}
use Rattle.laws.specs.Floats.{◌⊕◌, ◌⊖◌, ◌⊗◌, zero64, one64}
use Rattle.laws.specs.WholeNumbers.{number}
use Rattle.laws.specs.Tables.{tri}
use Rattle.laws.specs.Sums.{sum_to}
use Rattle.numbers.specs.Numbers.{sine, cosine}
use Rattle.legendre.specs.Arrays.{from}
use Rattle.legendre.specs.Legendre.{legendre, derived}
use Rattle.legendre.specs.Rows.{Tables, legendre_by, derived_by}

-- one degree, by order m: the coefficients, cos mλ, sin mλ, and the Legendre row with its derivative
pub record Degree : Type 0 where
  pub c : ℕ → Float
  pub s : ℕ → Float
  pub x : ℕ → Float
  pub y : ℕ → Float
  pub p : ℕ → Float
  pub d : ℕ → Float

abbrev pub degree_of : (ℕ → Float) → (ℕ → Float) → (ℕ → Float) → (ℕ → Float) → (ℕ → Float) → (ℕ → Float) → Degree
degree_of c s x y p d = record { c = c; s = s; x = x; y = y; p = p; d = d }

abbrev pub even : Degree → ℕ → Float
even g m = g.c m ⊗ g.x m ⊕ g.s m ⊗ g.y m

abbrev pub odd : Degree → ℕ → Float
odd g m = g.s m ⊗ g.x m ⊖ g.c m ⊗ g.y m

abbrev pub term_v : Degree → ℕ → Float
term_v g m = g.p m ⊗ even g m

abbrev pub term_lat : Degree → ℕ → Float
term_lat g m = g.d m ⊗ even g m

abbrev pub term_lon : Degree → ℕ → Float
term_lon g m = g.p m ⊗ number m ⊗ odd g m

-- the sums of degree n of a series over its orders
abbrev pub row_v : (ℕ → Degree) → ℕ → Float
row_v f n = sum_to (term_v (f n)) (n + 1)

abbrev pub row_lat : (ℕ → Degree) → ℕ → Float
row_lat f n = sum_to (term_lat (f n)) (n + 1)

abbrev pub row_lon : (ℕ → Degree) → ℕ → Float
row_lon f n = sum_to (term_lon (f n)) (n + 1)

-- q to the n, by repeated products
unfoldable pub power : Float → ℕ → Float
power q zero = one64
power q (suc n) = power q n ⊗ q

-- the sums of the first j degrees, q being the ratio of the radii
unfoldable pub all_v : (ℕ → Degree) → Float → ℕ → Float
all_v f q j = sum_to (λ n. power q n ⊗ row_v f n) j

unfoldable pub all_r : (ℕ → Degree) → Float → ℕ → Float
all_r f q zero = zero64
all_r f q (suc n) = all_r f q n ⊖ number (n + 1) ⊗ power q n ⊗ row_v f n

unfoldable pub all_lat : (ℕ → Degree) → Float → ℕ → Float
all_lat f q j = sum_to (λ n. power q n ⊗ row_lat f n) j

unfoldable pub all_lon : (ℕ → Degree) → Float → ℕ → Float
all_lon f q j = sum_to (λ n. power q n ⊗ row_lon f n) j

-- ---- the series of a field at a place

abbrev pub cosines : Float → ℕ → Float
cosines lon m = cosine (number m ⊗ lon)

abbrev pub sines : Float → ℕ → Float
sines lon m = sine (number m ⊗ lon)

-- the published series of coefficients c, s, lists in index order
abbrev pub published : Float → Float → Float → List Float → List Float → ℕ → Degree
published t u lon c s n = degree_of (from c (tri n)) (from s (tri n)) (cosines lon) (sines lon) (legendre t u n) (derived (legendre t u) n)

-- what an evaluation from given tables is made of: sine and cosine of the latitude, the longitude, the coefficients
pub record Evaluation : Type 0 where
  pub tables : Tables
  pub t : Float
  pub u : Float
  pub lon : Float
  pub c : List Float
  pub s : List Float

abbrev pub evaluation : Tables → Float → Float → Float → List Float → List Float → Evaluation
evaluation T t u lon c s = record { tables = T; t = t; u = u; lon = lon; c = c; s = s }

abbrev pub degrees : Evaluation → ℕ → Degree
degrees f n =
    degree_of (from f.c (tri n)) (from f.s (tri n)) (cosines f.lon) (sines f.lon) (legendre_by f.tables f.t f.u n)
    (derived_by f.tables f.t f.u n)

-- ---- words of the contracts

-- the sums of one degree over the first j orders
pub record RowSums (g : Degree) (j : ℕ) (v lat lon : Float) : Type 0 where
  pub sv : v ≡ sum_to (term_v g) j
  pub slat : lat ≡ sum_to (term_lat g) j
  pub slon : lon ≡ sum_to (term_lon g) j

-- the sums of the first j degrees, and the ratio's power
pub record AllSums (f : Evaluation) (q : Float) (j : ℕ) (v r lat lon qn : Float) : Type 0 where
  pub av : v ≡ all_v (degrees f) q j
  pub ar : r ≡ all_r (degrees f) q j
  pub alat : lat ≡ all_lat (degrees f) q j
  pub alon : lon ≡ all_lon (degrees f) q j
  pub aq : qn ≡ power q j
