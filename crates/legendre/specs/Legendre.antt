-- The fully normalized associated Legendre functions and their derivatives by latitude, by degree n and order m (document 01, module 1;
-- legendre.rs): the forward column recursion of Holmes and Featherstone (2002, J. Geodesy 76, 279–299), scaled by 1e-280, every operation
-- in the source's order. Assumes nothing.
use Rattle.std.specs.Prelude.{ℕ, zero, suc, ◌+◌, ◌*◌, ◌-◌, cond, eqb, leb, ltb, Float}
use Rattle.std.specs.Float.Ieee.{neg}
use Rattle.std.specs.Float.{binary64}
use Rattle.root.specs.Root.{sqrt}
use Rattle.laws.specs.Floats.{◌⊕◌, ◌⊖◌, ◌⊗◌, ◌⊘◌, bits, zero64, one64, two64}
use Rattle.laws.specs.WholeNumbers.{number}

-- ---- constants: 0.5, 3.0, √2 and 1e-280
abbrev pub half64 : Float
half64 = bits 0x3fe0000000000000

abbrev pub three64 : Float
three64 = bits 0x4008000000000000

abbrev pub root2 : Float
root2 = bits 0x3ff6a09e667f3bcd

abbrev pub scale : Float
scale = bits 0x5cd0b15a491eb84

-- ---- the recursion's factors

-- √((2n−1)(2n+1) / ((n−m)(n+m))) below the diagonal
unfoldable pub a_of : ℕ → ℕ → Float
a_of n m =
    cond (eqb m n) zero64
    (sqrt binary64 ((two64 ⊗ number n ⊖ one64) ⊗ (two64 ⊗ number n ⊕ one64) ⊘ ((number n ⊖ number m) ⊗ (number n ⊕ number m))))

-- √((2n+1)(n+m−1)(n−m−1) / ((n−m)(n+m)(2n−3))) from two below the diagonal on
unfoldable pub b_of : ℕ → ℕ → Float
b_of n m =
    cond (leb n (m + 1)) zero64
    (sqrt binary64 ((two64 ⊗ number n ⊕ one64) ⊗ (number n ⊕ number m ⊖ one64) ⊗ (number n ⊖ number m ⊖ one64) ⊘
    ((number n ⊖ number m) ⊗ (number n ⊕ number m) ⊗ (two64 ⊗ number n ⊖ three64))))

-- the ratio under the root that takes the diagonal from m − 1 to m
abbrev pub ratio : ℕ → Float
ratio m = cond (eqb m 1) three64 (number (2 * m + 1) ⊘ number (2 * m))

-- P̄mm / cosᵐφ, scaled
unfoldable pub diagonal : ℕ → Float
diagonal zero = scale
diagonal (suc m) = diagonal m ⊗ sqrt binary64 (ratio (suc m))

-- ---- the functions, t and u being the latitude's sine and cosine

-- one step of the recursion within column m, to degree n
abbrev pub step_of : Float → ℕ → ℕ → Float → Float → Float
step_of t n m q1 q2 = a_of n m ⊗ t ⊗ q1 ⊖ b_of n m ⊗ q2

-- P̄nm / cosᵐφ, scaled, d degrees below the head of column m
unfoldable pub column : Float → ℕ → ℕ → Float
column t m zero = diagonal m
column t m (suc zero) = step_of t (m + suc zero) m (diagonal m) zero64
column t m (suc (suc d)) = step_of t (m + suc (suc d)) m (column t m (suc d)) (column t m d)

-- cosᵐφ / 1e-280, the factor that is applied last
unfoldable pub unscale : Float → ℕ → Float
unscale u zero = one64 ⊘ scale
unscale u (suc m) = unscale u m ⊗ u

-- P̄nm
abbrev pub legendre : Float → Float → ℕ → ℕ → Float
legendre t u n m = column t m (n - m) ⊗ unscale u m

-- ---- the derivative by latitude

-- k_m·√((n+m)(n−m+1)), with k_1 = √2 and 1 otherwise
unfoldable pub lower_of : ℕ → ℕ → Float
lower_of n m = cond (eqb m 1) root2 one64 ⊗ sqrt binary64 ((number n ⊕ number m) ⊗ (number n ⊖ number m ⊕ one64))

-- √((n−m)(n+m+1)), and √(n(n+1)/2) at m = 0
unfoldable pub upper_of : ℕ → ℕ → Float
upper_of n m =
    cond (eqb m 0) (sqrt binary64 (number n ⊗ (number n ⊕ one64) ⊘ two64))
    (sqrt binary64 ((number n ⊖ number m) ⊗ (number n ⊕ number m ⊕ one64)))

-- row n of the derivative of a table, from the factors' rows and the table's: −½(lower·p(m−1) − upper·p(m+1))
abbrev pub derived_row : ℕ → (ℕ → Float) → (ℕ → Float) → (ℕ → Float) → ℕ → Float
derived_row n lower upper p m =
    cond (eqb n 0) zero64
    (cond (eqb m 0) (upper 0 ⊗ p 1) (neg half64 ⊗ (lower m ⊗ p (m - 1) ⊖ cond (ltb m n) (upper m ⊗ p (m + 1)) zero64)))

-- the derivative of a table by degree and order
abbrev pub derived : (ℕ → ℕ → Float) → ℕ → ℕ → Float
derived p n = derived_row n (lower_of n) (upper_of n) (p n)
