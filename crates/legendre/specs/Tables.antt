-- Whole tables: the Legendre functions at a latitude and their derivative, from a work slice and lent tables as they are given. Assumes nothing.
use Rattle.std.specs.Prelude.{ℕ, ◌+◌, ◌*◌, Bool, cond, ◌&&◌, List, length, Float}
use Rattle.laws.specs.Tables.{tri, rows}
use Rattle.numbers.specs.Numbers.{sine, cosine}
use Rattle.legendre.specs.Arrays.{from}
use Rattle.legendre.specs.Legendre.{derived_row}
use Rattle.legendre.specs.Rows.{legendre_by, derived_by}
use Rattle.legendre.specs.Field.{size, part, tables_in, fits_in}

-- the derivative of the table p, with lists of factors
abbrev pub derived_from : List Float → List Float → List Float → ℕ → ℕ → Float
derived_from lower upper p n = derived_row n (from lower (tri n)) (from upper (tri n)) (from p (tri n))

-- in place of the list dp, where the lengths fit
unfoldable pub derived_with : ℕ → List Float → List Float → List Float → List Float
derived_with N p work dp =
    cond (fits_in N (length p) (length dp) (length work))
    (rows (derived_from (part work (2 * size N) (3 * size N)) (part work (3 * size N) (4 * size N)) p) (N + 1)) dp

abbrev pub both_fit : ℕ → List Float → List Float → List Float → List Float → List Float → Bool
both_fit N a b work p dp = fits_in N (length a) (length b) (length work) && fits_in N (length p) (length dp) (length work)

-- the Legendre table at a latitude, in place of p, and its derivative, in place of dp
unfoldable pub legendre_with : ℕ → List Float → List Float → List Float → Float → List Float → List Float → List Float
legendre_with N a b work lat p dp = cond (both_fit N a b work p dp) (rows (legendre_by (tables_in N a b work) (sine lat) (cosine lat)) (N + 1)) p

unfoldable pub derivative_with : ℕ → List Float → List Float → List Float → Float → List Float → List Float → List Float
derivative_with N a b work lat p dp = cond (both_fit N a b work p dp) (rows (derived_by (tables_in N a b work) (sine lat) (cosine lat)) (N + 1)) dp
