-- The tables of factors as lists, and the work slice with the tables that depend on the degree alone. Assumes nothing.
use Rattle.std.specs.Prelude.{◌≡◌, ℕ, ◌+◌, ◌*◌, cond, ◌&&◌, List, ◌++◌, eqb, leb, length, take, drop, Float}
use Rattle.laws.specs.Tables.{row, rows}
use Rattle.legendre.specs.Legendre.{lower_of, upper_of, diagonal}
use Rattle.legendre.specs.Field.{size}

-- what a call returns at degree n and order m of a table is f n m
abbrev pub Gives : (ℕ → ℕ → Float → Type 0) → (ℕ → ℕ → Float) → Type 0
Gives post f = (n m : ℕ) (x : Float) → post n m x → x ≡ f n m

-- the table of the factor f to degree N, in place of a list of L numbers
unfoldable pub tabulated : (ℕ → ℕ → Float) → ℕ → List Float → List Float
tabulated f N out = cond (leb N 180 && eqb (length out) (size N)) (rows f (N + 1)) out

-- a work slice of at least 8·L numbers is prepared: lower factors at 2·L, upper factors at 3·L, the diagonal at 4·L; the rest is kept
unfoldable pub prepared : ℕ → List Float → List Float
prepared N work =
    cond (leb N 180 && leb (8 * size N) (length work))
    (take (2 * size N) work ++ (rows lower_of (N + 1) ++ (rows upper_of (N + 1) ++ (row diagonal (N + 1) ++ drop (4 * size N + (N + 1)) work))))
    work
