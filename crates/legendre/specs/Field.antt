-- The potential and its partial derivatives by radius, latitude and longitude (synthesis.rs, `partials`): the published series, and the
-- kernel's value for tables as they are given. Assumes nothing.
use Rattle.std.specs.Prelude.{ℕ, ◌+◌, ◌*◌, ◌-◌, ◌≤◌, ◌≡◌, Bool, cond, ◌&&◌, List, eqb, leb, length, take, drop, Float}
use Rattle.laws.specs.Floats.{◌⊗◌, ◌⊘◌, zero64}
use Rattle.laws.specs.Tables.{tri, row, rows}
use Rattle.numbers.specs.Numbers.{sine, cosine}
use Rattle.legendre.specs.Legendre.{lower_of, upper_of, diagonal}
use Rattle.legendre.specs.Rows.{Tables, tables_of, lent}
use Rattle.legendre.specs.Sums.{Degree, Evaluation, evaluation, degrees, published, all_v, all_r, all_lat, all_lon}
use Rattle.legendre.specs.declared.Totals.{Totals}
use Rattle.legendre.specs.declared.evaluation.Terms.{Terms}
use Rattle.legendre.specs.declared.Partials.{Partials}

-- the four sums of a series over its first j degrees
abbrev pub totals : (ℕ → Degree) → Float → ℕ → Totals
totals f q j = record { v = all_v f q j; r = all_r f q j; lat = all_lat f q j; lon = all_lon f q j }

-- with the last factors GM/r and GM/r²
abbrev pub finished : Float → Float → Totals → Partials
finished gm r z =
    record { v = gm ⊘ r ⊗ z.v; dr = gm ⊘ r ⊘ r ⊗ z.r; dlat = gm ⊘ r ⊗ z.lat; dlon = gm ⊘ r ⊗ z.lon }

-- the partials of the series to degree N of the coefficients c, s
unfoldable pub partials_of : ℕ → Float → Float → List Float → List Float → Float → Float → Float → Partials
partials_of N gm radius c s r lat lon = finished gm r (totals (published (sine lat) (cosine lat) lon c s) (radius ⊘ r) (N + 1))

-- ---- from lent tables

-- lent tables a, b of the recursion, beside the true ones of the derivative and the diagonal
abbrev pub lent_tables : ℕ → List Float → List Float → Tables
lent_tables N a b = tables_of a b (rows lower_of (N + 1)) (rows upper_of (N + 1)) (row diagonal (N + 1))

-- the partials from lent tables; those that `Legendre::new` fills give the published series (proofs/Published)
unfoldable pub partials_by : ℕ → Float → Float → List Float → List Float → List Float → List Float → Float → Float → Float → Partials
partials_by N gm radius a b c s r lat lon =
    finished gm r (totals (degrees (evaluation (lent_tables N a b) (sine lat) (cosine lat) lon c s)) (radius ⊘ r) (N + 1))

-- ---- from a work slice

-- L, the length of a table of degree N
abbrev pub size : ℕ → ℕ
size N = tri (N + 1)

-- the part of a list from a up to e
abbrev pub part : List Float → ℕ → ℕ → List Float
part w a e = take (e - a) (drop a w)

-- the work slice: C, S, the derivative's lower and upper factors, the diagonal
abbrev pub tables_in : ℕ → List Float → List Float → List Float → Tables
tables_in N a b work =
    tables_of a b (part work (2 * size N) (3 * size N)) (part work (3 * size N) (4 * size N)) (part work (4 * size N) (4 * size N + (N + 1)))

-- of what the code carries as one
abbrev pub evaluation_of : Terms → Evaluation
evaluation_of g = evaluation (lent g.latitude.tables) g.latitude.sine g.latitude.cosine g.lon g.c.now g.s.now

abbrev pub evaluation_in : ℕ → List Float → List Float → List Float → Float → Float → Evaluation
evaluation_in N a b work lat lon =
    evaluation (tables_in N a b work) (sine lat) (cosine lat) lon (part work 0 (size N)) (part work (size N) (2 * size N))

-- the lengths that the kernel asks for: tables of L, a work slice of at least 8·L
abbrev pub fits_in : ℕ → ℕ → ℕ → ℕ → Bool
fits_in N a b work = leb N 180 && (eqb a (size N) && (eqb b (size N) && leb (8 * size N) work))

-- the same as facts
pub record Fits (N la lb lw : ℕ) : Type 0 where
  pub degree : N ≤ 180
  pub a : la ≡ size N
  pub b : lb ≡ size N
  pub work : 8 * size N ≤ lw

abbrev pub nothing : Partials
nothing = record { v = zero64; dr = zero64; dlat = zero64; dlon = zero64 }

-- the kernel's value: +0.0 where a length is not the one asked for
unfoldable pub partials_with : ℕ → Float → Float → List Float → List Float → List Float → Float → Float → Float → Partials
partials_with N gm radius a b work r lat lon =
    cond (fits_in N (length a) (length b) (length work)) (finished gm r (totals (degrees (evaluation_in N a b work lat lon)) (radius ⊘ r) (N + 1))) nothing
