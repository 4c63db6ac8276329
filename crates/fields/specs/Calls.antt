-- The public calls of module 1: which refusal, the work, what is left behind (document 01, "Outcomes"). Assumes nothing.
use Rattle.std.specs.Prelude.{ℕ, ◌+◌, ◌*◌, Bool, true, cond, ◌&&◌, List, [], ◌∷◌, eqb, leb, length, take, drop, get_or, Float, Result, Ok, Err}
use Rattle.std.specs.Float.{nan}
use Rattle.std.specs.Float.Ieee.Scale.{finite}
use Rattle.laws.specs.Floats.{◌⊗◌, ◌⊘◌}
use Rattle.std.specs.List.{list_all}
use Rattle.laws.specs.Checks.{degree_fine}
use Rattle.laws.specs.Tables.{tri, rows}
use Rattle.numbers.specs.Numbers.{sine, cosine}
use Rattle.slices.specs.Calls.{Verdict, accepted, Left, first_failed, handed, settled}
use Rattle.slices.specs.declared.refusal.Refusal.{Refusal}
use Rattle.slices.specs.declared.refusal.Refusal.TheVariants.{Degree, Count, Length, Value, NotFinite}
use Rattle.legendre.specs.Arrays.{from}
use Rattle.legendre.specs.Legendre.{a_of, b_of, derived}
use Rattle.legendre.specs.Rows.{legendre_by, derived_by}
use Rattle.legendre.specs.Field.{size, lent_tables, partials_by}
use Rattle.legendre.specs.declared.Partials.{Partials}
use Rattle.fields.specs.Rescaled.{rescaled_at}
use Rattle.fields.specs.declared.NorthEastUp.{NorthEastUp}

-- ---- calls without slices

-- `idx`: the place n(n + 1)/2 + m of degree n and order m, where m ≤ n ≤ 180
unfoldable pub index_of : ℕ → ℕ → Result ℕ Refusal
index_of n m = cond (leb m n && leb n 180) (Ok (tri n + m)) (Err Count)

-- north, east and up from the partials at radius r and a latitude
abbrev pub acceleration_of : Partials → Float → Float → NorthEastUp
acceleration_of p r lat = record { north = p.dlat ⊘ r; east = p.dlon ⊘ (r ⊗ cosine lat); up = p.dr }

abbrev pub finite_partials : Partials → Bool
finite_partials p = finite p.v && (finite p.dr && (finite p.dlat && finite p.dlon))

abbrev pub finite_neu : NorthEastUp → Bool
finite_neu a = finite a.north && (finite a.east && finite a.up)

-- `acceleration_neu`
unfoldable pub acceleration_call : Partials → Float → Float → Result NorthEastUp Refusal
acceleration_call p r lat =
    cond (finite_partials p && (finite r && finite lat))
    (cond (finite_neu (acceleration_of p r lat)) (Ok (acceleration_of p r lat)) (Err NotFinite)) (Err Value)

-- ---- refusals

-- two lists of l numbers, and scratch of at least 8·l
abbrev pub two_tables : ℕ → ℕ → ℕ → ℕ → Bool
two_tables l x y scratch = eqb x l && (eqb y l && leb (8 * l) scratch)

-- a field too: GM, radius, l cosine and l sine coefficients
abbrev pub field_and : ℕ → ℕ → ℕ → ℕ → ℕ → Bool
field_and l field x y scratch = eqb field (2 + 2 * l) && two_tables l x y scratch

-- two pairs of lists
abbrev pub four_tables : ℕ → ℕ → ℕ → ℕ → ℕ → ℕ → Bool
four_tables l a b p dp scratch = two_tables l a b scratch && two_tables l p dp scratch

-- lengths, then numbers
abbrev pub unfit : Bool → Bool → Verdict
unfit shape values = first_failed ((shape, Length) ∷ (values, Value) ∷ [])

-- the degree before them
abbrev pub refusal_of : ℕ → Bool → Bool → Verdict
refusal_of N shape values = first_failed ((degree_fine N, Degree) ∷ (shape, Length) ∷ (values, Value) ∷ [])

-- ---- calls that fill tables

-- two lists handed out, scratch apart
abbrev pub handed_two : List Float → List Float → Left Verdict
handed_two x y = handed tt (list_all (list_all finite) (x ∷ y ∷ [])) (x ∷ y ∷ []) (x ∷ y ∷ []) []

abbrev pub handed_one : List Float → Left Verdict
handed_one x = handed tt (list_all (list_all finite) (x ∷ [])) (x ∷ []) (x ∷ []) []

-- `legendre_new`
abbrev pub new_call : ℕ → List Float → List Float → List Float → Left Verdict
new_call N a b scratch =
    settled (refusal_of N (two_tables (size N) (length a) (length b) (length scratch)) true) accepted (rows a_of (N + 1) ∷ rows b_of (N + 1) ∷ [])
    (a ∷ b ∷ []) scratch

-- `rescaled`: the cosine coefficients begin at 2, the sine coefficients at 2 + L
abbrev pub rescaled_call : ℕ → List Float → Float → Float → List Float → List Float → List Float → Left Verdict
rescaled_call N field gm radius c s scratch =
    settled (refusal_of N (field_and (size N) (length field) (length c) (length s) (length scratch))
    (list_all finite field && (finite gm && finite radius))) accepted
    (rows (rescaled_at 2 gm radius field) (N + 1) ∷ rows (rescaled_at (2 + size N) gm radius field) (N + 1) ∷ []) (c ∷ s ∷ []) scratch

-- `compute_with_derivative`
abbrev pub compute_call : ℕ → List Float → List Float → Float → List Float → List Float → List Float → Left Verdict
compute_call N a b lat p dp scratch =
    settled (refusal_of N (four_tables (size N) (length a) (length b) (length p) (length dp) (length scratch))
    (list_all finite a && (list_all finite b && finite lat))) accepted
    (rows (legendre_by (lent_tables N a b) (sine lat) (cosine lat)) (N + 1) ∷ rows (derived_by (lent_tables N a b) (sine lat) (cosine lat)) (N + 1) ∷ [])
    (p ∷ dp ∷ []) scratch

-- `derive`
abbrev pub derive_call : ℕ → List Float → List Float → List Float → Left Verdict
derive_call N p dp scratch =
    settled (refusal_of N (two_tables (size N) (length p) (length dp) (length scratch)) (list_all finite p)) accepted
    (rows (derived (λ n. from p (tri n))) (N + 1) ∷ []) (dp ∷ []) scratch

-- ---- `partials`

-- of a field's list: the first number is GM, the second the radius
abbrev pub partials_of_field : ℕ → List Float → List Float → List Float → Float → Float → Float → Partials
partials_of_field N field a b r lat lon =
    partials_by N (get_or field 0 nan) (get_or field 1 nan) a b (take (size N) (drop 2 field)) (take (size N) (drop (2 + size N) field)) r lat lon

-- the value before a test of it, by whether the numbers are fine that are lent or given
abbrev pub untested_call : ℕ → List Float → List Float → List Float → Bool → Float → Float → Float → List Float → Left (Result Partials Refusal)
untested_call N field a b values r lat lon scratch =
    settled (refusal_of N (field_and (size N) (length field) (length a) (length b) (length scratch)) values)
    (Ok (partials_of_field N field a b r lat lon)) [] [] scratch

-- those numbers
abbrev pub place_fine : List Float → List Float → List Float → Float → Float → Float → Bool
place_fine field a b r lat lon = list_all finite field && (list_all finite a && (list_all finite b && (finite r && (finite lat && finite lon))))

abbrev pub judged_partials : Partials → Result Partials Refusal
judged_partials z = cond (finite_partials z) (Ok z) (Err NotFinite)

abbrev pub partials_call : ℕ → List Float → List Float → List Float → Float → Float → Float → List Float → Left (Result Partials Refusal)
partials_call N field a b r lat lon scratch =
    settled (refusal_of N (field_and (size N) (length field) (length a) (length b) (length scratch)) (place_fine field a b r lat lon))
    (judged_partials (partials_of_field N field a b r lat lon)) [] [] scratch
