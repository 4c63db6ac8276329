-- The calls that work in a prepared scratch slice: `derive`, `compute_with_derivative`, `partials`. Assumes nothing.
use Prim.Native.Nat.{ℕ, ◌+◌, ◌-◌, ◌*◌, ◌≤◌}
use mathlib.Core.Path.{◌≡◌, sym, ap, ap₂, subst, ◌∙◌}
use mathlib.Core.Bool.{Bool, ◌&&◌}
use mathlib.Core.List.{List, [], ◌∷◌, ◌++◌}
use native.Mathlib.Omega.{arith}
use borrow.Rule.Slice.PartMut.{put_mid}
use lib.ListN.{length, take, drop, get_or, length-drop, length-append}
use lib.Seq.{take_all, take-append-le, drop-append-le, drop_at, drop-drop, length-take-le}
use lib.Ieee.{Float, nan}
use lib.Ieee.Scale.{finite}
use Rattle.std.specs.List.{list_all}
use Rattle.laws.specs.Loops.{cleared, same_cleared}
use Rattle.laws.specs.Tables.{tri, rows, rows_length}
use Rattle.numbers.specs.Numbers.{sine, cosine}
use Rattle.slices.specs.Slices.{copied}
use Rattle.slices.specs.Calls.{Verdict, accepted, left}
use Rattle.slices.proofs.SliceLoops.{copied_all}
use Rattle.legendre.specs.Arrays.{from}
use Rattle.legendre.specs.Legendre.{derived}
use Rattle.legendre.specs.Rows.{legendre_by, derived_by}
use Rattle.legendre.specs.Field.{size, part, lent_tables, Fits, partials_by, partials_with}
use Rattle.legendre.specs.Prepared.{prepared}
use Rattle.legendre.specs.Tables.{derived_with, legendre_with, derivative_with}
use Rattle.legendre.specs.declared.Partials.{Partials}
use Rattle.legendre.proofs.Published.{IsPrepared, prepared_prepared, prepared_length, prepared_stays, prepared_partials, prepared_legendre, prepared_derived}
use Rattle.fields.specs.Calls.{handed_two, handed_one, two_tables, four_tables, refusal_of, compute_call, derive_call, partials_of_field}
use Rattle.fields.proofs.Refusals.{passed, two_say, four_say}
use Rattle.fields.proofs.Answers.{two_left, one_left}

-- ---- `derive`

pub derive_answered : (N : ℕ) (p dp w W d dp' w' : List Float) (r : Verdict) (v : Bool) → v ≡ list_all finite p
    → accepted ≡ refusal_of N (two_tables (size N) (length p) (length dp) (length w)) v → W ≡ prepared N w → d ≡ derived_with N p W dp → w' ≡ cleared W → left r (dp' ∷ []) [] ≡ handed_one d
    → left r (dp' ∷ []) w' ≡ derive_call N p dp w
derive_answered N p dp w W d dp' w' r v ev e e_w ed ew er =
    let q = passed N (two_tables (size N) (length p) (length dp) (length w)) v e in
    let f = two_say N (length p) (length dp) (length w) q.high q.shaped in
    let l_w : length W ≡ length w = ap length e_w ∙ prepared_length N w q.high f.work in
    let is : IsPrepared N W = subst (IsPrepared N) (sym e_w) (prepared_prepared N w q.high f.work) in
    let X : List Float = rows (derived (λ n. from p (tri n))) (N + 1) in
    let ex : d ≡ X = ed ∙ prepared_derived N p W dp (record { degree = q.high; a = f.a; b = f.b; work = omega (arith, f.work) }) is in
    one_left X dp w dp' w' r _ (e ∙ ap (refusal_of N (two_tables (size N) (length p) (length dp) (length w))) ev) (rows_length (derived (λ n. from p (tri n))) (N + 1) ∙ sym f.b)
    (ew ∙ same_cleared W w l_w) (er ∙ ap handed_one ex)

-- ---- `compute_with_derivative`

pub compute_answered : (N : ℕ) (a b : List Float) (lat : Float) (p dp w W x y p' dp' w' : List Float) (r : Verdict) (v : Bool) → v ≡ list_all finite a && (list_all finite b && finite lat)
    → accepted ≡ refusal_of N (four_tables (size N) (length a) (length b) (length p) (length dp) (length w)) v → W ≡ prepared N w
    → (x ≡ legendre_with N a b W lat p dp) × (y ≡ derivative_with N a b W lat p dp) → w' ≡ cleared W → left r (p' ∷ dp' ∷ []) [] ≡ handed_two x y →
    left r (p' ∷ dp' ∷ []) w' ≡ compute_call N a b lat p dp w
compute_answered N a b lat p dp w W x y p' dp' w' r v ev e e_w exy ew er =
    let q = passed N (four_tables (size N) (length a) (length b) (length p) (length dp) (length w)) v e in
    let f = four_say N (length a) (length b) (length p) (length dp) (length w) q.high q.shaped in
    let k = f.0.work in
    let l_w : length W ≡ length w = ap length e_w ∙ prepared_length N w q.high k in
    let is : IsPrepared N W = subst (IsPrepared N) (sym e_w) (prepared_prepared N w q.high k) in
    let both = prepared_legendre N a b W lat p dp (record { degree = q.high; a = f.0.a; b = f.0.b; work = omega arith })
    (record { degree = q.high; a = f.1.a; b = f.1.b; work = omega arith }) is in
    two_left (rows (legendre_by (lent_tables N a b) (sine lat) (cosine lat)) (N + 1)) (rows (derived_by (lent_tables N a b) (sine lat) (cosine lat)) (N + 1)) p dp w p' dp' w' r _
    (e ∙ ap (refusal_of N (four_tables (size N) (length a) (length b) (length p) (length dp) (length w))) ev)
    (rows_length (legendre_by (lent_tables N a b) (sine lat) (cosine lat)) (N + 1) ∙ sym f.1.a) (rows_length (derived_by (lent_tables N a b) (sine lat) (cosine lat)) (N + 1) ∙ sym f.1.b)
    (ew ∙ same_cleared W w l_w) (er ∙ ap₂ handed_two (exy.0 ∙ both.0) (exy.1 ∙ both.1))

-- ---- `partials`

-- a field put before the tables of a prepared slice
module _ (N : ℕ) (field w : List Float) (lf : length field ≡ 2 + 2 * size N) (h : N ≤ 180) (k : 8 * size N ≤ length w) where
  abbrev pub placed : List Float
  placed = drop 2 field ++ drop (2 * size N) (prepared N w)

  length_coefficients : length (drop 2 field) ≡ 2 * size N
  length_coefficients = length-drop 2 field ∙ omega arith

  placed_length : length placed ≡ length (prepared N w)
  placed_length =
      let l = prepared_length N w h k in
      length-append (drop 2 field) (drop (2 * size N) (prepared N w)) ∙ omega (arith, length_coefficients, length-drop (2 * size N) (prepared N w))

  placed_prepared : IsPrepared N placed
  placed_prepared =
      prepared_stays N (prepared N w) placed (sym placed_length) (sym (drop_at (drop 2 field) (drop (2 * size N) (prepared N w)) (2 * size N) length_coefficients)) (prepared_prepared N w h k)

  placed_cosines : part placed 0 (size N) ≡ take (size N) (drop 2 field)
  placed_cosines =
      let l : size N - 0 ≡ size N = omega arith in
      ap (λ (i : ℕ). take i placed) l
      ∙ take-append-le (size N) (drop 2 field) (drop (2 * size N) (prepared N w)) (omega (arith, length_coefficients))

  placed_sines : part placed (size N) (2 * size N) ≡ take (size N) (drop (2 + size N) field)
  placed_sines =
      let l : 2 * size N - size N ≡ size N = omega arith in
      ap (λ (i : ℕ). take i (drop (size N) placed)) l
      ∙ ap (take (size N)) (drop-append-le (size N) (drop 2 field) (drop (2 * size N) (prepared N w)) (omega (arith, length_coefficients)))
      ∙ take-append-le (size N) (drop (size N) (drop 2 field)) (drop (2 * size N) (prepared N w)) (omega (arith, length_coefficients, length-drop (size N) (drop 2 field)))
      ∙ ap (take (size N)) (drop-drop (size N) 2 field)

  pub placed_partials : (a b : List Float) (r lat lon : Float) → length a ≡ size N → length b ≡ size N →
      partials_with N (get_or field 0 nan) (get_or field 1 nan) a b placed r lat lon ≡ partials_of_field N field a b r lat lon
  placed_partials a b r lat lon la lb =
      prepared_partials N (get_or field 0 nan) (get_or field 1 nan) a b placed r lat lon h la lb placed_prepared
      ∙ ap₂ (λ (x y : List Float). partials_by N (get_or field 0 nan) (get_or field 1 nan) a b x y r lat lon) placed_cosines placed_sines

  pub placed_is : (l : ℕ) (W Y : List Float) → l ≡ size N → W ≡ prepared N w → Y ≡ copied (take (length field - 2) (drop 2 field)) (take (2 * l - 0) (drop 0 W)) → put_mid 0 (2 * l - 0) W Y ≡ placed
  placed_is l W Y el e_w e_y =
      let l_w : length W ≡ length w = ap length e_w ∙ prepared_length N w h k in
      let whole : take (length field - 2) (drop 2 field) ≡ drop 2 field = take_all (length field - 2) (drop 2 field) (omega (arith, length-drop 2 field)) in
      let l_y : length (take (2 * l - 0) (drop 0 W)) ≡ length (take (length field - 2) (drop 2 field)) =
      length-take-le (2 * l - 0) W (omega arith) ∙ sym (ap length whole ∙ length_coefficients ∙ omega arith) in
      let y : Y ≡ drop 2 field = e_y ∙ copied_all (take (length field - 2) (drop 2 field)) (take (2 * l - 0) (drop 0 W)) l_y ∙ whole in
      let i : 2 * l - 0 ≡ 2 * size N = omega arith in
      (λ j. y j ++ drop (i j) (e_w j))

pub partials_by_law : (N : ℕ) (field w a b : List Float) (r lat lon : Float) (l : ℕ) (W Y : List Float) (z : Partials) → length field ≡ 2 + 2 * size N → Fits N (length a) (length b) (length w)
    → l ≡ size N → W ≡ prepared N w →
    Y ≡ copied (take (length field - 2) (drop 2 field)) (take (2 * l - 0) (drop 0 W)) → z ≡ partials_with N (get_or field 0 nan) (get_or field 1 nan) a b (put_mid 0 (2 * l - 0) W Y) r lat lon →
    z ≡ partials_of_field N field a b r lat lon
partials_by_law N field w a b r lat lon l W Y z lf f el e_w e_y ez =
    ez ∙ ap (λ (work : List Float). partials_with N (get_or field 0 nan) (get_or field 1 nan) a b work r lat lon) (placed_is N field w lf f.degree f.work l W Y el e_w e_y)
    ∙ placed_partials N field w lf f.degree f.work a b r lat lon f.a f.b
