-- The tables that `tabulate` fills and a prepared work slice are the true ones: the kernel's value is the published series. Assumes nothing.
use Prim.Native.Nat.{ℕ, zero, suc, ◌+◌, ◌-◌, ◌*◌, ◌≤◌, ◌<◌}
use mathlib.Core.Path.{◌≡◌, refl, sym, ap, ap₂, ◌∙◌, subst}
use mathlib.Core.Bool.{true}
use mathlib.Core.List.{List, ◌++◌, append_assoc}
use native.Mathlib.Omega.{arith}
use borrow.Author.Tests.{le-leb}
use lib.ListN.{length, take, drop, length-append, length-drop}
use lib.Seq.{take_at, drop_at, drop-drop, length-take-le}
use lib.Ieee.{Float}
use Rattle.laws.specs.Floats.{◌⊘◌}
use Rattle.laws.specs.Tables.{tri, row, rows, rows_at, row_at, row_same, rows_length, row_length}
use Rattle.numbers.specs.Numbers.{sine, cosine}
use Rattle.legendre.specs.Legendre.{a_of, b_of, lower_of, upper_of, diagonal, legendre, derived}
use Rattle.legendre.specs.Arrays.{from}
use Rattle.legendre.specs.Rows.{Tables, tables_of, legendre_by, derived_by}
use Rattle.legendre.specs.Sums.{evaluation, degrees}
use Rattle.legendre.specs.Field.{totals, finished, size, part, lent_tables, tables_in, Fits, partials_by, partials_with, partials_of}
use Rattle.legendre.specs.Prepared.{prepared}
use Rattle.legendre.specs.Tables.{derived_from, derived_with, both_fit, legendre_with, derivative_with}
use Rattle.legendre.proofs.Series.{TrueTables, p_true, d_true, series, factors}
use Rattle.legendre.proofs.Filling.{heads_in}
use Rattle.legendre.proofs.Kernel.{evaluated, fits_true}

-- a work slice whose tables are those of degree N
pub record IsPrepared (N : ℕ) (work : List Float) : Type 0 where
  pub room : 8 * size N ≤ length work
  pub lower : part work (2 * size N) (3 * size N) ≡ rows lower_of (N + 1)
  pub upper : part work (3 * size N) (4 * size N) ≡ rows upper_of (N + 1)
  pub heads : part work (4 * size N) (4 * size N + (N + 1)) ≡ row diagonal (N + 1)

true_tables : (N : ℕ) → TrueTables N (tables_of (rows a_of (N + 1)) (rows b_of (N + 1)) (rows lower_of (N + 1)) (rows upper_of (N + 1)) (row diagonal (N + 1)))
true_tables N = record {
  a = λ n m l h. rows_at a_of (N + 1) n m (omega arith) (omega arith);
  b = λ n m l h. rows_at b_of (N + 1) n m (omega arith) (omega arith);
  lower = λ n m l k h. rows_at lower_of (N + 1) n m (omega arith) k;
  upper = λ n m l h. rows_at upper_of (N + 1) n m (omega arith) (omega arith);
  heads = λ m h. row_at diagonal (N + 1) m (omega arith);
}

-- lent tables that `Legendre::new` filled give the published series
pub lent_published : (N : ℕ) (gm radius : Float) (c s : List Float) (r lat lon : Float)
    → partials_by N gm radius (rows a_of (N + 1)) (rows b_of (N + 1)) c s r lat lon ≡ partials_of N gm radius c s r lat lon
unfolding partials_by partials_of
lent_published N gm radius c s r lat lon = ap (finished gm r) (series N (lent_tables N (rows a_of (N + 1)) (rows b_of (N + 1))) (sine lat) (cosine lat) (true_tables N) lon c s (radius ⊘ r))

-- the same of the Legendre functions and their derivatives
pub lent_legendre : (N : ℕ) (t u : Float) (n m : ℕ) → m ≤ n → n ≤ N → legendre_by (lent_tables N (rows a_of (N + 1)) (rows b_of (N + 1))) t u n m ≡ legendre t u n m
lent_legendre N t u n m l h = p_true N (lent_tables N (rows a_of (N + 1)) (rows b_of (N + 1))) t (true_tables N) u n m l h

pub lent_derived : (N : ℕ) (t u : Float) (n m : ℕ) → m ≤ n → n ≤ N → derived_by (lent_tables N (rows a_of (N + 1)) (rows b_of (N + 1))) t u n m ≡ derived (legendre t u) n m
lent_derived N t u n m l h = d_true N (lent_tables N (rows a_of (N + 1)) (rows b_of (N + 1))) t u (true_tables N) n m l h

-- a prepared work slice adds the true tables to the lent ones
pub tables_are : (N : ℕ) (a b work : List Float) → IsPrepared N work → tables_in N a b work ≡ lent_tables N a b
tables_are N a b work p = λ i. tables_of a b (p.lower i) (p.upper i) (p.heads i)

pub prepared_partials : (N : ℕ) (gm radius : Float) (a b work : List Float) (r lat lon : Float) → N ≤ 180 → length a ≡ size N → length b ≡ size N → IsPrepared N work →
    partials_with N gm radius a b work r lat lon ≡ partials_by N gm radius a b (part work 0 (size N)) (part work (size N) (2 * size N)) r lat lon
unfolding partials_by
prepared_partials N gm radius a b work r lat lon h la lb p =
    sym (evaluated N gm radius a b work r lat lon (record { degree = h; a = la; b = lb; work = p.room }))
    ∙ ap (λ (T : Tables). finished gm r (totals (degrees (evaluation T (sine lat) (cosine lat) lon (part work 0 (size N)) (part work (size N) (2 * size N)))) (radius ⊘ r) (N + 1)))
    (tables_are N a b work p)

-- with the tables of `Legendre::new` and a prepared work slice, the kernel's value is the published series of the slice's C and S
pub published_partials : (N : ℕ) (gm radius : Float) (work : List Float) (r lat lon : Float) → N ≤ 180 → IsPrepared N work →
    partials_with N gm radius (rows a_of (N + 1)) (rows b_of (N + 1)) work r lat lon ≡ partials_of N gm radius (part work 0 (size N)) (part work (size N) (2 * size N)) r lat lon
published_partials N gm radius work r lat lon h p =
    prepared_partials N gm radius (rows a_of (N + 1)) (rows b_of (N + 1)) work r lat lon h (rows_length a_of (N + 1)) (rows_length b_of (N + 1)) p
    ∙ lent_published N gm radius (part work 0 (size N)) (part work (size N) (2 * size N)) r lat lon

-- ---- what `prepare` leaves is prepared

-- the part behind u
part_behind : (u x y : List Float) (a e : ℕ) → length u ≡ a → length x ≡ e - a → part (u ++ (x ++ y)) a e ≡ x
part_behind u x y a e h k = ap (take (e - a)) (drop_at u (x ++ y) a h) ∙ take_at x y (e - a) k

module _ (N : ℕ) (w : List Float) (h : N ≤ 180) (g : 8 * size N ≤ length w) where
  pub is_filled : prepared N w ≡ take (2 * size N) w ++ (rows lower_of (N + 1) ++ (rows upper_of (N + 1) ++ (row diagonal (N + 1) ++ drop (4 * size N + (N + 1)) w)))
  unfolding prepared
  is_filled = rw (le-leb N 180 h, le-leb (8 * size N) (length w) g)

  pub prepared_prepared : IsPrepared N (prepared N w)
  prepared_prepared =
      let u : List Float = take (2 * size N) w in
      let x : List Float = rows lower_of (N + 1) in
      let y : List Float = rows upper_of (N + 1) in
      let z : List Float = row diagonal (N + 1) in
      let d : List Float = drop (4 * size N + (N + 1)) w in
      let lu : length u ≡ 2 * size N = length-take-le (2 * size N) w (omega arith) in
      let lx : length x ≡ size N = rows_length lower_of (N + 1) in
      let ly : length y ≡ size N = rows_length upper_of (N + 1) in
      let lz : length z ≡ N + 1 = row_length diagonal (N + 1) in
      let ld : length d ≡ length w - (4 * size N + (N + 1)) = length-drop (4 * size N + (N + 1)) w in
      let lux : length (u ++ x) ≡ 3 * size N = length-append u x ∙ omega arith in
      let luxy : length ((u ++ x) ++ y) ≡ 4 * size N = length-append (u ++ x) y ∙ omega arith in
      let once : u ++ (x ++ (y ++ (z ++ d))) ≡ (u ++ x) ++ (y ++ (z ++ d)) = sym (append_assoc u x (y ++ (z ++ d))) in
      let twice : (u ++ x) ++ (y ++ (z ++ d)) ≡ ((u ++ x) ++ y) ++ (z ++ d) = sym (append_assoc (u ++ x) y (z ++ d)) in
      let len : length (u ++ (x ++ (y ++ (z ++ d)))) ≡ 4 * size N + (N + 1) + length d =
      ap length (once ∙ twice) ∙ length-append ((u ++ x) ++ y) (z ++ d) ∙ ap (λ (k : ℕ). length ((u ++ x) ++ y) + k) (length-append z d) ∙ omega arith in
      let k = heads_in N in
      subst (IsPrepared N) (sym is_filled) (record {
        room = omega arith;
        lower = part_behind u x (y ++ (z ++ d)) (2 * size N) (3 * size N) lu (omega arith);
        upper = ap (λ (v : List Float). part v (3 * size N) (4 * size N)) once ∙ part_behind (u ++ x) y (z ++ d) (3 * size N) (4 * size N) lux (omega arith);
        heads = ap (λ (v : List Float). part v (4 * size N) (4 * size N + (N + 1))) (once ∙ twice) ∙ part_behind ((u ++ x) ++ y) z d (4 * size N) (4 * size N + (N + 1)) luxy (omega arith);
      })

  pub prepared_length : length (prepared N w) ≡ length w
  prepared_length =
      let u : List Float = take (2 * size N) w in
      let x : List Float = rows lower_of (N + 1) in
      let y : List Float = rows upper_of (N + 1) in
      let z : List Float = row diagonal (N + 1) in
      let d : List Float = drop (4 * size N + (N + 1)) w in
      let lu : length u ≡ 2 * size N = length-take-le (2 * size N) w (omega arith) in
      let lx : length x ≡ size N = rows_length lower_of (N + 1) in
      let ly : length y ≡ size N = rows_length upper_of (N + 1) in
      let lz : length z ≡ N + 1 = row_length diagonal (N + 1) in
      let ld : length d ≡ length w - (4 * size N + (N + 1)) = length-drop (4 * size N + (N + 1)) w in
      let k = heads_in N in
      ap length is_filled ∙ simp (length-append) (omega arith)

  -- C and S are kept
  pub prepared_field : take (2 * size N) (prepared N w) ≡ take (2 * size N) w
  prepared_field =
      ap (take (2 * size N)) is_filled
      ∙ take_at (take (2 * size N) w) (rows lower_of (N + 1) ++ (rows upper_of (N + 1) ++ (row diagonal (N + 1) ++ drop (4 * size N + (N + 1)) w))) (2 * size N)
      (length-take-le (2 * size N) w (omega arith))

-- a work slice stays prepared where its field alone is written anew
part_later : (w w' : List Float) (k a e : ℕ) → k ≤ a → drop k w ≡ drop k w' → part w a e ≡ part w' a e
part_later w w' k a e h q =
    let s : k + (a - k) ≡ a = omega arith in
    ap (take (e - a)) (ap (λ (i : ℕ). drop i w) (sym s) ∙ sym (drop-drop (a - k) k w) ∙ ap (drop (a - k)) q ∙ drop-drop (a - k) k w' ∙ ap (λ (i : ℕ). drop i w') s)

pub prepared_stays : (N : ℕ) (w w' : List Float) → length w ≡ length w' → drop (2 * size N) w ≡ drop (2 * size N) w' → IsPrepared N w → IsPrepared N w'
prepared_stays N w w' l q p = record {
  room = omega (arith, p.room);
  lower = sym (part_later w w' (2 * size N) (2 * size N) (3 * size N) (omega arith) q) ∙ p.lower;
  upper = sym (part_later w w' (2 * size N) (3 * size N) (4 * size N) (omega arith) q) ∙ p.upper;
  heads = sym (part_later w w' (2 * size N) (4 * size N) (4 * size N + (N + 1)) (omega arith) q) ∙ p.heads;
}

-- whole tables by a prepared work slice
pub prepared_legendre : (N : ℕ) (a b work : List Float) (lat : Float) (p dp : List Float) → Fits N (length a) (length b) (length work) → Fits N (length p) (length dp) (length work)
    → IsPrepared N work →
    (legendre_with N a b work lat p dp ≡ rows (legendre_by (lent_tables N a b) (sine lat) (cosine lat)) (N + 1))
    × (derivative_with N a b work lat p dp ≡ rows (derived_by (lent_tables N a b) (sine lat) (cosine lat)) (N + 1))
unfolding legendre_with derivative_with
prepared_legendre N a b work lat p dp f g h =
    let e : both_fit N a b work p dp ≡ true = rw (fits_true N (length a) (length b) (length work) f, fits_true N (length p) (length dp) (length work) g) in (
      rw e (ap (λ (T : Tables). rows (legendre_by T (sine lat) (cosine lat)) (N + 1)) (tables_are N a b work h)),
      rw e (ap (λ (T : Tables). rows (derived_by T (sine lat) (cosine lat)) (N + 1)) (tables_are N a b work h)),
    )

-- two tables that hold the same are equal as lists
pub rows_same : (f g : ℕ → ℕ → Float) (k : ℕ) → ((n m : ℕ) → m ≤ n → n < k → f n m ≡ g n m) → rows f k ≡ rows g k
unfolding rows
rows_same f g zero h = refl
rows_same f g (suc k) h = ap₂ (λ (x y : List Float). x ++ y) (rows_same f g k (λ n m l j. h n m l (omega arith))) (row_same (f k) (g k) (suc k) (λ m l. h k m (omega arith) (omega arith)))

pub prepared_derived : (N : ℕ) (p work dp : List Float) → Fits N (length p) (length dp) (length work) → IsPrepared N work →
    derived_with N p work dp ≡ rows (derived (λ n. from p (tri n))) (N + 1)
unfolding derived_with
prepared_derived N p work dp f h =
    rw (fits_true N (length p) (length dp) (length work) f) (
    (λ i. rows (derived_from (h.lower i) (h.upper i) p) (N + 1))
    ∙ rows_same (derived_from (rows lower_of (N + 1)) (rows upper_of (N + 1)) p) (derived (λ n. from p (tri n))) (N + 1)
    (λ n m l k. factors n (from p (tri n)) (λ i a j. rows_at lower_of (N + 1) n i k j) (λ i j. rows_at upper_of (N + 1) n i k (omega arith)) m l)
    )
