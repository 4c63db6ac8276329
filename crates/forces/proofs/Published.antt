-- From tables to the published series: with the Legendre tables that `Legendre::new` fills, each gravity is `gravity_of` of its coefficients. Assumes nothing.
use mathlib.Core.Path.{◌≡◌, refl, sym, ap, ap₂, ◌∙◌}
use mathlib.Core.Bool.{Bool, true, false, ◌&&◌, false≢true}
use mathlib.Core.List.{List, ◌++◌, append_assoc}
use Prim.Native.Nat.{ℕ, ◌+◌, ◌*◌, ◌-◌, ◌≤◌}
use native.Mathlib.Omega.{arith}
use borrow.Author.Tests.{leb-true, eqb-true}
use lib.Dec.{leb, eqb}
use lib.ListN.{length, take, drop, get_or, length-append, length-drop}
use lib.Seq.{take_at, drop_at}
use lib.Ieee.{Float, nan}
use Rattle.laws.specs.Bools.{by, both_true}
use Rattle.laws.specs.Tables.{rows}
use Rattle.legendre.specs.Legendre.{a_of, b_of}
use Rattle.legendre.specs.Field.{size, part, partials_by, partials_with}
use Rattle.legendre.proofs.Published.{IsPrepared, lent_published, prepared_partials, prepared_stays}
use Rattle.solid_tide.specs.Gravity.{gradient, gravity_of}
use Rattle.solid_tide.specs.Tide.{place_of}
use Rattle.solid_tide.specs.declared.kernel.Place.{Place}
use Rattle.vectors.specs.declared.Vector.{Vector}
use Rattle.forces.specs.Forces.{gravity_by, tables_sized, gravity_lent, gravity_with}
use Rattle.forces.specs.Calls.{gravity_of_field}

-- the gravity by those tables is that of the published series
pub lent_gravity : (N : ℕ) (gm radius : Float) (c s : List Float) (x : Vector) →
    gravity_by N gm radius (rows a_of (N + 1)) (rows b_of (N + 1)) c s x ≡ gravity_of N gm radius c s x
unfolding gravity_by gravity_of
lent_gravity N gm radius c s x =
    let at : Place = place_of x in
    ap (gradient at) (lent_published N gm radius c s at.r at.lat at.lon)

-- so is the value of the call `gravity`, of the field's coefficients
pub field_gravity_law : (N : ℕ) (field : List Float) (x : Vector) →
    gravity_of_field N field (rows a_of (N + 1)) (rows b_of (N + 1)) x ≡ gravity_of N (get_or field 0 nan) (get_or field 1 nan) (take (size N) (drop 2 field)) (take (size N) (drop (2 + size N) field)) x
unfolding gravity_of_field
field_gravity_law N field x = lent_gravity N (get_or field 0 nan) (get_or field 1 nan) (take (size N) (drop 2 field)) (take (size N) (drop (2 + size N) field)) x

-- ---- a work slice: coefficients c and s before the tables of a prepared slice p

module _ (N : ℕ) (c s p : List Float) (lc : length c ≡ size N) (ls : length s ≡ size N) (prep : IsPrepared N p) where
  front_length : length (c ++ s) ≡ 2 * size N
  front_length = length-append c s ∙ omega arith

  front_prepared : IsPrepared N ((c ++ s) ++ drop (2 * size N) p)
  front_prepared =
      prepared_stays N p ((c ++ s) ++ drop (2 * size N) p)
      (sym (length-append (c ++ s) (drop (2 * size N) p) ∙ omega (arith, front_length, length-drop (2 * size N) p, prep.room)))
      (sym (drop_at (c ++ s) (drop (2 * size N) p) (2 * size N) front_length)) prep

  front_cosines : part ((c ++ s) ++ drop (2 * size N) p) 0 (size N) ≡ c
  front_cosines =
      ap (take (size N - 0)) (append_assoc c s (drop (2 * size N) p)) ∙ take_at c (s ++ drop (2 * size N) p) (size N - 0) (omega arith)

  front_sines : part ((c ++ s) ++ drop (2 * size N) p) (size N) (2 * size N) ≡ s
  front_sines =
      ap (λ (w : List Float). part w (size N) (2 * size N)) (append_assoc c s (drop (2 * size N) p))
      ∙ ap (take (2 * size N - size N)) (drop_at c (s ++ drop (2 * size N) p) (size N) lc)
      ∙ take_at s (drop (2 * size N) p) (2 * size N - size N) (omega arith)

  -- the kernel's gravity is that of c and s
  pub front_gravity : (gm radius : Float) (a b : List Float) (x : Vector) → N ≤ 180 → length a ≡ size N → length b ≡ size N →
      gravity_with N gm radius a b ((c ++ s) ++ drop (2 * size N) p) x ≡ gravity_by N gm radius a b c s x
  unfolding gravity_with gravity_by
  front_gravity gm radius a b x h la lb =
      let at : Place = place_of x in
      ap (gradient at)
      (prepared_partials N gm radius a b ((c ++ s) ++ drop (2 * size N) p) at.r at.lat at.lon h la lb front_prepared
      ∙ ap₂ (λ (u v : List Float). partials_by N gm radius a b u v at.r at.lat at.lon) front_cosines front_sines)

-- ---- tables of any length

-- a fourth test changes nothing where one of three fails
fourth : (a b c d : Bool) → (a && (b && c)) ≡ false → (a && (b && (c && d))) ≡ false
fourth true true false d h = refl
fourth true true true d h = absurd (false≢true (sym h))
fourth true false c d h = refl
fourth false b c d h = refl

-- the kernel's gravity is that of c and s, by the same case
pub front_lent : (N : ℕ) (c s p : List Float) → length c ≡ size N → length s ≡ size N → (N ≤ 180 → IsPrepared N p) → (gm radius : Float) (a b : List Float) (x : Vector) →
    gravity_with N gm radius a b ((c ++ s) ++ drop (2 * size N) p) x ≡ gravity_lent N gm radius a b c s x
unfolding gravity_with partials_with gravity_lent
front_lent N c s p lc ls prep gm radius a b x =
    let w : List Float = (c ++ s) ++ drop (2 * size N) p in
    by (tables_sized N a b)
    (λ h.
    let d = both_true (leb N 180) (eqb (length a) (size N) && eqb (length b) (size N)) h in
    let e = both_true (eqb (length a) (size N)) (eqb (length b) (size N)) d.1 in
    let n : N ≤ 180 = leb-true N 180 d.0 in
    front_gravity N c s p lc ls (prep n) gm radius a b x n (eqb-true (length a) (size N) e.0) (eqb-true (length b) (size N) e.1) ∙ sym (simp h))
    (λ h. simp (h, fourth (leb N 180) (eqb (length a) (size N)) (eqb (length b) (size N)) (leb (8 * size N) (length w)) h))
