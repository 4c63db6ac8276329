-- Laws of the numbers before the states: the field at a time, written over that of another, and the gravity of the field that they hold. Assumes nothing.
use Rattle.std.proofs.Common.{◌≡◌, ℕ, ◌+◌, ◌-◌, ◌*◌, ◌/◌, ◌<◌, ◌≤◌, true, false, not, ◌&&◌, T, eqb, leb, List, ◌++◌, length, get_or, take, drop, replicate, sym, refl, ap, ◌∙◌, arith, length-append, length-drop, take-append-drop, length-take-le, get_or-drop, get_or-take, take_at, get_or-append-add, ext_get_or, drop_at, le-leb, leb-true}
use mathlib.Core.Bool.{false≢true}
use native.Mathlib.Decide.{dec_le}
use lib.Ieee.{Float, nan, inf, fin, eq, is_nan}
use lib.ListN.{length-replicate, replicate-append-replicate}
use borrow.Rule.Slice.PartMut.{put_mid}
use Rattle.inputs.specs.Inputs.{Model, kind, field_size, front_size}
use Rattle.laws.specs.Floats.{zero64}
use Rattle.laws.specs.Tables.{tri}
use Rattle.laws.specs.Bools.{by, left_true, right_true}
use Rattle.vectors.specs.declared.Vector.{Vector}
use Rattle.forces.specs.Forces.{gravity_with}
use Rattle.forces.proofs.Published.{front_lent}
use Rattle.model.specs.Field.{gm, radius, cosines, sines}
use Rattle.model.specs.Model.{field_at, kind_at}
use Rattle.model.specs.Calls.{at_fits, sized, at_left}
use Rattle.model.proofs.Checks.{kind_long}
use Rattle.legendre.specs.Prepared.{prepared}
use Rattle.legendre.proofs.Published.{prepared_length as long, prepared_field, prepared_prepared}
use Rattle.integrate.specs.Force.{coefficients_at, gravity_at}
use Rattle.integrate.specs.Room.{Only}
use Rattle.integrate.specs.Work.{front_at}

-- a number that equals itself is no NaN
pub eq_no_nan : (x : Float) → eq x x ≡ true → T (not (is_nan x))
unfolding eq is_nan
eq_no_nan nan h = absurd (false≢true h)
eq_no_nan (inf s) h = tt
eq_no_nan (fin s m e) h = tt

-- ---- the field written over another

fits_room : (N f n a o : ℕ) → at_fits N f n a o ≡ true → 2 * tri (N + 1) ≤ o
unfolding at_fits
fits_room N f n a o h = leb-true (2 * tri (N + 1)) o (right_true (leb N 180 && eqb f (field_size N) && leb 2 n && leb n (a / field_size N)) (leb (2 * tri (N + 1)) o) h)

field_length : (M : Model) (t : Float) → length (field_at M t) ≡ 2 * tri (M.fixed.degree + 1)
field_length M t =
    let N : ℕ = M.fixed.degree in
    length-append (kind_at cosines M t) (kind_at (sines N) M t)
    ∙ omega (arith, kind_long cosines M t, kind_long (sines N) M t)

module _ (M : Model) where
  pub fitting : (t : Float) (out : List Float) → sized M (length out) ≡ true → at_left M t out ≡ field_at M t ++ drop (2 * tri (M.fixed.degree + 1)) out
  unfolding at_left
  fitting t out h = simp h

  unfitting : (t : Float) (out : List Float) → sized M (length out) ≡ false → at_left M t out ≡ out
  unfolding at_left
  unfitting t out h = simp h

  pub at_length : (t : Float) (out : List Float) → length (at_left M t out) ≡ length out
  at_length t out =
      by (sized M (length out))
      (λ h. ap length (fitting t out h) ∙ length-append (field_at M t) (drop (2 * tri (M.fixed.degree + 1)) out)
      ∙ omega (arith, field_length M t, length-drop (2 * tri (M.fixed.degree + 1)) out, fits_room M.fixed.degree _ _ _ _ h))
      (λ h. ap length (unfitting t out h))

  -- the later of two stays
  pub at_again : (t t' : Float) (out : List Float) → at_left M t (at_left M t' out) ≡ at_left M t out
  at_again t t' out =
      let n : ℕ = 2 * tri (M.fixed.degree + 1) in
      let old : List Float = at_left M t' out in
      by (sized M (length out))
      (λ h. fitting t old (ap (sized M) (at_length t' out) ∙ h)
      ∙ ap (λ (l : List Float). field_at M t ++ l) (ap (drop n) (fitting t' out h) ∙ drop_at (field_at M t') (drop n out) n (field_length M t'))
      ∙ sym (fitting t out h))
      (λ h. ap (at_left M t) (unfitting t' out h))

-- ---- the part before the states

pub prepared_length : (N : ℕ) (w : List Float) → length (prepared N w) ≡ length w
unfolding prepared
prepared_length N w =
    by (leb N 180 && leb (8 * tri (N + 1)) (length w))
    (λ h. long N w (leb-true N 180 (left_true (leb N 180) _ h)) (leb-true (8 * tri (N + 1)) (length w) (right_true (leb N 180) _ h)))
    (λ h. simp h)

pub front_length : (M : Model) (t : Float) → length (front_at M t) ≡ front_size M.fixed.degree
unfolding front_at
front_length M t =
    at_length M t (prepared M.fixed.degree (replicate (front_size M.fixed.degree) zero64))
    ∙ prepared_length M.fixed.degree (replicate (front_size M.fixed.degree) zero64) ∙ length-replicate (front_size M.fixed.degree) zero64

-- ---- the numbers before the states hold the field

-- the first numbers of a slice are kept where it is prepared
prepared_first : (N : ℕ) (w : List Float) → take (2 * tri (N + 1)) (prepared N w) ≡ take (2 * tri (N + 1)) w
unfolding prepared
prepared_first N w =
    by (leb N 180 && leb (8 * tri (N + 1)) (length w))
    (λ h. prepared_field N w (leb-true N 180 (left_true (leb N 180) _ h)) (leb-true (8 * tri (N + 1)) (length w) (right_true (leb N 180) _ h)))
    (λ h. simp h)

-- k of n or more zeros
some_zeros : (n k : ℕ) → k ≤ n → take k (replicate n zero64) ≡ replicate k zero64
some_zeros n k h =
    let e : n ≡ k + (n - k) = omega arith in
    ap (λ (m : ℕ). take k (replicate m zero64)) e ∙ ap (take k) (sym (replicate-append-replicate k (n - k) zero64))
    ∙ take_at (replicate k zero64) (replicate (n - k) zero64) k (length-replicate k zero64)

module _ (M : Model) (t : Float) where
  abbrev start : List Float
  start = prepared M.fixed.degree (replicate (front_size M.fixed.degree) zero64)

  start_length : length start ≡ front_size M.fixed.degree
  start_length = prepared_length M.fixed.degree (replicate (front_size M.fixed.degree) zero64) ∙ length-replicate (front_size M.fixed.degree) zero64

  -- there is room for the field
  start_fits : sized M (length start) ≡ sized M (2 * kind M.fixed.degree)
  unfolding at_fits
  start_fits =
      let n : ℕ = 2 * kind M.fixed.degree in
      ap (sized M) start_length ∙ rw (le-leb n (front_size M.fixed.degree) (omega arith), le-leb n n (omega arith)) refl

  coefficients_length : (k : ℕ) → length (coefficients_at k M t) ≡ tri (M.fixed.degree + 1)
  unfolding coefficients_at
  coefficients_length k =
      let long = kind_long k M t in
      by (sized M (2 * kind M.fixed.degree)) (λ h. rw h long) (λ h. rw h (length-replicate _ zero64 ∙ long))

  fit_coefficients : (k : ℕ) → sized M (2 * kind M.fixed.degree) ≡ true → coefficients_at k M t ≡ kind_at k M t
  unfolding coefficients_at
  fit_coefficients k h = simp h

  unfit_coefficients : (k : ℕ) → sized M (2 * kind M.fixed.degree) ≡ false → coefficients_at k M t ≡ replicate (tri (M.fixed.degree + 1)) zero64
  unfolding coefficients_at
  unfit_coefficients k h = rw h (ap (λ (n : ℕ). replicate n zero64) (kind_long k M t))

  -- the coefficients of both kinds, before the tables
  front_holds : front_at M t ≡ (coefficients_at cosines M t ++ coefficients_at (sines M.fixed.degree) M t) ++ drop (2 * tri (M.fixed.degree + 1)) start
  unfolding front_at
  front_holds =
      let n : ℕ = tri (M.fixed.degree + 1) in
      let two : n + n ≡ 2 * n = omega arith in
      by (sized M (2 * kind M.fixed.degree))
      (λ h. fitting M t start (start_fits ∙ h)
      ∙ (λ i. (sym (fit_coefficients cosines h) i ++ sym (fit_coefficients (sines M.fixed.degree) h) i) ++ drop (2 * n) start))
      (λ h. unfitting M t start (start_fits ∙ h)
      ∙ sym (take-append-drop (2 * n) start)
      ∙ ap (λ (l : List Float). l ++ drop (2 * n) start)
      (prepared_first M.fixed.degree (replicate (front_size M.fixed.degree) zero64) ∙ some_zeros (front_size M.fixed.degree) (2 * n) (omega arith)
      ∙ ap (λ (m : ℕ). replicate m zero64) (sym two) ∙ sym (replicate-append-replicate n n zero64)
      ∙ (λ i. sym (unfit_coefficients cosines h) i ++ sym (unfit_coefficients (sines M.fixed.degree) h) i)))

  -- so the kernel's gravity is that of the field at t
  pub front_gravity : (x : Vector) → gravity_with M.fixed.degree (gm M.fixed.static) (radius M.fixed.static) M.fixed.a M.fixed.b (front_at M t) x ≡ gravity_at M t x
  unfolding gravity_at
  front_gravity x =
      let N : ℕ = M.fixed.degree in
      ap (λ (w : List Float). gravity_with N (gm M.fixed.static) (radius M.fixed.static) M.fixed.a M.fixed.b w x) front_holds
      ∙ front_lent N (coefficients_at cosines M t) (coefficients_at (sines N) M t) start (coefficients_length cosines) (coefficients_length (sines N))
      (λ h. prepared_prepared N (replicate (front_size N) zero64) h (omega (arith, length-replicate (front_size N) zero64)))
      (gm M.fixed.static) (radius M.fixed.static) M.fixed.a M.fixed.b x

-- ---- the part before the states, written anew

module _ (n : ℕ) (w y : List Float) (h : n ≤ length w) (l : length y ≡ n) where
  zero_off : n - 0 ≡ n
  zero_off = omega arith

  put_is : put_mid 0 (n - 0) w y ≡ y ++ drop n w
  put_is = ap (λ (k : ℕ). y ++ drop k w) zero_off

  pub put_front : take n (put_mid 0 (n - 0) w y) ≡ y
  put_front = ap (take n) put_is ∙ take_at y (drop n w) n l

  pub put_only : Only 0 n w (put_mid 0 (n - 0) w y)
  put_only = record {
    long = ap length put_is ∙ length-append y (drop n w) ∙ omega (arith, length-drop n w);
    same = λ k f.
        let g : n ≤ k = beyond k f in
        let e : k ≡ length y + (k - n) = omega arith in
        ap (λ (v : List Float). get_or v k nan) put_is
        ∙ ap (λ (i : ℕ). get_or (y ++ drop n w) i nan) e
        ∙ get_or-append-add y (drop n w) (k - n) nan
        ∙ get_or-drop n w (k - n) nan
        ∙ ap (λ (i : ℕ). get_or w i nan) (omega arith);
  }
    where
      beyond : (k : ℕ) → (0 ≤ k → k < n → ⊥) → n ≤ k
      beyond k f = elim (dec_le n k) [
        | yes g ↦ g
        | no g ↦ absurd (f (omega arith) (omega arith))
      ]

-- a part that stayed
pub take_only : (n a e : ℕ) (w w' : List Float) → Only a e w w' → n ≤ a → n ≤ length w → take n w' ≡ take n w
take_only n a e w w' o h l =
    ext_get_or nan (take n w') (take n w) (length-take-le n w' (omega (arith, o.long)) ∙ sym (length-take-le n w l))
    (λ i b. let q : i < n = omega (arith, length-take-le n w' (omega (arith, o.long))) in
    get_or-take n w' i nan q ∙ o.same i (λ p r. omega arith) ∙ sym (get_or-take n w i nan q))
