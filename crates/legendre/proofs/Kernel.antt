-- The guarded calls: a work slice prepared part by part, a table where its length fits, an evaluation from the parts of a work slice. Assumes nothing.
use Prim.Native.Nat.{ℕ, ◌+◌, ◌-◌, ◌*◌, ◌≤◌, ◌<◌}
use mathlib.Core.Path.{◌≡◌, sym, ap, ap₂, ◌∙◌}
use mathlib.Core.Bool.{Bool, true, false}
use mathlib.Core.List.{List, ◌++◌, append_assoc}
use native.Mathlib.Omega.{arith}
use borrow.Author.Tests.{le-leb, lt-leb, eq-eqb, ne_eqb}
use borrow.Rule.Slice.PartMut.{put_mid, Post-is}
use lib.ListN.{length, take, drop, length-append, take-append-drop}
use lib.Seq.{take_at, drop_at, length-take-le}
use lib.Ieee.{Float}
use Rattle.laws.specs.Floats.{◌⊘◌}
use Rattle.laws.specs.Tables.{tri, row, rows, rows_length}
use Rattle.numbers.specs.Numbers.{sine_cosine}
use Rattle.numbers.specs.declared.SineCosine.{SineCosine}
use Rattle.legendre.specs.Legendre.{lower_of, upper_of, diagonal}
use Rattle.legendre.specs.Rows.{Tables}
use Rattle.legendre.specs.Sums.{evaluation, degrees}
use Rattle.legendre.specs.Field.{totals, finished, size, part, tables_in, evaluation_in, fits_in, Fits, nothing, partials_with}
use Rattle.legendre.specs.Prepared.{tabulated, prepared}
use Rattle.legendre.specs.declared.Totals.{Totals}
use Rattle.legendre.proofs.Filling.{fits_says}

-- ---- a table

module _ (f : ℕ → ℕ → Float) (N : ℕ) (out : List Float) where
  pub tabulated_over : 180 < N → out ≡ tabulated f N out
  unfolding tabulated
  tabulated_over h = rw (lt-leb N 180 h)

  pub tabulated_other : (l : ℕ) → N ≤ 180 → l ≡ tri (N + 1) → (length out ≡ l → ⊥) → out ≡ tabulated f N out
  unfolding tabulated
  tabulated_other l h e g = rw (le-leb N 180 h, ne_eqb (length out) (tri (N + 1)) (λ k. g (k ∙ sym e)))

  pub tabulated_is : (l : ℕ) (x : List Float) → N ≤ 180 → l ≡ tri (N + 1) → length out ≡ l → x ≡ rows f (N + 1) → x ≡ tabulated f N out
  unfolding tabulated
  tabulated_is l x h e g q = rw (le-leb N 180 h, eq-eqb (length out) (tri (N + 1)) (g ∙ e)) q

-- ---- a work slice

module _ (N : ℕ) (w : List Float) where
  pub prepared_over : 180 < N → w ≡ prepared N w
  unfolding prepared
  prepared_over h = rw (lt-leb N 180 h)

  pub prepared_short : (l : ℕ) → N ≤ 180 → l ≡ tri (N + 1) → length w < 8 * l → w ≡ prepared N w
  unfolding prepared
  prepared_short l h e g = rw (le-leb N 180 h, lt-leb (8 * tri (N + 1)) (length w) (omega arith))

-- a part put in behind u
put_in : (u w y : List Float) (b e : ℕ) → length u ≡ b → b ≤ e → put_mid b (e - b) (u ++ drop b w) y ≡ (u ++ y) ++ drop e w
put_in u w y b e l h =
    ap₂ (λ (p q : List Float). p ++ (y ++ drop (e - b) q)) (take_at u (drop b w) b l) (drop_at u (drop b w) b l)
    ∙ ap (λ (q : List Float). u ++ (y ++ q)) (Post-is b e w h) ∙ sym (append_assoc u y (drop e w))

pub prepared_is : (N l : ℕ) (w x y z : List Float) → N ≤ 180 → 8 * size N ≤ length w → l ≡ tri (N + 1) → x ≡ rows lower_of (N + 1) → y ≡ rows upper_of (N + 1) → z ≡ row diagonal (N + 1) →
    put_mid (4 * l) (4 * l + (N + 1) - 4 * l) (put_mid (3 * l) (4 * l - 3 * l) (put_mid (2 * l) (3 * l - 2 * l) w x) y) z ≡ prepared N w
unfolding prepared
prepared_is N l w x y z h g e ex ey ez =
    let u : List Float = take (2 * l) w in
    let lu : length u ≡ 2 * l = length-take-le (2 * l) w (omega arith) in
    let lx : length x ≡ l = ap length ex ∙ rows_length lower_of (N + 1) ∙ sym e in
    let ly : length y ≡ l = ap length ey ∙ rows_length upper_of (N + 1) ∙ sym e in
    let one : put_mid (2 * l) (3 * l - 2 * l) w x ≡ (u ++ x) ++ drop (3 * l) w =
    ap (λ (v : List Float). put_mid (2 * l) (3 * l - 2 * l) v x) (sym (take-append-drop (2 * l) w)) ∙ put_in u w x (2 * l) (3 * l) lu (omega arith) in
    let two : put_mid (3 * l) (4 * l - 3 * l) ((u ++ x) ++ drop (3 * l) w) y ≡ ((u ++ x) ++ y) ++ drop (4 * l) w =
    put_in (u ++ x) w y (3 * l) (4 * l) (length-append u x ∙ omega arith) (omega arith) in
    let three : put_mid (4 * l) (4 * l + (N + 1) - 4 * l) (((u ++ x) ++ y) ++ drop (4 * l) w) z ≡ (((u ++ x) ++ y) ++ z) ++ drop (4 * l + (N + 1)) w =
    put_in ((u ++ x) ++ y) w z (4 * l) (4 * l + (N + 1)) (length-append (u ++ x) y ∙ ap (λ (k : ℕ). k + length y) (length-append u x) ∙ omega arith) (omega arith) in
    let d : List Float = drop (4 * l + (N + 1)) w in
    let flat : (((u ++ x) ++ y) ++ z) ++ d ≡ u ++ (x ++ (y ++ (z ++ d))) =
    append_assoc ((u ++ x) ++ y) z d ∙ append_assoc (u ++ x) y (z ++ d) ∙ append_assoc u x (y ++ (z ++ d)) in
    ap (λ (v : List Float). put_mid (4 * l) (4 * l + (N + 1) - 4 * l) (put_mid (3 * l) (4 * l - 3 * l) v y) z) one
    ∙ ap (λ (v : List Float). put_mid (4 * l) (4 * l + (N + 1) - 4 * l) v z) two ∙ three ∙ flat
    ∙ (λ i. take (2 * e i) w ++ (ex i ++ (ey i ++ (ez i ++ drop (4 * e i + (N + 1)) w))))
    ∙ rw (le-leb N 180 h, le-leb (8 * tri (N + 1)) (length w) g)

-- ---- an evaluation

pub fits_true : (N a b w : ℕ) → Fits N a b w → fits_in N a b w ≡ true
fits_true N a b w f = rw (le-leb N 180 f.degree, eq-eqb a (size N) f.a, eq-eqb b (size N) f.b, le-leb (8 * size N) w f.work)

module _ (N : ℕ) (gm radius : Float) (a b work : List Float) (r lat lon : Float) where
  pub evaluated : Fits N (length a) (length b) (length work) → finished gm r (totals (degrees (evaluation_in N a b work lat lon)) (radius ⊘ r) (N + 1)) ≡ partials_with N gm radius a b work r lat lon
  unfolding partials_with
  evaluated f = rw (fits_true N (length a) (length b) (length work) f)

  pub partials_are : (l M : ℕ) (w : SineCosine) (T : Tables) (z : Totals) → Fits N (length a) (length b) (length work) → l ≡ tri (N + 1) → M ≡ N → w ≡ sine_cosine lat → T ≡ tables_in N a b work →
      z ≡ totals (degrees (evaluation T w.sine w.cosine lon (part work 0 l) (part work l (2 * l)))) (radius ⊘ r) (M + 1) → finished gm r z ≡ partials_with N gm radius a b work r lat lon
  unfolding sine_cosine
  partials_are l M w T z f el eM ew eT ez =
      ap (finished gm r) ez
      ∙ (λ i. finished gm r (totals (degrees (evaluation (eT i) (ew i).sine (ew i).cosine lon (part work 0 (el i)) (part work (el i) (2 * el i)))) (radius ⊘ r) (eM i + 1)))
      ∙ evaluated f

  pub partials_none : (y : Bool) → y ≡ fits_in N (length a) (length b) (length work) → y ≡ false → nothing ≡ partials_with N gm radius a b work r lat lon
  unfolding partials_with
  partials_none y e h = rw (sym e ∙ h)

pub fits_gives : (N a b w : ℕ) (y : Bool) → y ≡ fits_in N a b w → y ≡ true → Fits N a b w
fits_gives N a b w y e h = fits_says N a b w (sym e ∙ h)
