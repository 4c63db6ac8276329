-- Tables and the diagonal filled from the front; what the guards say. Assumes nothing.
use Prim.Native.Nat.{ℕ, ◌+◌, ◌*◌, ◌≤◌, ◌<◌}
use mathlib.Core.Path.{◌≡◌, refl, sym, ap, ap₂, ◌∙◌}
use mathlib.Core.Bool.{true, ◌&&◌}
use mathlib.Core.List.{List, [], ◌∷◌, ◌++◌}
use native.Mathlib.Omega.{arith}
use native.Mathlib.Numerals.{add-one}
use borrow.Author.Tests.{leb-true, eqb-true}
use lib.Dec.{eqb, leb}
use lib.ListN.{length, take, set}
use lib.Ieee.{Float, binary64}
use Rattle.root.specs.Root.{sqrt}
use Rattle.laws.specs.Floats.{◌⊗◌}
use Rattle.laws.specs.Loops.{take_set}
use Rattle.laws.specs.Tables.{tri, row, rows, tri_next, rows_turn, rows_done}
use Rattle.laws.specs.Bools.{both_true}
use Rattle.legendre.specs.Legendre.{ratio, diagonal}
use Rattle.legendre.specs.Field.{size, fits_in, Fits}

-- ---- a row

-- ---- rows

pub rows_none : (f : ℕ → ℕ → Float) (out : List Float) → take (tri 0) out ≡ rows f 0
unfolding rows tri
rows_none f out = refl

pub rows_more : (f : ℕ → ℕ → Float) (out out' : List Float) (k n : ℕ) → k ≡ tri n → take (tri n) out ≡ rows f n → take (k + (n + 1)) out' ≡ take k out ++ row (f n) (n + 1) →
    take (tri (n + 1)) out' ≡ rows f (n + 1)
rows_more f out out' k n e inv h =
    ap (λ (i : ℕ). take i out') {x = tri (n + 1)} {y = k + (n + 1)} (omega (arith, tri_next n))
    ∙ rows_turn f out out' k n (ap (λ (i : ℕ). take i out) e ∙ inv) h

-- the row of the degree m, which begins at k
pub rows_next : (f : ℕ → ℕ → Float) (out out' : List Float) (n k m : ℕ) → take (tri n) out ≡ rows f n → m ≡ n → k ≡ tri m → take (k + (m + 1)) out' ≡ take k out ++ row (f m) (m + 1) →
    take (tri (n + 1)) out' ≡ rows f (n + 1)
rows_next f out out' n k m inv e b h =
    rows_more f out out' k n (b ∙ ap tri e) inv (rw e at h)

pub rows_full : (f : ℕ → ℕ → Float) (out : List Float) (n N : ℕ) → take (tri n) out ≡ rows f n → n ≡ N + 1 → length out ≡ tri (N + 1) → out ≡ rows f (N + 1)
rows_full f out n N inv e h = rows_done f out (tri n) n (N + 1) inv e (omega (arith, ap tri e))

-- ---- the diagonal

pub diagonal_none : (out : List Float) → take 0 out ≡ row diagonal 0
unfolding row
diagonal_none out = refl

pub diagonal_turn : (out : List Float) (m : ℕ) (v : Float) → m < length out → take m out ≡ row diagonal m → v ≡ diagonal m → take (m + 1) (set out m v) ≡ row diagonal (m + 1)
unfolding row
diagonal_turn out m v h inv e =
    take_set out m v h ∙ ap₂ (λ (l : List Float) (x : Float). l ++ (x ∷ [])) inv e ∙ ap (row diagonal) (sym (add-one m))

pub diagonal_more : (m : ℕ) (x v : Float) → x ≡ diagonal m → v ≡ x ⊗ sqrt binary64 (ratio (m + 1)) → v ≡ diagonal (m + 1)
unfolding diagonal
diagonal_more m x v e f = f ∙ rw (e, add-one)

-- ---- the guard of an evaluation

pub fits_says : (N a b w : ℕ) → fits_in N a b w ≡ true → Fits N a b w
fits_says N a b w h =
    let s = both_true (leb N 180) (eqb a (size N) && (eqb b (size N) && leb (8 * size N) w)) h in
    let r = both_true (eqb a (size N)) (eqb b (size N) && leb (8 * size N) w) s.1 in
    let q = both_true (eqb b (size N)) (leb (8 * size N) w) r.1 in
    record { degree = leb-true N 180 s.0; a = eqb-true a (size N) r.0; b = eqb-true b (size N) q.0; work = leb-true (8 * size N) w q.1 }

-- the diagonal is no longer than a table
pub heads_in : (N : ℕ) → N + 1 ≤ size N
heads_in N = omega (arith, tri_next N)

pub rows_to : (f : ℕ → ℕ → Float) (out : List Float) (i j : ℕ) → i ≡ j → take (tri i) out ≡ rows f i → take (tri j) out ≡ rows f j
rows_to f out i j e h = ap (λ (k : ℕ). take (tri k) out) (sym e) ∙ h ∙ ap (rows f) e
