-- Laws of the numbers that were read and of what is printed, as the loops and calls give their premises. Assumes nothing.
use mathlib.Core.Path.{◌≡◌, refl, sym, ap, ◌∙◌, subst}
use mathlib.Core.Bool.{Bool, true, false, cond}
use mathlib.Core.List.{List, [], ◌∷◌, ◌++◌, append_assoc, append-nil}
use Prim.Native.Nat.{ℕ, zero, suc, ◌+◌, ◌-◌, ◌*◌, ◌/◌, ◌%◌, ◌<◌, ◌≤◌, min}
use native.Mathlib.Nat.{mul-le-mul, div-le_self, min-eq_left, min-eq_right}
use native.Mathlib.Omega.{arith}
use borrow.Author.Tests.{ltb-true, ltb-false}
use lib.Dec.{ltb}
use lib.ListN.{length, take, get_or, set, length-append, get_or-eq_default}
use lib.Seq.{length-take-le}
use lib.Ieee.{Float, nan, binary64, to_bits}
use Rattle.laws.specs.Loops.{fill_turn, fill_done, take_set}
use Rattle.hexadecimal.specs.Digits.{digits_of, written, decimal_of}
use Rattle.hexadecimal.proofs.Printing.{then, written_prints}
use Rattle.hexadecimal.proofs.DigitLoops.{digits_length}
use Rattle.hexadecimal.specs.Printing.{line_feed, Printed}
use Rattle.io.specs.Counts.{IsPrefixLen}
use Rattle.sheet_program.specs.Text.{number_at, whole_at, count_at, next_at, values_from, places_of as places_of·program, head_text, term_text, row_text, rows_text}

-- ---- numbers

pub number_there : (numbers : List Float) (at : ℕ) → get_or numbers at nan ≡ number_at numbers at
unfolding number_at
number_there numbers at = refl

pub number_behind : (numbers : List Float) (at : ℕ) → length numbers ≤ at → nan ≡ number_at numbers at
unfolding number_at
number_behind numbers at h = sym (get_or-eq_default numbers nan {n = at} h)

cut_off : (b : Bool) (n most : ℕ) → ltb n most ≡ b → min n most ≡ cond b n most
cut_off true n most e = min-eq_left (let h : n < most = ltb-true n most e in omega arith)
cut_off false n most e = min-eq_right (ltb-false n most e)

pub whole_is : (numbers : List Float) (at most n m : ℕ) (x : Float) → x ≡ number_at numbers at → n ≡ to_bits binary64 x → m ≡ min n most → m ≡ whole_at numbers at most
unfolding whole_at
whole_is numbers at most n m x ex en em =
    let word : ℕ = to_bits binary64 (number_at numbers at) in
    em ∙ ap (λ (k : ℕ). min k most) (en ∙ ap (to_bits binary64) ex) ∙ cut_off (ltb word most) word most refl

pub far : (words n : ℕ) → words ≤ 185 → n ≤ 12000 → words * n ≤ 2220000
far words n h k = mul-le-mul h k

pub next_is : (numbers : List Float) (at words n : ℕ) → n ≡ count_at numbers at → at + 1 + words * n ≡ next_at numbers at words
unfolding next_at
next_is numbers at words n e = ap (λ (k : ℕ). at + 1 + words * k) e

-- ---- places

pub places_are : (numbers : List Float) (c a1 a2 a3 a4 a5 a6 a7 a8 : ℕ) → a1 ≡ next_at numbers 0 1 → a2 ≡ next_at numbers a1 (2 + c) → a3 ≡ next_at numbers a2 (3 + c) → a4 ≡ next_at numbers a3 7 →
    a5 ≡ next_at numbers a4 2 → a6 ≡ next_at numbers a5 7 → a7 ≡ next_at numbers a6 2 → a8 ≡ next_at numbers a7 1 →
    record { held = a1; fields = a2; cstates = a3; caccs = a4; dstates = a5; daccs = a6; nodes = a7; observations = a8 } ≡ places_of·program numbers c
unfolding places_of·program
places_are numbers c a1 a2 a3 a4 a5 a6 a7 a8 e1 e2 e3 e4 e5 e6 e7 e8 =
    let f2 = e2 ∙ ap (λ (x : ℕ). next_at numbers x (2 + c)) e1 in
    let f3 = e3 ∙ ap (λ (x : ℕ). next_at numbers x (3 + c)) f2 in
    let f4 = e4 ∙ ap (λ (x : ℕ). next_at numbers x 7) f3 in
    let f5 = e5 ∙ ap (λ (x : ℕ). next_at numbers x 2) f4 in
    let f6 = e6 ∙ ap (λ (x : ℕ). next_at numbers x 7) f5 in
    let f7 = e7 ∙ ap (λ (x : ℕ). next_at numbers x 2) f6 in
    let f8 = e8 ∙ ap (λ (x : ℕ). next_at numbers x 1) f7 in
    (λ i. record { held = e1 i; fields = f2 i; cstates = f3 i; caccs = f4 i; dstates = f5 i; daccs = f6 i; nodes = f7 i; observations = f8 i })

-- ---- lists from lines

pub step_far : (step i : ℕ) → step ≤ 185 → i < 100000 → step * i ≤ 18500000
step_far step i h k = mul-le-mul h (let q : i ≤ 100000 = omega arith in q)

pub lines_far : (i step width : ℕ) → i < 100000 → step ≤ 185 → 0 < width → step * (i / width) ≤ 18500000
lines_far i step width k h w = mul-le-mul h (let q : i / width ≤ 100000 = omega (arith, div-le_self i width) in q)

module _ {A : Type 0} (value : ℕ → A) (from step width : ℕ) (out out₀ : List A) where
  pub values_turn : (k j : ℕ) (y : A) → length out ≡ length out₀ → k < length out → j ≡ step * (k / width) + k % width → y ≡ value (from + j) →
      take k out ++ values_from value from step width k (length out₀ - k) ≡ values_from value from step width 0 (length out₀) →
      take (k + 1) (set out k y) ++ values_from value from step width (k + 1) (length out₀ - (k + 1)) ≡ values_from value from step width 0 (length out₀)
  unfolding values_from
  values_turn k j y l h ej ey inv =
      let e : y ≡ value (from + (step * (k / width) + k % width)) = ey ∙ ap (λ (n : ℕ). value (from + n)) ej in
      let n : ℕ = length out₀ - (k + 1) in
      let s : length out₀ - k ≡ suc n = omega arith in
      fill_turn out (values_from value from step width k (length out₀ - k)) (values_from value from step width (k + 1) n) (values_from value from step width 0 (length out₀)) k y h inv
      (ap (values_from value from step width k) s ∙ ap (λ (v : A). v ∷ values_from value from step width (k + 1) n) (sym e))

  pub values_done : (k : ℕ) → length out ≡ length out₀ → length out ≤ k →
      take k out ++ values_from value from step width k (length out₀ - k) ≡ values_from value from step width 0 (length out₀) → out ≡ values_from value from step width 0 (length out₀)
  unfolding values_from
  values_done k l h inv =
      let z : length out₀ - k ≡ 0 = omega arith in
      fill_done out (values_from value from step width k (length out₀ - k)) (values_from value from step width 0 (length out₀)) k h (ap (values_from value from step width k) z) inv

-- ---- sentences

pub head_prints : (m n : ℕ) (o o1 o2 o3 o4 o5 : List ℕ) (a b c d r : ℕ) → Printed (107 ∷ 101 ∷ 112 ∷ 116 ∷ 32 ∷ []) o 0 o1 a → Printed (decimal_of m) o1 a o2 b →
    Printed (32 ∷ 102 ∷ 105 ∷ 110 ∷ 97 ∷ 108 ∷ 32 ∷ []) o2 b o3 c → Printed (decimal_of n) o3 c o4 d → Printed line_feed o4 d o5 r → Printed (head_text m n) o 0 o5 r
unfolding head_text
head_prints m n o o1 o2 o3 o4 o5 a b c d r p1 p2 p3 p4 p5 =
    then (107 ∷ 101 ∷ 112 ∷ 116 ∷ 32 ∷ []) (decimal_of m ++ ((32 ∷ 102 ∷ 105 ∷ 110 ∷ 97 ∷ 108 ∷ 32 ∷ []) ++ (decimal_of n ++ line_feed))) o o1 o5 0 a r p1
    (then (decimal_of m) ((32 ∷ 102 ∷ 105 ∷ 110 ∷ 97 ∷ 108 ∷ 32 ∷ []) ++ (decimal_of n ++ line_feed)) o1 o2 o5 a b r p2
    (then (32 ∷ 102 ∷ 105 ∷ 110 ∷ 97 ∷ 108 ∷ 32 ∷ []) (decimal_of n ++ line_feed) o2 o3 o5 b c r p3 (then (decimal_of n) line_feed o3 o4 o5 c d r p4 p5)))

-- ---- rows

pub term_prints : (x : Float) (behind n at : ℕ) (o o1 : List ℕ) → at + 17 ≤ length o → n ≡ to_bits binary64 x → o1 ≡ written o at (digits_of 16 16 n) → length o1 ≡ length o →
    Printed (term_text x behind) o at (set o1 (at + 16) behind) (at + 17)
unfolding term_text
term_prints x behind n at o o1 h en e1 l1 =
    let dn : length (digits_of 16 16 n) ≡ 16 = digits_length 16 16 n in
    let p1 : Printed (digits_of 16 16 n) o at o1 (at + 16) = rw e1 (written_prints o (digits_of 16 16 n) at (at + 16) (omega arith) (omega arith)) in
    let s : at + 17 ≡ at + 16 + 1 = omega arith in
    let p2 : Printed (behind ∷ []) o1 (at + 16) (set o1 (at + 16) behind) (at + 17) = record { ends = omega arith; text = rw s (take_set o1 (at + 16) behind (omega arith)) } in
    rw (sym en) (then (digits_of 16 16 n) (behind ∷ []) o o1 (set o1 (at + 16) behind) at (at + 16) (at + 17) p1 p2)

pub row_prints : (i : ℕ) (ts xs ys zs : List Float) (t x y z : Float) (at : ℕ) (o o1 o2 o3 o4 : List ℕ) → t ≡ number_at ts i → x ≡ number_at xs i → y ≡ number_at ys i → z ≡ number_at zs i →
    Printed (term_text t 32) o at o1 (at + 17) → Printed (term_text x 32) o1 (at + 17) o2 (at + 17 + 17) →
    Printed (term_text y 32) o2 (at + 34) o3 (at + 34 + 17) → Printed (term_text z 10) o3 (at + 51) o4 (at + 51 + 17) → Printed (row_text i ts xs ys zs) o at o4 (at + 68)
unfolding row_text
row_prints i ts xs ys zs t x y z at o o1 o2 o3 o4 et ex ey ez p1 p2 p3 p4 =
    let q1 : at + 17 + 17 ≡ at + 34 = omega arith in
    let q2 : at + 34 + 17 ≡ at + 51 = omega arith in
    let q3 : at + 51 + 17 ≡ at + 68 = omega arith in
    let r2 : Printed (term_text x 32) o1 (at + 17) o2 (at + 34) = rw q1 at p2 in
    let r3 : Printed (term_text y 32) o2 (at + 34) o3 (at + 51) = rw q2 at p3 in
    let r4 : Printed (term_text z 10) o3 (at + 51) o4 (at + 68) = rw q3 at p4 in
    subst (λ (w : List ℕ). Printed w o at o4 (at + 68)) (λ j. term_text (et j) 32 ++ (term_text (ex j) 32 ++ (term_text (ey j) 32 ++ term_text (ez j) 10)))
    (then (term_text t 32) (term_text x 32 ++ (term_text y 32 ++ term_text z 10)) o o1 o4 at (at + 17) (at + 68) p1
    (then (term_text x 32) (term_text y 32 ++ term_text z 10) o1 o2 o4 (at + 17) (at + 34) (at + 68) r2 (then (term_text y 32) (term_text z 10) o2 o3 o4 (at + 34) (at + 51) (at + 68) r3 r4)))

term_length : (x : Float) (behind : ℕ) → length (term_text x behind) ≡ 17
unfolding term_text
term_length x behind = simp (length-append, digits_length)

row_length : (i : ℕ) (ts xs ys zs : List Float) → length (row_text i ts xs ys zs) ≡ 68
unfolding row_text
row_length i ts xs ys zs = simp (length-append, term_length)

rows_length : (ts xs ys zs : List Float) (i n : ℕ) → length (rows_text i n ts xs ys zs) ≡ 68 * n
unfolding rows_text
rows_length ts xs ys zs i zero = refl
rows_length ts xs ys zs i (suc n) = simp (length-append, row_length, rows_length ts xs ys zs (i + 1) n) (omega arith)

pub rows_turn : (ts xs ys zs : List Float) (i n k : ℕ) (out out' goal : List ℕ) → k < n → Printed (row_text (i + k) ts xs ys zs) out (68 * k) out' (68 * k + 68) →
    take (68 * k) out ++ rows_text (i + k) (n - k) ts xs ys zs ≡ goal → take (68 * (k + 1)) out' ++ rows_text (i + (k + 1)) (n - (k + 1)) ts xs ys zs ≡ goal
unfolding rows_text
rows_turn ts xs ys zs i n k out out' goal h p inv =
    let rest : ℕ = n - (k + 1) in
    let s : n - k ≡ suc rest = omega arith in
    let e : 68 * (k + 1) ≡ 68 * k + 68 = omega arith in
    let j : i + (k + 1) ≡ i + k + 1 = omega arith in
    rw (e, j) (ap (λ (w : List ℕ). w ++ rows_text (i + k + 1) rest ts xs ys zs) p.text
    ∙ append_assoc (take (68 * k) out) (row_text (i + k) ts xs ys zs) (rows_text (i + k + 1) rest ts xs ys zs)
    ∙ ap (λ (x : ℕ). take (68 * k) out ++ rows_text (i + k) x ts xs ys zs) (sym s)
    ∙ inv)

pub rows_done : (ts xs ys zs : List Float) (i n k : ℕ) (o out : List ℕ) → n ≤ k → k ≤ n → take (68 * k) out ++ rows_text (i + k) (n - k) ts xs ys zs ≡ rows_text i n ts xs ys zs →
    Printed (rows_text i n ts xs ys zs) o 0 out (68 * n)
unfolding rows_text
rows_done ts xs ys zs i n k o out h g inv =
    let z : n - k ≡ 0 = omega arith in
    let e : n ≡ k = omega arith in
    record {
      ends = omega (arith, rows_length ts xs ys zs i n);
      text = ap (λ (x : ℕ). take (68 * x) out) e ∙ sym (append-nil (take (68 * k) out)) ∙ ap (λ (x : ℕ). take (68 * k) out ++ rows_text (i + k) x ts xs ys zs) (sym z) ∙ inv;
    }

pub rows_count : (out : List ℕ) (n : ℕ) → 34000 ≤ length out → n ≤ 500 → IsPrefixLen (68 * n) out
rows_count out n g h = let e : 68 * n ≤ length out = omega arith in (e, sym (length-take-le (68 * n) out e))
