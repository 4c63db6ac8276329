-- Triangular tables as lists: the value at degree n and order m ≤ n stands at n(n + 1)/2 + m. Assumes nothing.
use Rattle.std.specs.Prelude.{◌≡◌, refl, List, [], ◌∷◌, ◌++◌, ℕ, zero, suc, ◌+◌, ◌*◌, ◌/◌, ◌<◌, ◌≤◌, length, take, get_or, set, Float}
use Rattle.std.proofs.Common.{sym, ap, ap₂, ◌∙◌, append_assoc, append-nil, add-zero, mul-add, mul_comm, mul-le-mul, add_assoc, add-one, arith, length-append, get_or-append-add, take_all}
use Rattle.std.proofs.Math.Decide.{dec_le}
use Rattle.std.proofs.Math.ListN.{get_or-append}
use Rattle.std.proofs.lemmas.List.{get_or_at}
use Rattle.std.specs.Float.{nan}
use Rattle.laws.specs.Loops.{take_set}

-- ---- definitions

-- where row n begins; rows 0 to n - 1 have as many values
unfoldable pub tri : ℕ → ℕ
tri n = n * (n + 1) / 2

-- the first k values of f
unfoldable pub row : {A : Type 0} → (ℕ → A) → ℕ → List A
row f zero = []
row f (suc k) = row f k ++ (f k ∷ [])

-- the first k rows of f, by degree and order
unfoldable pub rows : (ℕ → ℕ → Float) → ℕ → List Float
rows f zero = []
rows f (suc n) = rows f n ++ row (f n) (suc n)

-- ---- the index

pub tri_next : (n : ℕ) → tri (n + 1) ≡ tri n + n + 1
unfolding tri
tri_next n = omega (arith, mul-add (n + 1) n 2, mul_comm (n + 1) n)

pub tri_mono : (n k : ℕ) → n ≤ k → tri n ≤ tri k
unfolding tri
tri_mono n k h = let q : n * (n + 1) ≤ k * (k + 1) = mul-le-mul h (omega arith) in omega arith

pub tri_small : (n : ℕ) → n ≤ 181 → tri n ≤ 16471
unfolding tri
tri_small n h = tri_mono n 181 h

pub square_small : (n : ℕ) → n ≤ 181 → n * (n + 1) ≤ 32942
square_small n h = mul-le-mul {n₂ = 181} {m₂ = 182} h (omega arith)

-- ---- lengths and places

pub row_length : {A : Type 0} (f : ℕ → A) (k : ℕ) → length (row f k) ≡ k
unfolding row
row_length f zero = refl
row_length f (suc k) = length-append (row f k) (f k ∷ []) ∙ ap (λ (n : ℕ). n + 1) (row_length f k) ∙ add-one k

pub rows_length : (f : ℕ → ℕ → Float) (n : ℕ) → length (rows f n) ≡ tri n
unfolding rows tri
rows_length f zero = refl
rows_length f (suc n) =
    let a : length (rows f n) ≡ tri n = rows_length f n in
    let b : length (row (f n) (suc n)) ≡ suc n = row_length (f n) (suc n) in
    length-append (rows f n) (row (f n) (suc n)) ∙ omega (arith, tri_next n, ap tri (add-one n))

pub row_at : (f : ℕ → Float) (k m : ℕ) → m < k → get_or (row f k) m nan ≡ f m
unfolding row
row_at f zero m h = absurd (omega arith)
row_at f (suc k) m h =
    let l : length (row f k) ≡ k = row_length f k in
    elim (dec_le k m) [
      | yes g ↦ let e : k ≡ m = omega arith in get_or_at (row f k) (f k) [] nan m (l ∙ e) ∙ ap f e
      | no g ↦ get_or-append (row f k) (f k ∷ []) nan m (omega arith) ∙ row_at f k m (omega arith)
    ]

-- the table holds f n m at (n, m)
pub rows_at : (f : ℕ → ℕ → Float) (k n m : ℕ) → n < k → m ≤ n → get_or (rows f k) (tri n + m) nan ≡ f n m
unfolding rows
rows_at f zero n m h l = absurd (omega arith)
rows_at f (suc k) n m h l =
    let s : length (rows f k) ≡ tri k = rows_length f k in
    elim (dec_le k n) [
      | yes g ↦
          let e : k ≡ n = omega arith in
          ap (λ (i : ℕ). get_or (rows f k ++ row (f k) (suc k)) i nan) (ap (λ (i : ℕ). tri i + m) (sym e) ∙ ap (λ (i : ℕ). i + m) (sym s))
          ∙ get_or-append-add (rows f k) (row (f k) (suc k)) m nan ∙ row_at (f k) (suc k) m (omega arith) ∙ ap (λ (i : ℕ). f i m) e
      | no g ↦ get_or-append (rows f k) (row (f k) (suc k)) nan (tri n + m) (omega (arith, tri_next n, tri_mono (n + 1) k (omega arith)))
          ∙ rows_at f k n m (omega arith) l
    ]

-- tables of equal values are equal
pub row_same : {A : Type 0} (f g : ℕ → A) (k : ℕ) → ((m : ℕ) → m < k → f m ≡ g m) → row f k ≡ row g k
unfolding row
row_same f g zero h = refl
row_same {A = A} f g (suc k) h = ap₂ (λ (l : List A) (x : A). l ++ (x ∷ [])) (row_same f g k (λ m l. h m (omega arith))) (h k (omega arith))

-- ---- a loop that fills a list from the front

-- a row that begins at k has no value yet
pub row_none : (g : ℕ → Float) (out : List Float) (k : ℕ) → take (k + 0) out ≡ take k out ++ row g 0
unfolding row
row_none g out k = ap (λ (i : ℕ). take i out) (add-zero k) ∙ sym (append-nil (take k out))

-- a value more in a row that begins at k
pub row_turn : (g : ℕ → Float) (p out : List Float) (k m : ℕ) (v : Float) → take (k + m) out ≡ p ++ row g m → k + m < length out → v ≡ g m →
    take (k + (m + 1)) (set out (k + m) v) ≡ p ++ row g (m + 1)
unfolding row
row_turn g p out k m v inv h e =
    ap (λ (i : ℕ). take i (set out (k + m) v)) (sym (add_assoc k m 1))
    ∙ take_set out (k + m) v h
    ∙ ap₂ (λ (l : List Float) (x : Float). l ++ (x ∷ [])) inv e
    ∙ append_assoc p (row g m) (g m ∷ [])
    ∙ ap (λ (i : ℕ). p ++ row g i) (sym (add-one m))

-- a row more
pub rows_turn : (f : ℕ → ℕ → Float) (out out' : List Float) (k n : ℕ) → take k out ≡ rows f n → take (k + (n + 1)) out' ≡ take k out ++ row (f n) (n + 1) →
    take (k + (n + 1)) out' ≡ rows f (n + 1)
unfolding rows
rows_turn f out out' k n inv e = e ∙ ap (λ (l : List Float). l ++ row (f n) (n + 1)) inv ∙ ap (λ (i : ℕ). rows f n ++ row (f n) i) (add-one n)
    ∙ ap (rows f) (sym (add-one n))

pub rows_done : (f : ℕ → ℕ → Float) (out : List Float) (k n N : ℕ) → take k out ≡ rows f n → n ≡ N → length out ≤ k → out ≡ rows f N
rows_done f out k n N inv e h = sym (take_all k out h) ∙ inv ∙ ap (rows f) e
