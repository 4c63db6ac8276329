-- The sheet program: what the numbers of a submission's text say, and what is printed of a sheet. Bytes are ASCII. Assumes nothing.
use Rattle.std.specs.Prelude.{cond, List, [], ◌∷◌, ◌++◌, ℕ, zero, suc, ◌+◌, ◌*◌, ◌/◌, ◌%◌, ◌≤◌, ltb, ℤ, get_or, Float}
use Rattle.std.specs.Int.{w64}
use Rattle.std.proofs.Common.{to_z}
use Rattle.std.specs.Float.{nan, binary64}
use Rattle.std.specs.Float.Ieee.{to_bits}
use Rattle.hexadecimal.specs.Digits.{digits_of, decimal_of}
use Rattle.hexadecimal.specs.Printing.{line_feed}
use Rattle.sheet_program.specs.declared.Places.{Places}

-- ---- numbers of a text, words as the doubles of their bits

unfoldable pub number_at : List Float → ℕ → Float
number_at numbers at = get_or numbers at nan

-- the word of a number, at most `most`
unfoldable pub whole_at : List Float → ℕ → ℕ → ℕ
whole_at numbers at most = cond (ltb (to_bits binary64 (number_at numbers at)) most) (to_bits binary64 (number_at numbers at)) most

-- a section's count stands in front of its words
abbrev pub count_at : List Float → ℕ → ℕ
count_at numbers at = whole_at numbers at 12000

-- the next section begins behind them
unfoldable pub next_at : List Float → ℕ → ℕ → ℕ
next_at numbers at words = at + 1 + words * count_at numbers at

-- a key above 2^31 is out of bounds, by however much
abbrev pub key_at : List Float → ℕ → ℤ
key_at numbers at = to_z w64 (whole_at numbers at 2147483649)

abbrev pub byte_at : List Float → ℕ → ℕ
byte_at numbers at = whole_at numbers at 255

-- `width` values from `from` on of each line of `step`, where one stands at each number: the n values from the i-th on
unfoldable pub values_from : {A : Type 0} → (ℕ → A) → ℕ → ℕ → ℕ → ℕ → ℕ → List A
values_from value from step width i zero = []
values_from value from step width i (suc n) = value (from + (step * (i / width) + i % width)) ∷ values_from value from step width (i + 1) n

-- where each section's count stands, with c coefficients to a field
unfoldable pub places_of : List Float → ℕ → Places
places_of numbers c =
    let held = next_at numbers 0 1 in
    let fields = next_at numbers held (2 + c) in
    let cstates = next_at numbers fields (3 + c) in
    let caccs = next_at numbers cstates 7 in
    let dstates = next_at numbers caccs 2 in
    let daccs = next_at numbers dstates 7 in
    let nodes = next_at numbers daccs 2 in
    record {
      held = held;
      fields = fields;
      cstates = cstates;
      caccs = caccs;
      dstates = dstates;
      daccs = daccs;
      nodes = nodes;
      observations = next_at numbers nodes 1;
    }

-- all before the end of any text
abbrev pub Near : Places → Type 0
Near p =
    (p.held ≤ 20000000) × (p.fields ≤ 20000000) × (p.cstates ≤ 20000000) × (p.caccs ≤ 20000000) × (p.dstates ≤ 20000000) × (p.daccs ≤ 20000000) ×
    (p.nodes ≤ 20000000) × (p.observations ≤ 20000000)

-- ---- output

-- "kept K final F"
unfoldable pub head_text : ℕ → ℕ → List ℕ
head_text kept entries =
    (107 ∷ 101 ∷ 112 ∷ 116 ∷ 32 ∷ []) ++ (decimal_of kept ++ ((32 ∷ 102 ∷ 105 ∷ 110 ∷ 97 ∷ 108 ∷ 32 ∷ []) ++ (decimal_of entries ++ line_feed)))

-- a word of 16 digits, and the byte behind it
unfoldable pub term_text : Float → ℕ → List ℕ
term_text x behind = digits_of 16 16 (to_bits binary64 x) ++ (behind ∷ [])

-- the i-th entry of the four lists
unfoldable pub row_text : ℕ → List Float → List Float → List Float → List Float → List ℕ
row_text i ts xs ys zs = term_text (number_at ts i) 32 ++ (term_text (number_at xs i) 32 ++ (term_text (number_at ys i) 32 ++ term_text (number_at zs i) 10))

-- n entries from the i-th on; a sheet is its head and the entries from the first on
unfoldable pub rows_text : ℕ → ℕ → List Float → List Float → List Float → List Float → List ℕ
rows_text i zero ts xs ys zs = []
rows_text i (suc n) ts xs ys zs = row_text i ts xs ys zs ++ rows_text (i + 1) n ts xs ys zs
