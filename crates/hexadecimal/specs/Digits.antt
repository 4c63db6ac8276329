-- Numbers as text (document 01, "The band-pass program": uppercase hexadecimal digits, the most significant first; counts in decimal). Bytes are ASCII.
-- Assumes nothing.
use Rattle.std.specs.Prelude.{Option, Some, None, ℕ, zero, suc, ◌+◌, ◌-◌, ◌*◌, ◌/◌, ◌%◌, ◌≡◌, Bool, true, false, cond, not, ◌&&◌, List, [], ◌∷◌, ◌++◌, leb, ltb, eqb, length, take, drop, Float}
use Rattle.std.specs.Float.{binary64}
use Rattle.std.specs.Float.Ieee.{of_bits}
use Rattle.std.specs.List.{list_all}

-- the value of a digit, 0 to 9 and then A to F; 16 where a byte is none
unfoldable pub digit_of : ℕ → ℕ
digit_of b = cond (ltb b 48) 16 (cond (ltb b 58) (b - 48) (cond (ltb b 65) 16 (cond (ltb b 71) (b - 55) 16)))

-- the digit of a value below 16
unfoldable pub glyph_of : ℕ → ℕ
glyph_of d = cond (ltb d 10) (48 + d) (55 + d)

unfoldable pub is_digit : ℕ → ℕ → Bool
is_digit base b = ltb (digit_of b) base

-- what digits spell behind others that spell `before`
unfoldable pub value_from : ℕ → ℕ → List ℕ → ℕ
value_from base before [] = before
value_from base before (b ∷ bs) = value_from base (before * base + digit_of b) bs

-- the number that digits spell
abbrev pub value_of : ℕ → List ℕ → ℕ
value_of base bs = value_from base 0 bs

-- the last k digits of n
unfoldable pub digits_of : ℕ → ℕ → ℕ → List ℕ
digits_of base zero n = []
digits_of base (suc k) n = digits_of base k (n / base) ++ (glyph_of (n % base) ∷ [])

-- a value where a test says so
abbrev pub valued : Bool → ℕ → Option ℕ
valued true n = Some n
valued false n = None

-- digits whose number fits 64 bits
unfoldable pub spelled_in : ℕ → List ℕ → Option ℕ
spelled_in base bs = valued (list_all (is_digit base) bs && ltb (value_of base bs) 18446744073709551616) (value_of base bs)

-- the k bytes from `at` on, fewer where the text ends
abbrev pub part : List ℕ → ℕ → ℕ → List ℕ
part text at k = take k (drop at text)

-- 16 hexadecimal digits from `at` on
unfoldable pub word_at : List ℕ → ℕ → Option ℕ
word_at text at = valued (eqb (length (part text at 16)) 16 && list_all (is_digit 16) (part text at 16)) (value_of 16 (part text at 16))

abbrev pub is_word : Option ℕ → Bool
is_word (Some n) = true
is_word None = false

abbrev pub bits_of : Option ℕ → ℕ
bits_of (Some n) = n
bits_of None = 0

-- the double whose bits stand at `at`
unfoldable pub float_at : List ℕ → ℕ → Float
float_at text at = of_bits binary64 (bits_of (word_at text at))

-- a list with others in the place of those from `at` on; itself where they do not fit
unfoldable pub written : List ℕ → ℕ → List ℕ → List ℕ
written xs at ys = cond (leb (length ys) (length xs - at)) (take at xs ++ (ys ++ drop (at + length ys) xs)) xs

-- how many decimal digits n has, if at most k + 1
unfoldable pub places_in : ℕ → ℕ → ℕ
places_in zero n = 1
places_in (suc k) n = cond (ltb n 10) 1 (suc (places_in k (n / 10)))

-- a number below 2^64 has at most 20
abbrev pub places_of : ℕ → ℕ
places_of n = places_in 19 n

-- the decimal digits of n, without leading zeros
abbrev pub decimal_of : ℕ → List ℕ
decimal_of n = digits_of 10 (places_of n) n

-- what printing n into xs leaves and answers: its digits and their count, or xs and 0 where they do not fit
pub record Put (n : ℕ) (xs : List ℕ) (at : ℕ) (ys : List ℕ) (r : ℕ) : Type 0 where
  pub text : ys ≡ written xs at (decimal_of n)
  pub count : r ≡ cond (leb (places_of n) (length xs - at)) (places_of n) 0

-- at least one digit, and no zero in front of others
unfoldable pub unpadded : List ℕ → Bool
unpadded [] = false
unpadded (b ∷ []) = true
unpadded (b ∷ c ∷ bs) = not (eqb b 48)

-- a decimal number: all of a text
unfoldable pub counted : List ℕ → Option ℕ
counted bs = valued (unpadded bs && list_all (is_digit 10) bs && ltb (value_of 10 bs) 18446744073709551616) (value_of 10 bs)

-- a decimal number from `at` to `end`, excluded; malformed past the text's end
unfoldable pub decimal_at : List ℕ → ℕ → ℕ → Option ℕ
decimal_at text at end = cond (leb end (length text)) (counted (part text at (end - at))) None
