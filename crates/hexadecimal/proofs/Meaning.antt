-- What the definitions mean: printing and reading undo each other, for words and for counts, and a lower-case digit is none. Assumes nothing.
use mathlib.Core.Path.{◌≡◌, refl, sym, ap, ◌∙◌}
use mathlib.Core.Logic.{⊎_elim}
use mathlib.Core.Bool.{Bool, true, false, not, ◌&&◌}
use mathlib.Core.List.{List, [], ◌∷◌, ◌++◌, append_assoc, append-nil}
use Prim.Native.Nat.{ℕ, zero, suc, ◌+◌, ◌-◌, ◌*◌, ◌/◌, ◌%◌, ◌^◌, ◌<◌, ◌≤◌}
use native.Mathlib.Nat.{le_refl, le_trans, mul-one, one-mul, mul_assoc, mul-le-mul_right, one-le-pow, pow-succ', pow-le-pow_right, le-div_iff_mul-le, mod-lt, div-add-mod', div-lt_iff_lt-mul}
use native.Mathlib.Nat.{pow-zero, pow-suc, mod-eq_of_lt, add-zero, add-suc, suc-add, zero-add}
use native.Mathlib.Omega.{arith}
use borrow.Author.Tests.{ltb-true, lt-ltb, le-ltb, le-leb, eqb-true, eqb-false, not-true, ne_eqb}
use lib.Dec.{ltb, eqb}
use lib.Arith.{digits_div, digits_mod}
use lib.ListN.{length, take, drop, get_or}
use lib.Seq.{take_at, drop_at, length-take-le}
use Rattle.std.specs.List.{list_all}
use Rattle.laws.specs.Bools.{left_true, right_true}
use Rattle.laws.specs.Signed.{lt_or_ge}
use Rattle.std.specs.Prelude.{Some}
use Rattle.hexadecimal.specs.Digits.{digit_of, glyph_of, is_digit, value_from, value_of, digits_of, valued, word_at, part, written, unpadded, counted, places_in, places_of, decimal_of}
use Rattle.hexadecimal.proofs.DigitLoops.{digits_length, places_small, bounded}

-- ---- one digit

low_digit : (d : ℕ) → d < 10 → digit_of (48 + d) ≡ d
unfolding digit_of
low_digit d h =
    let a : 48 ≤ 48 + d = omega arith in
    let b : 48 + d < 58 = omega arith in
    let e : 48 + d - 48 ≡ d = omega arith in
    rw (le-ltb (48 + d) 48 a, lt-ltb (48 + d) 58 b) e

high_digit : (d : ℕ) → 10 ≤ d → d < 16 → digit_of (55 + d) ≡ d
unfolding digit_of
high_digit d h k =
    let a : 48 ≤ 55 + d = omega arith in
    let b : 58 ≤ 55 + d = omega arith in
    let c : 65 ≤ 55 + d = omega arith in
    let f : 55 + d < 71 = omega arith in
    let e : 55 + d - 55 ≡ d = omega arith in
    rw (le-ltb (55 + d) 48 a, le-ltb (55 + d) 58 b, le-ltb (55 + d) 65 c, lt-ltb (55 + d) 71 f) e

glyph_low : (d : ℕ) → d < 10 → glyph_of d ≡ 48 + d
unfolding glyph_of
glyph_low d h = rw (lt-ltb d 10 h)

glyph_high : (d : ℕ) → 10 ≤ d → glyph_of d ≡ 55 + d
unfolding glyph_of
glyph_high d h = rw (le-ltb d 10 h)

pub digit_of_glyph : (d : ℕ) → d < 16 → digit_of (glyph_of d) ≡ d
digit_of_glyph d k = ⊎_elim
    (λ (h : d < 10). rw (glyph_low d h) (low_digit d h))
    (λ (h : 10 ≤ d). rw (glyph_high d h) (high_digit d h k))
    (lt_or_ge d 10)

digit_49 : (b : ℕ) → 48 ≤ b → b < 58 → digit_of b ≡ b - 48
unfolding digit_of
digit_49 b h k = rw (le-ltb b 48 h, lt-ltb b 58 k)

digit_65 : (b : ℕ) → 65 ≤ b → b < 71 → digit_of b ≡ b - 55
unfolding digit_of
digit_65 b h k =
    let a : 48 ≤ b = omega arith in
    let c : 58 ≤ b = omega arith in
    rw (le-ltb b 48 a, le-ltb b 58 c, le-ltb b 65 h, lt-ltb b 71 k)

none_below : (b : ℕ) → b < 48 → digit_of b ≡ 16
unfolding digit_of
none_below b h = rw (lt-ltb b 48 h)

none_between : (b : ℕ) → 58 ≤ b → b < 65 → digit_of b ≡ 16
unfolding digit_of
none_between b h k = let a : 48 ≤ b = omega arith in rw (le-ltb b 48 a, le-ltb b 58 h, lt-ltb b 65 k)

-- a byte above F, so each lower-case letter, is no digit
pub none_above : (b : ℕ) → 71 ≤ b → digit_of b ≡ 16
unfolding digit_of
none_above b h =
    let a : 48 ≤ b = omega arith in
    let c : 58 ≤ b = omega arith in
    let d : 65 ≤ b = omega arith in
    rw (le-ltb b 48 a, le-ltb b 58 c, le-ltb b 65 d, le-ltb b 71 h)

pub glyph_of_digit : (b : ℕ) → digit_of b < 16 → glyph_of (digit_of b) ≡ b
glyph_of_digit b h = ⊎_elim
    (λ (l : b < 48). absurd (let e : digit_of b ≡ 16 = none_below b l in omega arith))
    (λ (l : 48 ≤ b). ⊎_elim
    (λ (m : b < 58). let e : digit_of b ≡ b - 48 = digit_49 b l m in glyph_low (digit_of b) (omega arith) ∙ omega arith)
    (λ (m : 58 ≤ b). ⊎_elim
    (λ (n : b < 65). absurd (let e : digit_of b ≡ 16 = none_between b m n in omega arith))
    (λ (n : 65 ≤ b). ⊎_elim
    (λ (o : b < 71). let e : digit_of b ≡ b - 55 = digit_65 b n o in glyph_high (digit_of b) (omega arith) ∙ omega arith)
    (λ (o : 71 ≤ b). absurd (let e : digit_of b ≡ 16 = none_above b o in omega arith))
    (lt_or_ge b 71))
    (lt_or_ge b 65))
    (lt_or_ge b 58))
    (lt_or_ge b 48)

-- ---- many

all_append : (f : ℕ → Bool) (xs ys : List ℕ) → list_all f xs ≡ true → list_all f ys ≡ true → list_all f (xs ++ ys) ≡ true
all_append f [] ys a b = b
all_append f (x ∷ xs) ys a b = rw (left_true (f x) (list_all f xs) a, all_append f xs ys (right_true (f x) (list_all f xs) a) b)

value_append : (base before : ℕ) (xs ys : List ℕ) → value_from base before (xs ++ ys) ≡ value_from base (value_from base before xs) ys
unfolding value_from
value_append base before [] ys = refl
value_append base before (x ∷ xs) ys = value_append base (before * base + digit_of x) xs ys

module _ (base : ℕ) (two : 1 < base) (most : base ≤ 16) where
  below_base : (n : ℕ) → n % base < base
  below_base n = mod-lt n (omega arith)

  last_digit : (n : ℕ) → digit_of (glyph_of (n % base)) ≡ n % base
  last_digit n = digit_of_glyph (n % base) (let h : n % base < base = below_base n in omega arith)

  -- printed digits are digits
  pub digits_are : (k n : ℕ) → list_all (is_digit base) (digits_of base k n) ≡ true
  unfolding digits_of is_digit
  digits_are zero n = refl
  digits_are (suc k) n =
      all_append (is_digit base) (digits_of base k (n / base)) (glyph_of (n % base) ∷ []) (digits_are k (n / base)) (rw (last_digit n, lt-ltb (n % base) base (below_base n)))

  -- and spell the number that was printed
  pub value_of_digits : (k n : ℕ) → n < base ^ k → value_of base (digits_of base k n) ≡ n
  unfolding digits_of value_from
  value_of_digits zero n h = let g : n < 1 = rw pow-zero at h in omega arith
  value_of_digits (suc k) n h =
      let g : n < base ^ k * base = rw pow-suc at h in
      let q : n / base < base ^ k = (div-lt_iff_lt-mul {k = base} (omega arith)).1 g in
      value_append base 0 (digits_of base k (n / base)) (glyph_of (n % base) ∷ []) ∙ rw (value_of_digits k (n / base) q, last_digit n) (div-add-mod' n base)

  -- read digits are what printing the number gives
  pub digits_of_value : (k before : ℕ) (bs : List ℕ) → list_all (is_digit base) bs ≡ true → digits_of base (k + length bs) (value_from base before bs) ≡ digits_of base k before ++ bs
  unfolding digits_of value_from is_digit
  digits_of_value k before [] a = rw (add-zero k) (sym (append-nil (digits_of base k before)))
  digits_of_value k before (b ∷ bs) a =
      let d : digit_of b < base = ltb-true (digit_of b) base (left_true (ltb (digit_of b) base) (list_all (is_digit base) bs) a) in
      let r : list_all (is_digit base) bs ≡ true = right_true (ltb (digit_of b) base) (list_all (is_digit base) bs) a in
      let s : k + suc (length bs) ≡ suc k + length bs = add-suc k (length bs) ∙ sym (suc-add k (length bs)) in
      let g : glyph_of (digit_of b) ≡ b = glyph_of_digit b (omega arith) in
      rw s
      (digits_of_value (suc k) (before * base + digit_of b) bs r
      ∙ rw (digits_div before d, digits_mod before d, g) (append_assoc (digits_of base k before) (b ∷ []) bs))

-- ---- a word

sixteen_digits : (n : ℕ) → n < 18446744073709551616 → value_of 16 (digits_of 16 16 n) ≡ n
sixteen_digits n h = value_of_digits 16 (omega arith) (omega arith) 16 n h

word_of : (text : List ℕ) (at n : ℕ) → part text at 16 ≡ digits_of 16 16 n → n < 18446744073709551616 → word_at text at ≡ Some n
unfolding word_at
word_of text at n e h =
    rw (e, digits_length 16 16 n, digits_are 16 (omega arith) (omega arith) 16 n, sixteen_digits n h)

-- what was printed between others is read
pub printed_word_reads : (before after : List ℕ) (n : ℕ) → n < 18446744073709551616 → word_at (before ++ (digits_of 16 16 n ++ after)) (length before) ≡ Some n
printed_word_reads before after n h =
    word_of (before ++ (digits_of 16 16 n ++ after)) (length before) n
    (rw (drop_at before (digits_of 16 16 n ++ after) (length before) refl) (take_at (digits_of 16 16 n) after 16 (digits_length 16 16 n))) h

-- what was written into a text is read there
pub written_word_reads : (text : List ℕ) (at n : ℕ) → 16 ≤ length text - at → n < 18446744073709551616 → word_at (written text at (digits_of 16 16 n)) at ≡ Some n
unfolding written
written_word_reads text at n h k =
    let d : length (digits_of 16 16 n) ≡ 16 = digits_length 16 16 n in
    let f : length (digits_of 16 16 n) ≤ length text - at = omega arith in
    let l : length (take at text) ≡ at = length-take-le at text (omega arith) in
    let r : word_at (take at text ++ (digits_of 16 16 n ++ drop (at + length (digits_of 16 16 n)) text)) (length (take at text)) ≡ Some n =
    printed_word_reads (take at text) (drop (at + length (digits_of 16 16 n)) text) n k in
    rw (le-leb (length (digits_of 16 16 n)) (length text - at) f) (rw l at r)

-- what is read is what printing it gives
read_if : (t : Bool) (v n : ℕ) → valued t v ≡ Some n → (t ≡ true) × (v ≡ n)
read_if true v n e = (refl, cc)
read_if false v n e = absurd (let z : ◌≡◌ {A = ℕ} 0 1 = cc in omega arith)

pub read_word_prints : (text : List ℕ) (at n : ℕ) → word_at text at ≡ Some n → part text at 16 ≡ digits_of 16 16 n
unfolding word_at digits_of
read_word_prints text at n e =
    let p = part text at 16 in
    let r = read_if (eqb (length p) 16 && list_all (is_digit 16) p) (value_of 16 p) n e in
    let l : length p ≡ 16 = eqb-true (length p) 16 (left_true (eqb (length p) 16) (list_all (is_digit 16) p) r.0) in
    let a : list_all (is_digit 16) p ≡ true = right_true (eqb (length p) 16) (list_all (is_digit 16) p) r.0 in
    let d : digits_of 16 (0 + length p) (value_of 16 p) ≡ p = digits_of_value 16 (omega arith) (omega arith) 0 0 p a in
    sym (rw (zero-add, l, r.1) at d)

-- 16 digits are never refused
pub digits_are_read : (text : List ℕ) (at : ℕ) → length (part text at 16) ≡ 16 → list_all (is_digit 16) (part text at 16) ≡ true → word_at text at ≡ Some (value_of 16 (part text at 16))
unfolding word_at
digits_are_read text at l a = rw (l, a)

-- ---- a count

small_places : (n : ℕ) → n < 10 → n < 10 ^ 1
small_places n h = h

places_hold : (k n : ℕ) → n < 10 ^ suc k → n < 10 ^ places_in k n
unfolding places_in
places_hold zero n h = h
places_hold (suc k) n h = ⊎_elim
    (λ (l : n < 10). rw (lt-ltb n 10 l) (small_places n l))
    (λ (l : 10 ≤ n).
    let q : n / 10 < 10 ^ suc k = (div-lt_iff_lt-mul {k = 10} (omega arith)).1 (rw (pow-suc 10 (suc k)) at h) in
    rw (le-ltb n 10 l, pow-suc 10 (places_in k (n / 10))) ((div-lt_iff_lt-mul {k = 10} (omega arith)).0 (places_hold k (n / 10) q)))
    (lt_or_ge n 10)

places_some : (k n : ℕ) → 0 < places_in k n
unfolding places_in
places_some zero n = omega arith
places_some (suc k) n = ⊎_elim
    (λ (h : n < 10). rw (lt-ltb n 10 h) (omega arith))
    (λ (h : 10 ≤ n). rw (le-ltb n 10 h) (omega arith))
    (lt_or_ge n 10)

head_append : (xs ys : List ℕ) → 0 < length xs → get_or (xs ++ ys) 0 0 ≡ get_or xs 0 0
head_append [] ys h = absurd (omega arith)
head_append (x ∷ xs) ys h = refl

one_digit : (n : ℕ) → 0 < n → n < 10 → get_or (digits_of 10 1 n) 0 0 ≡ 48 → ⊥
unfolding digits_of
one_digit n p h e = let m : n % 10 ≡ n = mod-eq_of_lt h in let g : glyph_of (n % 10) ≡ 48 + n % 10 = glyph_low (n % 10) (omega arith) in omega arith

-- the first digit of a positive number is no zero
leading : (k n : ℕ) → 0 < n → n < 10 ^ suc k → get_or (digits_of 10 (places_in k n) n) 0 0 ≡ 48 → ⊥
unfolding places_in digits_of
leading zero n p h = one_digit n p h
leading (suc k) n p h = ⊎_elim
    (λ (l : n < 10). rw (lt-ltb n 10 l) (one_digit n p l))
    (λ (l : 10 ≤ n).
    let q : n / 10 < 10 ^ suc k = (div-lt_iff_lt-mul {k = 10} (omega arith)).1 (rw (pow-suc 10 (suc k)) at h) in
    let s : 0 < length (digits_of 10 (places_in k (n / 10)) (n / 10)) = rw (digits_length 10 (places_in k (n / 10)) (n / 10)) (places_some k (n / 10)) in
    rw (le-ltb n 10 l, head_append (digits_of 10 (places_in k (n / 10)) (n / 10)) (glyph_of (n % 10) ∷ []) s) (leading k (n / 10) (omega arith) q))
    (lt_or_ge n 10)

unpadded_if : (xs : List ℕ) → 0 < length xs → (get_or xs 0 0 ≡ 48 → ⊥) → unpadded xs ≡ true
unfolding unpadded
unpadded_if [] h k = absurd (omega arith)
unpadded_if (x ∷ []) h k = refl
unpadded_if (x ∷ y ∷ xs) h k = rw (ne_eqb x 48 k)

unpadded_single : (xs : List ℕ) → length xs ≡ 1 → unpadded xs ≡ true
unfolding unpadded
unpadded_single [] h = absurd (omega arith)
unpadded_single (x ∷ []) h = refl
unpadded_single (x ∷ y ∷ xs) h = absurd (omega arith)

decimal_unpadded : (n : ℕ) → n < 10 ^ 20 → unpadded (decimal_of n) ≡ true
decimal_unpadded zero h = unpadded_single (decimal_of 0) (digits_length 10 (places_of 0) 0 ∙ places_small 19 0 (omega arith))
decimal_unpadded (suc n) h = unpadded_if (decimal_of (suc n)) (rw (digits_length 10 (places_of (suc n)) (suc n)) (places_some 19 (suc n))) (leading 19 (suc n) (omega arith) h)

-- what was printed is read
pub printed_count_reads : (n : ℕ) → n < 18446744073709551616 → counted (decimal_of n) ≡ Some n
unfolding counted
printed_count_reads n h =
    let g : n < 10 ^ 20 = omega arith in
    let v : value_of 10 (decimal_of n) ≡ n = value_of_digits 10 (omega arith) (omega arith) (places_of n) n (places_hold 19 n g) in
    rw (decimal_unpadded n g, digits_are 10 (omega arith) (omega arith) (places_of n) n, v, lt-ltb n 18446744073709551616 h)

-- ---- and what is read is what printing gives

value_lower : (base before : ℕ) (bs : List ℕ) → before * base ^ length bs ≤ value_from base before bs
unfolding value_from
value_lower base before [] = rw (pow-zero, mul-one) (le_refl before)
value_lower base before (b ∷ bs) =
    let g : (before * base + digit_of b) * base ^ length bs ≤ value_from base (before * base + digit_of b) bs = value_lower base (before * base + digit_of b) bs in
    let h : before * base ≤ before * base + digit_of b = omega arith in
    let m : before * base * base ^ length bs ≤ (before * base + digit_of b) * base ^ length bs = mul-le-mul_right (base ^ length bs) h in
    rw (pow-succ' base (length bs), ← mul_assoc) (le_trans m g)

places_between : (k p n : ℕ) → 10 ^ p ≤ n → n < 10 ^ suc p → p ≤ k → places_in k n ≡ suc p
unfolding places_in
places_between k zero n l u h = places_small k n u
places_between zero (suc q) n l u h = absurd (omega arith)
places_between (suc j) (suc q) n l u h =
    let l' : 10 ^ q * 10 ≤ n = rw pow-suc at l in
    let o : 1 ≤ 10 ^ q = one-le-pow q 10 (omega arith) in
    let t : 10 ≤ n = omega arith in
    let d : 10 ^ q ≤ n / 10 = (le-div_iff_mul-le {k = 10} (omega arith)).1 l' in
    let e : n / 10 < 10 ^ suc q = (div-lt_iff_lt-mul {k = 10} (omega arith)).1 (rw (pow-suc 10 (suc q)) at u) in
    rw (le-ltb n 10 t) (ap suc (places_between j q (n / 10) d e (omega arith)))

digits_printed : (bs : List ℕ) (n : ℕ) → list_all (is_digit 10) bs ≡ true → value_of 10 bs ≡ n → places_of n ≡ length bs → bs ≡ decimal_of n
unfolding digits_of
digits_printed bs n a v p =
    let d : digits_of 10 (0 + length bs) (value_of 10 bs) ≡ bs = digits_of_value 10 (omega arith) (omega arith) 0 0 bs a in
    rw p (sym (rw (zero-add, v) at d))

first_counts : (b : ℕ) → digit_of b < 10 → (b ≡ 48 → ⊥) → 0 < digit_of b
first_counts b h k = ⊎_elim
    (λ (l : digit_of b < 1). absurd (k (sym (glyph_of_digit b (omega arith)) ∙ glyph_low (digit_of b) h ∙ omega arith)))
    (λ (l : 1 ≤ digit_of b). l)
    (lt_or_ge (digit_of b) 1)

few : (p n : ℕ) → 10 ^ p ≤ n → n < 18446744073709551616 → p ≤ 19
few p n l h = ⊎_elim
    (λ (g : p < 20). omega arith)
    (λ (g : 20 ≤ p). absurd (let m : 10 ^ 20 ≤ 10 ^ p = pow-le-pow_right (omega arith) g in let t : 10 ^ 20 ≤ n = le_trans m l in omega arith))
    (lt_or_ge p 20)

long_places : (b c : ℕ) (bs : List ℕ) (n : ℕ) → list_all (is_digit 10) (b ∷ c ∷ bs) ≡ true → (b ≡ 48 → ⊥) → value_of 10 (b ∷ c ∷ bs) ≡ n → n < 18446744073709551616 →
    places_of n ≡ length (b ∷ c ∷ bs)
unfolding value_from is_digit
long_places b c bs n a k v h =
    let d : digit_of b < 10 = ltb-true (digit_of b) 10 (left_true (ltb (digit_of b) 10) (list_all (is_digit 10) (c ∷ bs)) a) in
    let o : 0 < digit_of b = first_counts b d k in
    let w : (0 * 10 + digit_of b) * 10 ^ length (c ∷ bs) ≤ value_of 10 (b ∷ c ∷ bs) = value_lower 10 (0 * 10 + digit_of b) (c ∷ bs) in
    let g : 1 ≤ 0 * 10 + digit_of b = omega arith in
    let m : 1 * 10 ^ length (c ∷ bs) ≤ (0 * 10 + digit_of b) * 10 ^ length (c ∷ bs) = mul-le-mul_right (10 ^ length (c ∷ bs)) g in
    let l : 10 ^ length (c ∷ bs) ≤ n = rw (one-mul, v) at (le_trans m w) in
    let u : n < (0 + 1) * 10 ^ length (b ∷ c ∷ bs) = rw v at (bounded 10 0 (b ∷ c ∷ bs) a) in
    places_between 19 (length (c ∷ bs)) n l (rw (zero-add, one-mul) at u) (few (length (c ∷ bs)) n l h)

pub read_count_prints : (bs : List ℕ) (n : ℕ) → counted bs ≡ Some n → bs ≡ decimal_of n
unfolding counted unpadded is_digit value_from
read_count_prints [] n e = absurd (let z : ◌≡◌ {A = ℕ} 0 1 = cc in omega arith)
read_count_prints (b ∷ []) n e =
    let r = read_if (true && list_all (is_digit 10) (b ∷ []) && ltb (value_of 10 (b ∷ [])) 18446744073709551616) (value_of 10 (b ∷ [])) n e in
    let a : list_all (is_digit 10) (b ∷ []) ≡ true = left_true (list_all (is_digit 10) (b ∷ [])) (ltb (value_of 10 (b ∷ [])) 18446744073709551616) r.0 in
    let d : digit_of b < 10 = ltb-true (digit_of b) 10 (left_true (ltb (digit_of b) 10) true a) in
    let v : 0 * 10 + digit_of b ≡ n = r.1 in
    digits_printed (b ∷ []) n a r.1 (places_small 19 n (omega arith))
read_count_prints (b ∷ c ∷ bs) n e =
    let xs = b ∷ c ∷ bs in
    let r = read_if (not (eqb b 48) && list_all (is_digit 10) xs && ltb (value_of 10 xs) 18446744073709551616) (value_of 10 xs) n e in
    let t : (not (eqb b 48) && list_all (is_digit 10) xs) ≡ true = left_true (not (eqb b 48) && list_all (is_digit 10) xs) (ltb (value_of 10 xs) 18446744073709551616) r.0 in
    let q : ltb (value_of 10 xs) 18446744073709551616 ≡ true = right_true (not (eqb b 48) && list_all (is_digit 10) xs) (ltb (value_of 10 xs) 18446744073709551616) r.0 in
    let a : list_all (is_digit 10) xs ≡ true = right_true (not (eqb b 48)) (list_all (is_digit 10) xs) t in
    let f : eqb b 48 ≡ false = not-true (eqb b 48) (left_true (not (eqb b 48)) (list_all (is_digit 10) xs) t) in
    let s : value_of 10 xs < 18446744073709551616 = ltb-true (value_of 10 xs) 18446744073709551616 q in
    digits_printed xs n a r.1 (long_places b c bs n a (eqb-false b 48 f) r.1 (rw r.1 at s))
