-- Laws of digits, as the loops and tests give their premises. Assumes nothing.
use mathlib.Core.Path.{◌≡◌, refl, sym, ap, ◌∙◌}
use mathlib.Core.Bool.{Bool, true, false, not, ◌&&◌, false≢true}
use mathlib.Core.List.{List, [], ◌∷◌, ◌++◌, append_assoc, append-nil}
use Prim.Native.Nat.{ℕ, zero, suc, ◌+◌, ◌-◌, ◌*◌, ◌/◌, ◌%◌, ◌^◌, ◌<◌, ◌≤◌}
use native.Mathlib.Nat.{lt_of_lt_of_le, add-mul, one-mul, mul_assoc, pow-zero, pow-succ', le_refl, le_trans, mul-le-mul_left, mul-le-mul_right, mul-one}
use native.Mathlib.Numerals.{add-one}
use native.Mathlib.Omega.{arith}
use borrow.Rule.Slice.PartMut.{mid_of, post_of, put_mid, Post-is, mid_len}
use borrow.Author.Tests.{ltb-true, lt-ltb, le-ltb, le-leb, lt-leb, eq-eqb, ne_eqb}
use lib.Ieee.{Float, nan, inf, fin, binary64, is_nan, of_bits, nan_bits, ne, to_bits}
use lib.Ieee.Bits.{nan_bits_above, nan_bits_is}
use lib.Dec.{T, ltb, eqb}
use lib.ListN.{length, take, drop, get_or, set, length-set, length-append, length-drop, drop_of_length-le}
use lib.Seq.{take_all, length-take-le, drop-cons, get_or-set_same, drop-set-lt}
use Rattle.std.specs.List.{list_all}
use Rattle.laws.specs.Loops.{head_at}
use Rattle.laws.specs.Bools.{left_true, right_true}
use Rattle.laws.specs.SameBits.{ne_is_nan}
use Rattle.std.specs.Prelude.{Option, Some, None, ◌⊎◌}
use Rattle.std.proofs.Common.{inl, inr}
use Rattle.std.proofs.lemmas.Bool.Decides.{nat_tests}
use Rattle.hexadecimal.specs.Digits.{digit_of, glyph_of, is_digit, value_from, digits_of, valued, spelled_in, word_at, written, unpadded, counted, decimal_at, places_in}

-- ---- reading

abbrev pub limit : ℕ
limit = 18446744073709551616

-- what digits still to be read say behind the value that was read
abbrev pub stands : ℕ → ℕ → List ℕ → Option ℕ
stands base before bs = valued (list_all (is_digit base) bs && ltb (value_from base before bs) limit) (value_from base before bs)

none : (a : Bool) (n : ℕ) → valued (a && false) n ≡ None
none true n = refl
none false n = refl

grows : (base n : ℕ) → 0 < base → n ≤ n * base
grows base n h = let k : n * 1 ≤ n * base = mul-le-mul_left n h in omega (arith, mul-one n)

pub from_ge : (base before : ℕ) (bs : List ℕ) → 0 < base → before ≤ value_from base before bs
unfolding value_from
from_ge base before [] h = le_refl before
from_ge base before (b ∷ bs) h =
    let g : before ≤ before * base = grows base before h in
    let k : before * base + digit_of b ≤ value_from base (before * base + digit_of b) bs = from_ge base (before * base + digit_of b) bs h in
    omega arith

cons_turn : (base before b d : ℕ) (bs : List ℕ) → d ≡ digit_of b → d < base → stands base before (b ∷ bs) ≡ stands base (before * base + d) bs
unfolding is_digit value_from
cons_turn base before b d bs e h = let k : digit_of b < base = rw e at h in simp (e, lt-ltb (digit_of b) base k)

cons_bad : (base before b d : ℕ) (bs : List ℕ) → d ≡ digit_of b → base ≤ d → stands base before (b ∷ bs) ≡ None
unfolding is_digit
cons_bad base before b d bs e h = let k : base ≤ digit_of b = rw e at h in simp (le-ltb (digit_of b) base k)

cons_over : (base before b d : ℕ) (bs : List ℕ) → 0 < base → d ≡ digit_of b → limit ≤ before * base + d → stands base before (b ∷ bs) ≡ None
unfolding value_from
cons_over base before b d bs p e k =
    let o : limit ≤ before * base + digit_of b = rw e at k in
    let g : limit ≤ value_from base (before * base + digit_of b) bs = le_trans o (from_ge base (before * base + digit_of b) bs p) in
    rw (le-ltb (value_from base (before * base + digit_of b) bs) limit g) (none (list_all (is_digit base) (b ∷ bs)) (value_from base (before * base + digit_of b) bs))

pub read_starts : (base : ℕ) (text : List ℕ) → stands base 0 (drop 0 text) ≡ spelled_in base text
unfolding spelled_in
read_starts base text = refl

pub read_on : (base value i d : ℕ) (text : List ℕ) (goal : Option ℕ) → i < length text → d ≡ digit_of (get_or text i 0) → d < base →
    stands base value (drop i text) ≡ goal → stands base (value * base + d) (drop (i + 1) text) ≡ goal
read_on base value i d text goal h e k inv =
    sym (cons_turn base value (get_or text i 0) d (drop (i + 1) text) e k) ∙ ap (stands base value) (sym (head_at text i 0 h)) ∙ inv

pub read_bad : (base value i d : ℕ) (text : List ℕ) (goal : Option ℕ) → i < length text → d ≡ digit_of (get_or text i 0) → base ≤ d →
    stands base value (drop i text) ≡ goal → None ≡ goal
read_bad base value i d text goal h e k inv =
    sym (cons_bad base value (get_or text i 0) d (drop (i + 1) text) e k) ∙ ap (stands base value) (sym (head_at text i 0 h)) ∙ inv

pub read_over : (base value i d : ℕ) (text : List ℕ) (goal : Option ℕ) → 0 < base → i < length text → d ≡ digit_of (get_or text i 0) →
    limit ≤ value * base + d → stands base value (drop i text) ≡ goal → None ≡ goal
read_over base value i d text goal p h e o inv =
    sym (cons_over base value (get_or text i 0) d (drop (i + 1) text) p e o) ∙ ap (stands base value) (sym (head_at text i 0 h)) ∙ inv

-- what a byte's value as a digit says
pub some_digit : (b d : ℕ) → Some d ≡ valued (is_digit 16 b) (digit_of b) → (d ≡ digit_of b) × (d < 16)
unfolding is_digit
some_digit b d h = grind (arith, nat_tests)

pub no_digit : (b : ℕ) → None ≡ valued (is_digit 16 b) (digit_of b) → 16 ≤ digit_of b
unfolding is_digit
no_digit b h = grind (arith, nat_tests)

pub read_done : (base value i : ℕ) (text : List ℕ) (goal : Option ℕ) → length text ≤ i → value < limit → stands base value (drop i text) ≡ goal → Some value ≡ goal
unfolding value_from
read_done base value i text goal h k inv = sym (rw (drop_of_length-le text h, lt-ltb value limit k)) ∙ inv

-- ---- writing, from the last digit to the first

set_head : (out : List ℕ) (j g : ℕ) → j < length out → drop j (set out j g) ≡ g ∷ drop (suc j) out
set_head out j g h =
    let k : j < length (set out j g) = simp length-set h in
    drop-cons (set out j g) j 0 k ∙ rw (get_or-set_same out j g 0 h, drop-set-lt (suc j) out j g (le_refl (suc j)))

pub write_on : (base rest g i : ℕ) (out goal : List ℕ) → 0 < i → i ≤ length out → g ≡ glyph_of (rest % base) →
    digits_of base i rest ++ drop i out ≡ goal → digits_of base (i - 1) (rest / base) ++ drop (i - 1) (set out (i - 1) g) ≡ goal
unfolding digits_of
write_on base rest g zero out goal p h e inv = absurd (omega arith)
write_on base rest g (suc j) out goal p h e inv =
    let k : suc j - 1 ≡ j = omega arith in
    rw (e, k, set_head out j (glyph_of (rest % base)) h) (sym (append_assoc (digits_of base j (rest / base)) (glyph_of (rest % base) ∷ []) (drop (suc j) out)) ∙ inv)

pub write_starts : (base value i : ℕ) (out : List ℕ) → i ≡ length out → digits_of base i value ++ drop i out ≡ digits_of base (length out) value
write_starts base value i out e = rw (e, drop_of_length-le out (le_refl (length out))) (append-nil (digits_of base (length out) value))

pub write_done : (base rest i : ℕ) (out goal : List ℕ) → i ≤ 0 → digits_of base i rest ++ drop i out ≡ goal → out ≡ goal
unfolding digits_of
write_done base rest zero out goal h inv = inv
write_done base rest (suc i) out goal h inv = absurd (omega arith)

-- ---- 16 hexadecimal digits fit 64 bits

step_up : (base before d : ℕ) → d < base → before * base + d + 1 ≤ (before + 1) * base
step_up base before d h = let e : (before + 1) * base ≡ before * base + base = add-mul before 1 base ∙ rw one-mul in rw e (omega arith)

pub bounded : (base before : ℕ) (bs : List ℕ) → list_all (is_digit base) bs ≡ true → value_from base before bs < (before + 1) * base ^ length bs
unfolding value_from is_digit
bounded base before [] a = rw (pow-zero, mul-one) (omega arith)
bounded base before (b ∷ bs) a =
    let d : ltb (digit_of b) base ≡ true = left_true (ltb (digit_of b) base) (list_all (is_digit base) bs) a in
    let r : list_all (is_digit base) bs ≡ true = right_true (ltb (digit_of b) base) (list_all (is_digit base) bs) a in
    let k : before * base + digit_of b + 1 ≤ (before + 1) * base = step_up base before (digit_of b) (ltb-true (digit_of b) base d) in
    let g : value_from base (before * base + digit_of b) bs < (before * base + digit_of b + 1) * base ^ length bs = bounded base (before * base + digit_of b) bs r in
    let m : (before * base + digit_of b + 1) * base ^ length bs ≤ (before + 1) * base * base ^ length bs = mul-le-mul_right (base ^ length bs) k in
    rw (pow-succ' base (length bs), ← mul_assoc) (lt_of_lt_of_le g m)

pub sixteen : (bs : List ℕ) → length bs ≡ 16 → list_all (is_digit 16) bs ≡ true → value_from 16 0 bs < limit
sixteen bs l a = let h : value_from 16 0 bs < (0 + 1) * 16 ^ length bs = bounded 16 0 bs a in rw l at h

same_test : (bs : List ℕ) → length bs ≡ 16 → (a : Bool) → list_all (is_digit 16) bs ≡ a → valued (a && ltb (value_from 16 0 bs) limit) (value_from 16 0 bs) ≡ valued a (value_from 16 0 bs)
same_test bs l true e = rw (lt-ltb (value_from 16 0 bs) limit (sixteen bs l e))
same_test bs l false e = refl

pub word_in : (text rest bytes : List ℕ) (at : ℕ) (r : Option ℕ) → 16 ≤ length text - at → rest ≡ take (length text - at) (drop at text) → bytes ≡ take 16 rest →
    r ≡ spelled_in 16 bytes → r ≡ word_at text at
unfolding spelled_in word_at
word_in text rest bytes at r h e f s =
    let w : take (length text - at) (drop at text) ≡ drop at text = take_all (length text - at) (drop at text) (omega (arith, length-drop at text)) in
    let b : bytes ≡ take 16 (drop at text) = f ∙ ap (take 16) (e ∙ w) in
    let l : length (take 16 (drop at text)) ≡ 16 = length-take-le 16 (drop at text) (simp length-drop h) in
    s ∙ ap (spelled_in 16) b ∙ same_test (take 16 (drop at text)) l (list_all (is_digit 16) (take 16 (drop at text))) refl ∙ rw (eq-eqb (length (take 16 (drop at text))) 16 l)

pub word_out : (text : List ℕ) (at : ℕ) → length text - at < 16 → None ≡ word_at text at
unfolding word_at
word_out text at h =
    let d : length (drop at text) ≡ length text - at = length-drop at text in
    let l : length (take 16 (drop at text)) ≡ length (drop at text) = ap length (take_all 16 (drop at text) (omega arith)) in
    rw (ne_eqb (length (take 16 (drop at text))) 16 (λ e. omega arith))

-- ---- digits in the place of others

pub digits_length : (base k n : ℕ) → length (digits_of base k n) ≡ k
unfolding digits_of
digits_length base zero n = refl
digits_length base (suc k) n = length-append (digits_of base k (n / base)) (glyph_of (n % base) ∷ []) ∙ rw (digits_length base k (n / base)) (add-one k)

pub put_in : (base k n at end : ℕ) (xs ys : List ℕ) → k ≤ length xs → at ≤ length xs - k → end ≡ at + k →
    ys ≡ digits_of base (length (mid_of at (end - at) xs)) n → put_mid at (end - at) xs ys ≡ written xs at (digits_of base k n)
unfolding written
put_in base k n at end xs ys h g e s =
    let m : length (mid_of at (end - at) xs) ≡ k = mid_len at end xs (omega arith) ∙ omega arith in
    let d : length (digits_of base k n) ≡ k = digits_length base k n in
    let p : post_of at (end - at) xs ≡ drop end xs = Post-is at end xs (omega arith) in
    let t : ys ≡ digits_of base k n = rw m at s in
    let f : length (digits_of base k n) ≤ length xs - at = omega arith in
    rw (le-leb (length (digits_of base k n)) (length xs - at) f, d, t, p, e)

pub put_out : (base k n at : ℕ) (xs : List ℕ) → length xs - at < k → xs ≡ written xs at (digits_of base k n)
unfolding written
put_out base k n at xs h =
    let d : length (digits_of base k n) ≡ k = digits_length base k n in
    let f : length xs - at < length (digits_of base k n) = omega arith in
    rw (lt-leb (length (digits_of base k n)) (length xs - at) f)

-- ---- decimal

pub unpadded_none : (text : List ℕ) → length text ≡ 0 → false ≡ unpadded text
unfolding unpadded
unpadded_none [] h = refl
unpadded_none (b ∷ bs) h = absurd (omega arith)

pub unpadded_one : (text : List ℕ) → length text ≡ 1 → true ≡ unpadded text
unfolding unpadded
unpadded_one [] h = absurd (omega arith)
unpadded_one (b ∷ []) h = refl
unpadded_one (b ∷ c ∷ bs) h = absurd (omega arith)

pub unpadded_more : (text : List ℕ) → (length text ≡ 0 → ⊥) → (length text ≡ 1 → ⊥) → not (eqb (get_or text 0 0) 48) ≡ unpadded text
unfolding unpadded
unpadded_more [] h k = absurd (h refl)
unpadded_more (b ∷ []) h k = absurd (k refl)
unpadded_more (b ∷ c ∷ bs) h k = refl

pub decimal_out : (text : List ℕ) (at end : ℕ) → (end < at) ⊎ (length text < end) → None ≡ decimal_at text at end
unfolding decimal_at counted unpadded
decimal_out text at end (inl h) = let z : end - at ≡ 0 = omega arith in rw z (grind (arith, nat_tests))
decimal_out text at end (inr h) = rw (lt-leb end (length text) h)

pub decimal_in : (text : List ℕ) (at end : ℕ) (r : Option ℕ) → end ≤ length text → r ≡ counted (take (end - at) (drop at text)) → r ≡ decimal_at text at end
unfolding decimal_at
decimal_in text at end r h s = s ∙ rw (le-leb end (length text) h)

pub places_small : (k n : ℕ) → n < 10 → places_in k n ≡ 1
unfolding places_in
places_small zero n h = refl
places_small (suc k) n h = rw (lt-ltb n 10 h)

pub places_more : (count n : ℕ) → count < 20 → 10 ≤ n → places_in (20 - count) n ≡ suc (places_in (20 - (count + 1)) (n / 10))
unfolding places_in
places_more count n h k = let e : 20 - count ≡ suc (20 - (count + 1)) = omega arith in rw (e, le-ltb n 10 k)

pub places_none : (count n : ℕ) → 20 ≤ count → places_in (20 - count) n ≡ 1
unfolding places_in
places_none count n h = let e : 20 - count ≡ 0 = omega arith in rw e

-- ---- patterns of a NaN

is_nan_law : (x : Float) → is_nan x ≡ true → x ≡ nan
unfolding is_nan
is_nan_law nan h = refl
is_nan_law (inf s) h = absurd (false≢true h)
is_nan_law (fin s m e) h = absurd (false≢true h)

pub nan_bits_law : (b : ℕ) → 9218868437227405312 < b % 9223372036854775808 → nan ≡ of_bits binary64 b
nan_bits_law b h =
    let t : nan_bits binary64 b ≡ true = nan_bits_above binary64 b ∙ lt-ltb 9218868437227405312 (b % 9223372036854775808) h in
    sym (is_nan_law (of_bits binary64 b) (sym (nan_bits_is binary64 b) ∙ t))

pub no_nan_bits : (b : ℕ) → b % 9223372036854775808 ≤ 9218868437227405312 → T (not (nan_bits binary64 b))
no_nan_bits b h =
    let t : nan_bits binary64 b ≡ false = nan_bits_above binary64 b ∙ le-ltb 9218868437227405312 (b % 9223372036854775808) h in
    rw t tt

nan_pattern : to_bits binary64 nan ≡ 9221120237041090560
unfolding to_bits
nan_pattern = refl

pub pattern_nan : (x : Float) → is_nan x ≡ true → 9221120237041090560 ≡ to_bits binary64 x
pattern_nan x h = let e : x ≡ nan = is_nan_law x h in rw e (sym nan_pattern)

pub pattern_no_nan : (x : Float) → ne x x ≡ false → T (not (is_nan x))
pattern_no_nan x h = let e : is_nan x ≡ false = sym (ne_is_nan x) ∙ h in rw e tt
