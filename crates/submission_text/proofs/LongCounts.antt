-- A count is judged however many digits it has: one of more than 18 is beyond every bound and is refused like any other beyond its own. So a reader that
-- has no room for a whole header may leave digits out behind the 19th: the refusal is the same. Assumes nothing.
use mathlib.Core.Path.{◌≡◌, refl, sym, ap, ◌∙◌}
use mathlib.Core.Bool.{Bool, true, false, cond, not, ◌&&◌}
use mathlib.Core.List.{List, [], ◌∷◌, ◌++◌, append_assoc}
use Prim.Native.Nat.{ℕ, zero, suc, ◌+◌, ◌-◌, ◌<◌, ◌≤◌}
use native.Mathlib.Omega.{arith}
use borrow.Author.Tests.{eq-eqb, le-ltb, lt-ltb}
use lib.Dec.{leb, eqb}
use lib.ListN.{length, take, get_or, length-append}
use lib.Seq.{take_at, drop_at, get_or_at}
use lib.Ieee.{binary64, of_bits}
use Rattle.std.specs.List.{list_all}
use Rattle.hexadecimal.specs.Digits.{is_digit, part}
use Rattle.hexadecimal.specs.Printing.{line_feed}
use Rattle.std.specs.Prelude.{Some, Err}
use Rattle.submission_text.specs.declared.Fault.TheVariants.{Bounds}
use Rattle.submission_text.specs.declared.Reading.{Reading}
use Rattle.slices.specs.Calls.{first_failed}
use Rattle.submission_text.specs.Text.{count_in, begins_with, header_with, names, header_of, outside, count_tests, header_fault, Verdict, accepted, goes_on, announced, headed}
use Rattle.submission_text.specs.Text.{taken_header}

-- more than 18 decimal digits, and no zero in front of them
pub record LongCount (digits : List ℕ) : Type 0 where
  pub many : 18 < length digits
  pub decimal : (not (eqb (get_or digits 0 0) 48) && list_all (is_digit 10) digits) ≡ true

-- a header: its name, with the space after it, the digits of its count and a line feed
abbrev pub header : List ℕ → List ℕ → List ℕ
header name digits = name ++ (digits ++ line_feed)

begins_itself : (name rest : List ℕ) → begins_with name (name ++ rest) ≡ true
unfolding begins_with
begins_itself [] rest = refl
begins_itself (n ∷ name) rest = ap (λ (b : Bool). b && begins_with name (name ++ rest)) (eq-eqb n n refl) ∙ begins_itself name rest

counted : (digits : List ℕ) → LongCount digits → count_in digits ≡ Some 1000000000000000000
unfolding count_in
counted digits l = rw (le-ltb (length digits) 19 (let m : 18 < length digits = l.many in omega arith), l.decimal)

long_header : (name digits : List ℕ) → LongCount digits → header_with name (header name digits) ≡ Some 1000000000000000000
unfolding header_with
long_header name digits l =
    let line = header name digits in
    let k : length line ≡ length name + (length digits + 1) = length-append name (digits ++ line_feed) ∙ ap (λ (n : ℕ). length name + n) (length-append digits line_feed) in
    let m : 18 < length digits = l.many in
    let room : length name + 2 ≤ length line = omega arith in
    let whole : line ≡ (name ++ digits) ++ line_feed = sym (append_assoc name digits line_feed) in
    let before : length (name ++ digits) ≡ length line - 1 = length-append name digits ∙ (let e : length name + length digits ≡ length line - 1 = omega arith in e) in
    let last : get_or line (length line - 1) 0 ≡ 10 = ap (λ (x : List ℕ). get_or x (length line - 1) 0) whole ∙ get_or_at (name ++ digits) 10 [] 0 (length line - 1) before in
    let n : length digits ≡ length line - 1 - length name = omega arith in
    let digits_there : part line (length name) (length line - 1 - length name) ≡ digits =
    ap (take (length line - 1 - length name)) (drop_at name (digits ++ line_feed) (length name) refl) ∙ take_at digits line_feed (length line - 1 - length name) n
    in
    let tested : (eqb (get_or line (length line - 1) 0) 10 && begins_with name line) ≡ true =
    (λ i. eq-eqb (get_or line (length line - 1) 0) 10 last i && begins_itself name (digits ++ line_feed) i)
    in
    rw (le-ltb (length line) (length name + 2) room, tested) (ap count_in digits_there ∙ counted digits l)

beyond_bound : (section : ℕ) → 2 ≤ section → section < 9 → first_failed (count_tests section 1000000000000000000) ≡ Err Bounds
unfolding count_tests outside
beyond_bound zero h k = absurd (let none : ⊥ = omega arith in none)
beyond_bound (suc zero) h k = absurd (let none : ⊥ = omega arith in none)
beyond_bound (suc (suc zero)) h k = refl
beyond_bound (suc (suc (suc zero))) h k = refl
beyond_bound (suc (suc (suc (suc zero)))) h k = refl
beyond_bound (suc (suc (suc (suc (suc zero))))) h k = refl
beyond_bound (suc (suc (suc (suc (suc (suc zero)))))) h k = refl
beyond_bound (suc (suc (suc (suc (suc (suc (suc zero))))))) h k = refl
beyond_bound (suc (suc (suc (suc (suc (suc (suc (suc zero)))))))) h k = refl
beyond_bound (suc (suc (suc (suc (suc (suc (suc (suc (suc section))))))))) h k = absurd (let none : ⊥ = omega arith in none)

faulty : (section filled room : ℕ) → 2 ≤ section → section < 9 → header_fault section 1000000000000000000 filled room ≡ Err Bounds
unfolding header_fault
faulty section filled room h k = by (leb (filled + 1) room)
  where
    by : (b : Bool) → cond b (first_failed (count_tests section 1000000000000000000)) (Err Bounds) ≡ Err Bounds
    by true = beyond_bound section h k
    by false = refl

-- a section that has a bound refuses a longer count as beyond it
pub long_count_refused : (room : ℕ) (r : Reading) (digits : List ℕ) → 2 ≤ r.section → r.section < 9 → LongCount digits →
    taken_header room (header (get_or names r.section []) digits) r ≡ Err Bounds
unfolding taken_header announced header_of
long_count_refused room r digits h k l =
    let line = header (get_or names r.section []) digits in
    let value : header_of r.section line ≡ Some 1000000000000000000 = rw (lt-ltb r.section 9 k) (long_header (get_or names r.section []) digits l) in
    ap (headed room r) value
    ∙ ap (λ (v : Verdict). accepted v (record { reading = goes_on r.section 1000000000000000000 (r.filled + 1) r.degree; numbers = of_bits binary64 1000000000000000000 ∷ [] }))
    (faulty r.section r.filled room h k)
