-- A submission as text: nine sections, each a header `NAME COUNT` and COUNT lines of words. What one more line adds to what was read. Bytes are ASCII.
-- Assumes nothing.
use Rattle.std.specs.Prelude.{◌≡◌, Option, Some, None, Result, Ok, Err, Bool, true, false, cond, not, ◌&&◌, List, [], ◌∷◌, ◌++◌, ℕ, zero, suc, ◌+◌, ◌-◌, ◌*◌, leb, ltb, eqb, length, take, get_or, Float}
use Rattle.std.specs.Float.{binary64}
use Rattle.std.specs.Float.Ieee.{of_bits}
use Rattle.std.specs.List.{list_all}
use Rattle.hexadecimal.specs.Digits.{is_digit, word_at, decimal_at, part, is_word, bits_of, float_at}
use Rattle.slices.specs.Calls.{first_failed}
use Rattle.submission_text.specs.declared.Fault.{Fault}
use Rattle.submission_text.specs.declared.Fault.TheVariants.{Degree, Bounds, Format}
use Rattle.submission_text.specs.declared.Reading.{Reading}

-- ---- refusals

-- the number of a fault among the answers: of the degree and the bounds as the other calls have them
abbrev pub number_of : Fault → ℕ
number_of Degree = 1
number_of Bounds = 2
number_of Format = 11

abbrev pub Verdict : Type 0
Verdict = Result Unit Fault

-- ---- words

-- the doubles of k words from `at` on, 17 bytes each
unfoldable pub column : List ℕ → ℕ → ℕ → List Float
column text at zero = []
column text at (suc k) = float_at text at ∷ column text (at + 17) k

-- ---- headers

-- a count of more than 18 digits, however many, is above every bound: 10^18 stands for it
abbrev pub long_count : Bool → Option ℕ
long_count true = Some 1000000000000000000
long_count false = None

-- decimal digits without a zero in front; 0 alone is zero
unfoldable pub count_in : List ℕ → Option ℕ
count_in digits = cond (ltb (length digits) 19) (decimal_at digits 0 (length digits)) (long_count (not (eqb (get_or digits 0 0) 48) && list_all (is_digit 10) digits))

unfoldable pub begins_with : List ℕ → List ℕ → Bool
begins_with [] line = true
begins_with (n ∷ name) [] = false
begins_with (n ∷ name) (b ∷ line) = eqb b n && begins_with name line

-- the count of a line that is a name (with the space after it), a count and a line feed
unfoldable pub header_with : List ℕ → List ℕ → Option ℕ
header_with name line =
    cond (ltb (length line) (length name + 2)) None
    (cond (eqb (get_or line (length line - 1) 0) 10 && begins_with name line) (count_in (part line (length name) (length line - 1 - length name))) None)

-- degree, static, fields, states_c, acc_c, states_d, acc_d, nodes, observations
abbrev pub names : List (List ℕ)
names =
    (100 ∷ 101 ∷ 103 ∷ 114 ∷ 101 ∷ 101 ∷ 32 ∷ []) ∷ (115 ∷ 116 ∷ 97 ∷ 116 ∷ 105 ∷ 99 ∷ 32 ∷ []) ∷ (102 ∷ 105 ∷ 101 ∷ 108 ∷ 100 ∷ 115 ∷ 32 ∷ [])
    ∷ (115 ∷ 116 ∷ 97 ∷ 116 ∷ 101 ∷ 115 ∷ 95 ∷ 99 ∷ 32 ∷ []) ∷ (97 ∷ 99 ∷ 99 ∷ 95 ∷ 99 ∷ 32 ∷ []) ∷ (115 ∷ 116 ∷ 97 ∷ 116 ∷ 101 ∷ 115 ∷ 95 ∷ 100 ∷ 32 ∷ [])
    ∷ (97 ∷ 99 ∷ 99 ∷ 95 ∷ 100 ∷ 32 ∷ []) ∷ (110 ∷ 111 ∷ 100 ∷ 101 ∷ 115 ∷ 32 ∷ [])
    ∷ (111 ∷ 98 ∷ 115 ∷ 101 ∷ 114 ∷ 118 ∷ 97 ∷ 116 ∷ 105 ∷ 111 ∷ 110 ∷ 115 ∷ 32 ∷ []) ∷ []

-- the count of a section's header
unfoldable pub header_of : ℕ → List ℕ → Option ℕ
header_of section line = cond (ltb section 9) (header_with (get_or names section []) line) None

-- degree and static have one line, which is part of the format; a count beyond the bounds of another section, however long, is beyond them
unfoldable pub outside : ℕ → Fault
outside section = cond (ltb section 2) Format Bounds

abbrev pub least_counts : List ℕ
least_counts = 1 ∷ 1 ∷ 2 ∷ 0 ∷ 0 ∷ 0 ∷ 0 ∷ 0 ∷ 0 ∷ []

abbrev pub most_counts : List ℕ
most_counts = 1 ∷ 1 ∷ 8 ∷ 12000 ∷ 12000 ∷ 12000 ∷ 12000 ∷ 4 ∷ 12000 ∷ []

-- what a section's count must be
unfoldable pub count_tests : ℕ → ℕ → List (Bool × Fault)
count_tests section n = (leb (get_or least_counts section 0) n && leb n (get_or most_counts section 0), outside section) ∷ []

-- ---- rows

-- all C and all S of a field
unfoldable pub coefficients : ℕ → ℕ
coefficients degree = cond (ltb degree 13) ((degree + 1) * (degree + 2)) 0

-- the degree; GM, radius, C, S; the same behind a time; a key and a state; a key and a value; a time; a time, a value and the good byte
unfoldable pub words_in : ℕ → ℕ → ℕ
words_in section degree = get_or (1 ∷ (2 + coefficients degree) ∷ (3 + coefficients degree) ∷ 7 ∷ 2 ∷ 7 ∷ 2 ∷ 1 ∷ 3 ∷ []) section 0

-- behind the last word stands a line feed, behind any other a space
unfoldable pub separator : ℕ → ℕ
separator left = cond (eqb left 1) 10 32

unfoldable pub is_term : List ℕ → ℕ → ℕ → Bool
is_term line at left = is_word (word_at line at) && eqb (get_or line (at + 16) 0) (separator left)

-- from `at` on a line is so many words, and no more
unfoldable pub is_row : List ℕ → ℕ → ℕ → Bool
is_row line at zero = eqb at (length line)
is_row line at (suc k) = is_term line at (suc k) && is_row line (at + 17) k

-- a degree, and one within the program's bound
unfoldable pub degree_tests : ℕ → List (Bool × Fault)
degree_tests n = (leb 2 n && leb n 180, Degree) ∷ (leb n 12, Bounds) ∷ []

-- what a row's words must be beside words: the degree and the good byte are numbers of their own bounds
unfoldable pub row_tests : ℕ → List ℕ → List (Bool × Fault)
row_tests section line =
    cond (eqb section 0) (degree_tests (bits_of (word_at line 0))) (cond (eqb section 8) ((leb (bits_of (word_at line 34)) 255, Format) ∷ []) [])

unfoldable pub degree_after : ℕ → List ℕ → ℕ → ℕ
degree_after section line degree = cond (eqb section 0) (bits_of (word_at line 0)) degree

-- ---- what one line adds

-- how far the text was read, and the numbers that the line adds to those read before it
pub record Taken : Type 0 where
  pub reading : Reading
  pub numbers : List Float

abbrev pub begun : Reading
begun = record { section = 0; left = 0; filled = 0; degree = 0 }

-- a section with no lines left gives way to the next
unfoldable pub goes_on : ℕ → ℕ → ℕ → ℕ → Reading
goes_on section left filled degree = record { section = cond (eqb left 0) (section + 1) section; left = left; filled = filled; degree = degree }

-- nothing added
abbrev pub only : Reading → Taken
only r = record { reading = r; numbers = [] }

abbrev pub accepted : Verdict → Taken → Result Taken Fault
accepted (Ok u) t = Ok t
accepted (Err f) t = Err f

-- the refusal of a count, with room for so many numbers
unfoldable pub header_fault : ℕ → ℕ → ℕ → ℕ → Verdict
header_fault section n filled room = first_failed ((leb (filled + 1) room, Bounds) ∷ count_tests section n)

unfoldable pub announced : ℕ → Reading → ℕ → Result Taken Fault
announced room r n =
    accepted (header_fault r.section n r.filled room)
    (record { reading = goes_on r.section n (r.filled + 1) r.degree; numbers = of_bits binary64 n ∷ [] })

abbrev pub headed : ℕ → Reading → Option ℕ → Result Taken Fault
headed room r (Some n) = announced room r n
headed room r None = Err Format

unfoldable pub taken_header : ℕ → List ℕ → Reading → Result Taken Fault
taken_header room line r = headed room r (header_of r.section line)

unfoldable pub row_fault : ℕ → ℕ → ℕ → ℕ → List ℕ → Verdict
row_fault section words filled room line = first_failed ((is_row line 0 words, Format) ∷ (leb (filled + words) room, Bounds) ∷ row_tests section line)

unfoldable pub row_taken : ℕ → ℕ → List ℕ → Reading → Result Taken Fault
row_taken room words line r =
    accepted (row_fault r.section words r.filled room line)
    (record { reading = goes_on r.section (r.left - 1) (r.filled + words) (degree_after r.section line r.degree); numbers = column line 0 words })

unfoldable pub taken_row : ℕ → List ℕ → Reading → Result Taken Fault
taken_row room line r = row_taken room (words_in r.section r.degree) line r

unfoldable pub taken_end : List ℕ → Reading → Result Reading Fault
taken_end line r =
    cond (eqb r.section 9 && eqb (length line) 0) (Ok (record { section = 10; left = r.left; filled = r.filled; degree = r.degree })) (Err Format)

abbrev pub ended : Result Reading Fault → Result Taken Fault
ended (Ok r) = Ok (only r)
ended (Err f) = Err f

-- one more line, with room for so many numbers; the empty line is the end of the text
unfoldable pub taken : ℕ → List ℕ → Reading → Result Taken Fault
taken room line r = cond (ltb 8 r.section) (ended (taken_end line r)) (cond (eqb r.left 0) (taken_header room line r) (taken_row room line r))

-- ---- lines one after another

-- how far a text was read, the numbers that were read, and the fault of the line behind them where it was refused
pub record Read : Type 0 where
  pub reading : Reading
  pub numbers : List Float
  pub verdict : Verdict

-- nothing more is read
abbrev pub stopped : Reading → Verdict → Read
stopped r v = record { reading = r; numbers = []; verdict = v }

-- what a line leaves behind the lines before it; a refusal leaves all as they did
abbrev pub left_by : Reading → Result Taken Fault → Read
left_by r (Ok t) = record { reading = t.reading; numbers = t.numbers; verdict = Ok tt }
left_by r (Err f) = stopped r (Err f)

-- one more line, and nothing where a line before it was refused
unfoldable pub line_read : ℕ → List ℕ → Reading → Verdict → Read
line_read room line r (Ok u) = left_by r (taken room line r)
line_read room line r (Err f) = stopped r (Err f)

-- two parts of a text: the numbers of both, and the end of the second
abbrev pub joined : Read → Read → Read
joined s t = record { reading = t.reading; numbers = s.numbers ++ t.numbers; verdict = t.verdict }

-- one line after another, to the first that is refused
unfoldable pub read_of : ℕ → List (List ℕ) → Reading → Verdict → Read
read_of room [] r v = stopped r v
read_of room (line ∷ lines) r v = let s = line_read room line r v in joined s (read_of room lines s.reading s.verdict)

-- the numbers stand behind those read before
pub record Reads (t : Read) (filled : ℕ) (before : List Float) (r : Reading) (v : Verdict) (after : List Float) : Type 0 where
  pub reading : r ≡ t.reading
  pub verdict : v ≡ t.verdict
  pub numbers : take r.filled after ≡ take filled before ++ t.numbers

-- ---- a line in the program's list of numbers

abbrev pub reading_of : Result Taken Fault → Result Reading Fault
reading_of (Ok t) = Ok t.reading
reading_of (Err f) = Err f

-- the numbers go behind those read before; the refusal of a line leaves all as they were before it
abbrev pub Added : Result Taken Fault → ℕ → List Float → List Float → Type 0
Added (Ok t) filled before after = take t.reading.filled after ≡ take filled before ++ t.numbers
Added (Err f) filled before after = after ≡ before

pub record Fed (t : Result Taken Fault) (filled : ℕ) (before : List Float) (r : Result Reading Fault) (after : List Float) : Type 0 where
  pub reading : r ≡ reading_of t
  pub numbers : Added t filled before after

-- the bytes of the next line, none said of a header; 1 after the last section, where a byte that is still there makes the text malformed
unfoldable pub line_length : Reading → Option ℕ
line_length r = cond (ltb 8 r.section) (Some 1) (cond (eqb r.left 0) None (Some (17 * words_in r.section r.degree)))
