-- The band-pass program (document 01, "The band-pass program"): what its input says, and what it prints. Bytes are ASCII. Assumes nothing.
use Rattle.std.specs.Prelude.{Result, Ok, Err, Bool, cond, ◌&&◌, List, [], ◌∷◌, ◌++◌, ℕ, zero, suc, ◌+◌, ◌/◌, ltb, eqb, length, get_or, Float}
use Rattle.std.specs.Float.{binary64}
use Rattle.std.specs.Float.Ieee.{to_bits}
use Rattle.std.specs.Float.Ieee.Scale.{finite}
use Rattle.std.specs.List.{list_all}
use Rattle.laws.specs.Checks.{is_time, rising}
use Rattle.laws.specs.Runs.{runs_of}
use Rattle.hexadecimal.specs.Digits.{word_at, digits_of, decimal_of, is_word, float_at}
use Rattle.hexadecimal.specs.Printing.{line_feed, refused_text}
use Rattle.slices.specs.Calls.{Verdict, first_failed}
use Rattle.slices.specs.Answers.{number_of}
use Rattle.slices.specs.declared.refusal.Refusal.TheVariants.{Value, Order, NotFinite}
use Rattle.filter.specs.Filter.{band_pass}
use Rattle.filter.specs.Calls.{long_runs}
use Rattle.band_pass_program.specs.declared.Fault.{Fault}
use Rattle.band_pass_program.specs.declared.Fault.TheVariants.{Bounds, Format}

-- ---- input

-- a line from `at` on: the digits of two words, and a line feed
unfoldable pub is_line : List ℕ → ℕ → Bool
is_line text at = is_word (word_at text at) && (is_word (word_at text (at + 16)) && eqb (get_or text (at + 32) 0) 10)

-- the refusal of the text from `at` on, where k more lines may come
unfoldable pub refusal_from : ℕ → List ℕ → ℕ → Result Unit Fault
refusal_from zero text at = cond (ltb at (length text)) (Err Bounds) (Ok tt)
refusal_from (suc k) text at = cond (ltb at (length text)) (cond (is_line text at) (refusal_from k text (at + 33)) (Err Format)) (Ok tt)

abbrev pub text_refusal : List ℕ → Result Unit Fault
text_refusal text = refusal_from 4096 text 0

-- the doubles of n lines, from the words at `at` on
unfoldable pub column : List ℕ → ℕ → ℕ → List Float
column text at zero = []
column text at (suc n) = float_at text at ∷ column text (at + 33) n

-- ---- output

unfoldable pub line_text : Float → Float → List ℕ
line_text t v = digits_of 16 16 (to_bits binary64 t) ++ (digits_of 16 16 (to_bits binary64 v) ++ line_feed)

unfoldable pub lines_text : List Float → List Float → List ℕ
lines_text [] vs = []
lines_text (t ∷ ts) [] = []
lines_text (t ∷ ts) (v ∷ vs) = line_text t v ++ lines_text ts vs

-- "runs R passed P"
unfoldable pub summary_text : ℕ → ℕ → List ℕ
summary_text runs passed =
    (114 ∷ 117 ∷ 110 ∷ 115 ∷ 32 ∷ []) ++ (decimal_of runs ++ ((32 ∷ 112 ∷ 97 ∷ 115 ∷ 115 ∷ 101 ∷ 100 ∷ 32 ∷ []) ++ (decimal_of passed ++ line_feed)))

-- ---- the whole

-- the first refusal about the numbers
unfoldable pub numbers_refusal : List Float → List Float → Verdict
numbers_refusal ts x = first_failed ((list_all is_time ts, Value) ∷ (list_all finite x, Value) ∷ (rising ts, Order) ∷ (list_all finite (band_pass ts x), NotFinite) ∷ [])

-- the number of a fault of the text, among those of the refusals
abbrev pub fault_number : Fault → ℕ
fault_number Bounds = 2
fault_number Format = 11

-- what is printed of passed samples
abbrev pub passed_text : List Float → List Float → List ℕ
passed_text ts y = lines_text ts y ++ summary_text (length (runs_of ts)) (long_runs (runs_of ts))

-- a refusal prints its one line only
abbrev pub unless_refused : {E : Type 0} → (E → ℕ) → Result Unit E → List ℕ → List ℕ
unless_refused number (Ok _) text = text
unless_refused number (Err e) text = refused_text (number e)

unfoldable pub numbers_text : List Float → List Float → List ℕ
numbers_text ts x = unless_refused number_of (numbers_refusal ts x) (passed_text ts (band_pass ts x))

-- what the program prints for a text
unfoldable pub answer : List ℕ → List ℕ
answer text = unless_refused fault_number (text_refusal text) (numbers_text (column text 0 (length text / 33)) (column text 16 (length text / 33)))
