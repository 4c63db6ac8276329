-- Laws of the program's text, as its loops and calls give their premises. Assumes nothing.
use mathlib.Core.Path.{◌≡◌, refl, sym, ap, ◌∙◌}
use mathlib.Core.Bool.{Bool, true, false, cond, not, ◌&&◌}
use mathlib.Core.List.{List, [], ◌∷◌, ◌++◌, append_assoc, append-nil}
use Prim.Native.Nat.{ℕ, zero, suc, ◌+◌, ◌-◌, ◌*◌, ◌/◌, ◌<◌, ◌≤◌}
use native.Mathlib.Omega.{arith}
use borrow.Author.Tests.{not-true, not-false, lt-ltb, le-ltb, ltb-false, le-leb}
use lib.Dec.{ltb}
use lib.ListN.{length, take, drop, get_or, set, length-append, drop_of_length-le}
use lib.Ieee.{Float, nan, binary64, to_bits}
use Rattle.laws.specs.Loops.{head_at, fill_turn, fill_done, take_set}
use Rattle.hexadecimal.specs.Digits.{digits_of, written, decimal_of, float_at}
use Rattle.std.specs.Prelude.{Result, Ok, Err}
use Rattle.hexadecimal.proofs.Printing.{then, written_prints}
use Rattle.hexadecimal.proofs.DigitLoops.{digits_length}
use Rattle.hexadecimal.specs.Printing.{line_feed, refused_text, Printed}
use lib.Ieee.Scale.{finite}
use borrow.Author.Tests.{eq-eqb}
use Rattle.std.specs.List.{list_all}
use Rattle.laws.specs.Checks.{is_time, rising}
use Rattle.laws.specs.Loops.{cleared}
use Rattle.laws.specs.Runs.{runs_of}
use Rattle.slices.specs.Calls.{left, left_clear, handed, settled}
use Rattle.slices.specs.Calls.{Verdict, accepted}
use Rattle.slices.specs.Answers.{number_of}
use Rattle.slices.specs.declared.refusal.Refusal.{Refusal}
use Rattle.slices.specs.declared.refusal.Refusal.TheVariants.{Value, Order, NotFinite}
use Rattle.band_pass_program.specs.declared.Fault.{Fault}
use Rattle.band_pass_program.specs.declared.Fault.TheVariants.{Bounds, Format}
use Rattle.filter.specs.Filter.{band_pass}
use Rattle.filter.specs.Calls.{long_runs, band_refusal, band_pass_call}
use Rattle.band_pass_program.specs.Text.{is_line, refusal_from, text_refusal, column, line_text, lines_text, summary_text, passed_text, unless_refused, numbers_refusal, numbers_text, fault_number, answer}

-- ---- the refusal of a text

module _ (text : List ℕ) (line : ℕ) (goal : Result Unit Fault) where
  pub scan_ends : (left : ℕ) → length text ≤ 33 * line → refusal_from left text (33 * line) ≡ goal → Ok tt ≡ goal
  unfolding refusal_from
  scan_ends zero h inv = sym (rw (le-ltb (33 * line) (length text) h)) ∙ inv
  scan_ends (suc k) h inv = sym (rw (le-ltb (33 * line) (length text) h)) ∙ inv

  pub scan_over : (left : ℕ) → left ≤ 0 → 33 * line < length text → refusal_from left text (33 * line) ≡ goal → Err Bounds ≡ goal
  unfolding refusal_from
  scan_over zero z h inv = sym (rw (lt-ltb (33 * line) (length text) h)) ∙ inv
  scan_over (suc k) z h inv = absurd (omega arith)

  pub scan_bad : (b : Bool) → line < 4096 → 33 * line < length text → b ≡ is_line text (33 * line) → not b ≡ true → refusal_from (4096 - line) text (33 * line) ≡ goal → Err Format ≡ goal
  unfolding refusal_from
  scan_bad b z h e n inv =
      let f : is_line text (33 * line) ≡ false = sym e ∙ not-true b n in
      let s : 4096 - line ≡ suc (4096 - (line + 1)) = omega arith in
      let i : refusal_from (suc (4096 - (line + 1))) text (33 * line) ≡ goal = rw s at inv in
      sym (rw (lt-ltb (33 * line) (length text) h, f)) ∙ i

  pub scan_goes : (b : Bool) → line < 4096 → 33 * line < length text → b ≡ is_line text (33 * line) → not b ≡ false → refusal_from (4096 - line) text (33 * line) ≡ goal →
      refusal_from (4096 - (line + 1)) text (33 * (line + 1)) ≡ goal
  unfolding refusal_from
  scan_goes b z h e n inv =
      let f : is_line text (33 * line) ≡ true = sym e ∙ not-false b n in
      let s : 4096 - line ≡ suc (4096 - (line + 1)) = omega arith in
      let p : 33 * (line + 1) ≡ 33 * line + 33 = omega arith in
      let i : refusal_from (suc (4096 - (line + 1))) text (33 * line) ≡ goal = rw s at inv in
      rw p (sym (rw (lt-ltb (33 * line) (length text) h, f)) ∙ i)

over_none : (b : Bool) (n at : ℕ) (f : Fault) (goal : Result Unit Fault) → ltb at n ≡ b → cond b (Err f) goal ≡ goal → goal ≡ Ok tt → n ≤ at
over_none true n at f goal e h g = cc
over_none false n at f goal e h g = ltb-false at n e

line_none : (b c : Bool) (n at m : ℕ) (r goal : Result Unit Fault) → ltb at n ≡ b → cond b (cond c r (Err Format)) goal ≡ goal → goal ≡ Ok tt → (r ≡ goal → n ≤ m) → at ≤ m → n ≤ m
line_none true true n at m r goal e h k f g = f h
line_none true false n at m r goal e h k f g = cc
line_none false c n at m r goal e h k' f g = let k : n ≤ at = ltb-false at n e in omega arith

-- a text of lines has 33 bytes a line
pub refusal_length : (k : ℕ) (text : List ℕ) (at : ℕ) → refusal_from k text at ≡ Ok tt → length text ≤ at + 33 * k
unfolding refusal_from
refusal_length zero text at h = let k : length text ≤ at = over_none (ltb at (length text)) (length text) at Bounds (Ok tt) refl h refl in omega arith
refusal_length (suc k) text at h =
    line_none (ltb at (length text)) (is_line text at) (length text) at (at + 33 * suc k) (refusal_from k text (at + 33)) (Ok tt) refl h refl
    (λ z. omega (arith, refusal_length k text (at + 33) z)) (omega arith)

-- ---- columns

pub column_turn : (text : List ℕ) (from : ℕ) (out out₀ : List Float) (k : ℕ) (y : Float) → length out ≡ length out₀ → k < length out → y ≡ float_at text (from + 33 * k) →
    take k out ++ column text (from + 33 * k) (length out₀ - k) ≡ column text from (length out₀) →
    take (k + 1) (set out k y) ++ column text (from + 33 * (k + 1)) (length out₀ - (k + 1)) ≡ column text from (length out₀)
unfolding column
column_turn text from out out₀ k y l h e inv =
    let n : ℕ = length out₀ - (k + 1) in
    let s : length out₀ - k ≡ suc n = omega arith in
    let p : from + 33 * (k + 1) ≡ from + 33 * k + 33 = omega arith in
    rw p (fill_turn out (column text (from + 33 * k) (length out₀ - k)) (column text (from + 33 * k + 33) n) (column text from (length out₀)) k y h inv
    (ap (column text (from + 33 * k)) s ∙ ap (λ (v : Float). v ∷ column text (from + 33 * k + 33) n) (sym e)))

pub column_done : (text : List ℕ) (from : ℕ) (out out₀ : List Float) (k : ℕ) → length out ≡ length out₀ → length out ≤ k →
    take k out ++ column text (from + 33 * k) (length out₀ - k) ≡ column text from (length out₀) → out ≡ column text from (length out₀)
unfolding column
column_done text from out out₀ k l h inv =
    let z : length out₀ - k ≡ 0 = omega arith in
    fill_done out (column text (from + 33 * k) (length out₀ - k)) (column text from (length out₀)) k h (ap (column text (from + 33 * k)) z) inv

-- ---- a line

pub line_prints : (t v : Float) (a b at : ℕ) (o o1 o2 : List ℕ) → at + 33 ≤ length o → a ≡ to_bits binary64 t → b ≡ to_bits binary64 v →
    o1 ≡ written o at (digits_of 16 16 a) → length o1 ≡ length o → o2 ≡ written o1 (at + 16) (digits_of 16 16 b) → length o2 ≡ length o1 →
    Printed (line_text t v) o at (set o2 (at + 32) 10) (at + 33)
unfolding line_text
line_prints t v a b at o o1 o2 h ea eb e1 l1 e2 l2 =
    let da : length (digits_of 16 16 a) ≡ 16 = digits_length 16 16 a in
    let db : length (digits_of 16 16 b) ≡ 16 = digits_length 16 16 b in
    let p1 : Printed (digits_of 16 16 a) o at o1 (at + 16) = rw e1 (written_prints o (digits_of 16 16 a) at (at + 16) (omega arith) (omega arith)) in
    let p2 : Printed (digits_of 16 16 b) o1 (at + 16) o2 (at + 32) = rw e2 (written_prints o1 (digits_of 16 16 b) (at + 16) (at + 32) (omega arith) (omega arith)) in
    let s : at + 33 ≡ at + 32 + 1 = omega arith in
    let p3 : Printed line_feed o2 (at + 32) (set o2 (at + 32) 10) (at + 33) = record { ends = omega arith; text = rw s (take_set o2 (at + 32) 10 (omega arith)) } in
    rw (sym ea, sym eb) (then (digits_of 16 16 a) (digits_of 16 16 b ++ line_feed) o o1 (set o2 (at + 32) 10) at (at + 16) (at + 33) p1
    (then (digits_of 16 16 b) line_feed o1 o2 (set o2 (at + 32) 10) (at + 16) (at + 32) (at + 33) p2 p3))

-- ---- lines

pub lines_turn : (ts vs : List Float) (out out' goal : List ℕ) (i : ℕ) → i < length ts → length vs ≡ length ts →
    Printed (line_text (get_or ts i nan) (get_or vs i nan)) out (33 * i) out' (33 * i + 33) →
    take (33 * i) out ++ lines_text (drop i ts) (drop i vs) ≡ goal → take (33 * (i + 1)) out' ++ lines_text (drop (i + 1) ts) (drop (i + 1) vs) ≡ goal
unfolding lines_text
lines_turn ts vs out out' goal i h l p inv =
    let s : 33 * (i + 1) ≡ 33 * i + 33 = omega arith in
    rw s (ap (λ (x : List ℕ). x ++ lines_text (drop (i + 1) ts) (drop (i + 1) vs)) p.text
    ∙ append_assoc (take (33 * i) out) (line_text (get_or ts i nan) (get_or vs i nan)) (lines_text (drop (i + 1) ts) (drop (i + 1) vs))
    ∙ ap (λ (x : List ℕ). take (33 * i) out ++ x) (sym (λ j. lines_text (head_at ts i nan h j) (head_at vs i nan (omega arith) j)))
    ∙ inv)

line_length_law : (t v : Float) → length (line_text t v) ≡ 33
unfolding line_text
line_length_law t v = simp (length-append, digits_length)

pub lines_length : (ts vs : List Float) → length vs ≡ length ts → length (lines_text ts vs) ≡ 33 * length ts
unfolding lines_text
lines_length [] vs l = refl
lines_length (t ∷ ts) [] l = absurd (omega arith)
lines_length (t ∷ ts) (v ∷ vs) l = simp (length-append, line_length_law, lines_length ts vs (omega arith)) (omega arith)

pub lines_done : (ts vs : List Float) (out out₀ : List ℕ) (i : ℕ) → length ts ≤ i → i ≤ length ts → length vs ≡ length ts →
    take (33 * i) out ++ lines_text (drop i ts) (drop i vs) ≡ lines_text ts vs → Printed (lines_text ts vs) out₀ 0 out (33 * length ts)
unfolding lines_text
lines_done ts vs out out₀ i h g l inv =
    let e : i ≡ length ts = omega arith in
    record {
      ends = omega (arith, lines_length ts vs l);
      text = rw (sym e) (sym (rw (drop_of_length-le ts h) (append-nil (take (33 * i) out))) ∙ inv);
    }

-- ---- sentences

pub summary_prints : (m n : ℕ) (o o1 o2 o3 o4 o5 : List ℕ) (at a b c d r : ℕ) → Printed (114 ∷ 117 ∷ 110 ∷ 115 ∷ 32 ∷ []) o at o1 a → Printed (decimal_of m) o1 a o2 b →
    Printed (32 ∷ 112 ∷ 97 ∷ 115 ∷ 115 ∷ 101 ∷ 100 ∷ 32 ∷ []) o2 b o3 c → Printed (decimal_of n) o3 c o4 d → Printed line_feed o4 d o5 r → Printed (summary_text m n) o at o5 r
unfolding summary_text
summary_prints m n o o1 o2 o3 o4 o5 at a b c d r p1 p2 p3 p4 p5 =
    then (114 ∷ 117 ∷ 110 ∷ 115 ∷ 32 ∷ []) (decimal_of m ++ ((32 ∷ 112 ∷ 97 ∷ 115 ∷ 115 ∷ 101 ∷ 100 ∷ 32 ∷ []) ++ (decimal_of n ++ line_feed))) o o1 o5 at a r p1
    (then (decimal_of m) ((32 ∷ 112 ∷ 97 ∷ 115 ∷ 115 ∷ 101 ∷ 100 ∷ 32 ∷ []) ++ (decimal_of n ++ line_feed)) o1 o2 o5 a b r p2
    (then (32 ∷ 112 ∷ 97 ∷ 115 ∷ 115 ∷ 101 ∷ 100 ∷ 32 ∷ []) (decimal_of n ++ line_feed) o2 o3 o5 b c r p3 (then (decimal_of n) line_feed o3 o4 o5 c d r p4 p5)))

pub passed_prints : (ts ys : List Float) (m n : ℕ) (o o1 o2 : List ℕ) (r : ℕ) → Printed (lines_text ts ys) o 0 o1 (33 * length ts) → m ≡ length (runs_of ts) → n ≡ long_runs (runs_of ts) →
    Printed (summary_text m n) o1 (33 * length ts) o2 r → Printed (passed_text ts ys) o 0 o2 r
passed_prints ts ys m n o o1 o2 r p em en q =
    then (lines_text ts ys) (summary_text (length (runs_of ts)) (long_runs (runs_of ts))) o o1 o2 0 (33 * length ts) r p (rw (em, en) at q)

-- ---- the numbers

abbrev head : List (List Float) → List Float
head [] = []
head (x ∷ xs) = x

abbrev outcome_text : Verdict → List ℕ → List ℕ
outcome_text v text = unless_refused number_of v text

told : (b1 b2 b3 b4 : Bool) (w y o s s' : List Float) (r : Verdict) (f : List Float → List ℕ) → list_all finite w ≡ b4 →
    left r (y ∷ []) s' ≡ settled (cond b1 (cond b2 (cond b3 accepted (Err Order)) (Err Value)) (Err Value)) accepted (w ∷ []) (o ∷ []) s →
    outcome_text r (f y) ≡ outcome_text (cond b1 (cond b2 (cond b3 (cond b4 accepted (Err NotFinite)) (Err Order)) (Err Value)) (Err Value)) (f w)
told true true true true w y o s s' r f e4 e =
    let g : left r (y ∷ []) s' ≡ left accepted (w ∷ []) (cleared s) = e ∙ ap (λ (b : Bool). handed tt (b && true) (w ∷ []) (o ∷ []) s) e4 in
    (λ i. outcome_text (g i).answer (f (head (g i).outputs)))
told true true true false w y o s s' r f e4 e =
    let g : left r (y ∷ []) s' ≡ left_clear (Err NotFinite) (o ∷ []) s = e ∙ ap (λ (b : Bool). handed tt (b && true) (w ∷ []) (o ∷ []) s) e4 in
    (λ i. outcome_text (g i).answer (f y))
told true true false b4 w y o s s' r f e4 e = (λ i. outcome_text (e i).answer (f y))
told true false b3 b4 w y o s s' r f e4 e = (λ i. outcome_text (e i).answer (f y))
told false b2 b3 b4 w y o s s' r f e4 e = (λ i. outcome_text (e i).answer (f y))

module _ (ts x o s y s' : List Float) (r : Verdict) (lx : length x ≡ length ts) (lo : length o ≡ length ts) (few : length ts ≤ 4096) (room : 32768 ≤ length s)
    (e : left r (y ∷ []) s' ≡ band_pass_call ts x o s) where
  refusal_is : band_refusal ts x (length o) (length s) ≡ cond (list_all is_time ts) (cond (list_all finite x) (cond (rising ts) accepted (Err Order)) (Err Value)) (Err Value)
  unfolding band_refusal
  refusal_is =
      rw (le-leb (length ts) 100000 (omega arith), eq-eqb (length x) (length ts) lx, eq-eqb (length o) (length ts) lo, le-leb (8 * length ts) (length s) (omega arith))

  outcome_says : outcome_text r (passed_text ts y) ≡ numbers_text ts x
  unfolding numbers_text numbers_refusal
  outcome_says =
      told (list_all is_time ts) (list_all finite x) (rising ts) (list_all finite (band_pass ts x)) (band_pass ts x) y o s s' r (passed_text ts) refl
      (e ∙ ap (λ (v : Verdict). settled v accepted (band_pass ts x ∷ []) (o ∷ []) s) refusal_is)

  pub accepted_prints : (u : Unit {0}) (out out' : List ℕ) (k : ℕ) → r ≡ Ok u → Printed (passed_text ts y) out 0 out' k → Printed (numbers_text ts x) out 0 out' k
  accepted_prints u out out' k h p =
      mathlib.Core.Path.subst (λ (t : List ℕ). Printed t out 0 out' k) (ap (λ (q : Verdict). outcome_text q (passed_text ts y)) (sym h) ∙ outcome_says) p

  pub refused_numbers : (out out' : List ℕ) (k n : ℕ) (f : Refusal) → r ≡ Err f → n ≡ number_of f → Printed (refused_text n) out 0 out' k → Printed (numbers_text ts x) out 0 out' k
  refused_numbers out out' k n f h g p =
      mathlib.Core.Path.subst (λ (t : List ℕ). Printed t out 0 out' k) (ap refused_text g ∙ ap (λ (q : Verdict). outcome_text q (passed_text ts y)) (sym h) ∙ outcome_says) p

-- ---- the whole

pub text_refused : (text out out' : List ℕ) (f : Fault) (n r : ℕ) → text_refusal text ≡ Err f → n ≡ fault_number f → Printed (refused_text n) out 0 out' r → Printed (answer text) out 0 out' r
unfolding answer
text_refused text out out' f n r e g p =
    mathlib.Core.Path.subst (λ (t : List ℕ). Printed t out 0 out' r)
    (ap refused_text g ∙ ap (λ (v : Result Unit Fault). unless_refused fault_number v (numbers_text (column text 0 (length text / 33)) (column text 16 (length text / 33)))) (sym e)) p

pub text_lines : (text : List ℕ) → text_refusal text ≡ Ok tt → length text / 33 ≤ 4096
text_lines text h = let k : length text ≤ 0 + 33 * 4096 = refusal_length 4096 text 0 h in omega arith

pub text_answered : (text out out' : List ℕ) (n r : ℕ) → text_refusal text ≡ Ok tt → n ≡ length text / 33 →
    Printed (numbers_text (column text 0 n) (column text 16 n)) out 0 out' r → Printed (answer text) out 0 out' r
unfolding answer
text_answered text out out' n r e en p =
    mathlib.Core.Path.subst (λ (t : List ℕ). Printed t out 0 out' r)
    ((λ i. numbers_text (column text 0 (en i)) (column text 16 (en i))) ∙ ap (λ (v : Result Unit Fault). unless_refused fault_number v
    (numbers_text (column text 0 (length text / 33)) (column text 16 (length text / 33)))) (sym e)) p
