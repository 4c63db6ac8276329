-- A submission's text read header by header, row by row and line after line, as the loops and calls give their premises. Assumes nothing.
use mathlib.Core.Path.{◌≡◌, refl, sym, ap, ◌∙◌, subst}
use mathlib.Core.Bool.{Bool, true, false, cond, not, ◌&&◌}
use mathlib.Core.List.{List, [], ◌∷◌, ◌++◌, append-nil, append_assoc}
use Prim.Native.Nat.{ℕ, zero, suc, ◌+◌, ◌-◌, ◌*◌, ◌<◌, ◌≤◌}
use native.Mathlib.Nat.{mul-le-mul}
use native.Mathlib.Omega.{arith}
use borrow.Author.Tests.{not-true, not-false, leb-true}
use lib.Pointwise.{pointwise}
use lib.Dec.{leb, eqb}
use lib.ListN.{length, take, set, length-append}
use lib.Seq.{take_at, length-take-le}
use borrow.Rule.Slice.PartMut.{mid_of, post_of, put_mid, mid_len}
use lib.Ieee.{Float, binary64, of_bits}
use Rattle.std.specs.Prelude.{Result, Ok, Err}
use Rattle.std.proofs.lemmas.Bool.Decides.{nat_tests}
use Rattle.laws.specs.Loops.{fill_turn, fill_done, take_set}
use Rattle.hexadecimal.specs.Digits.{float_at}
use Rattle.submission_text.specs.declared.Fault.{Fault}
use Rattle.submission_text.specs.declared.Fault.TheVariants.{Bounds, Format}
use Rattle.submission_text.specs.declared.Reading.{Reading}
use Rattle.slices.specs.Calls.{first_failed}
use Rattle.submission_text.specs.Text.{Verdict, ended, taken_end, column, begins_with, words_in, is_term, is_row, row_tests, count_tests, degree_after, Taken, goes_on, accepted, header_fault, announced}
use Rattle.submission_text.specs.Text.{row_fault, row_taken, taken_row, taken, Fed, Read, stopped, left_by, line_read, joined, read_of, Reads}

-- ---- headers

eqb_flips : (n b : ℕ) → eqb n b ≡ eqb b n
eqb_flips n b = grind (arith, nat_tests)

pub begins_is : (name line : List ℕ) → pointwise eqb name (take (length name) line) ≡ begins_with name line
unfolding begins_with
begins_is [] line = refl
begins_is (n ∷ name) [] = refl
begins_is (n ∷ name) (b ∷ line) = (λ i. eqb_flips n b i && begins_is name line i)

-- ---- rows

pub few_coefficients : (degree : ℕ) → degree < 13 → (degree + 1) * (degree + 2) ≤ 182
few_coefficients degree h = mul-le-mul (let h1 : degree + 1 ≤ 13 = omega arith in h1) (let h2 : degree + 2 ≤ 14 = omega arith in h2)

module _ (line : List ℕ) (words : ℕ) (goal : Bool) where
  pub row_bad : (k : ℕ) (b : Bool) → k < words → b ≡ is_term line (17 * k) (words - k) → not b ≡ true → is_row line (17 * k) (words - k) ≡ goal → false ≡ goal
  unfolding is_row
  row_bad k b h e n inv =
      let s : words - k ≡ suc (words - (k + 1)) = omega arith in
      let t : is_term line (17 * k) (suc (words - (k + 1))) ≡ false = rw s at (sym e ∙ not-true b n) in
      let i : is_row line (17 * k) (suc (words - (k + 1))) ≡ goal = rw s at inv in
      sym (ap (λ (x : Bool). x && is_row line (17 * k + 17) (words - (k + 1))) t) ∙ i

  pub row_goes : (k : ℕ) (b : Bool) → k < words → b ≡ is_term line (17 * k) (words - k) → not b ≡ false → is_row line (17 * k) (words - k) ≡ goal →
      is_row line (17 * (k + 1)) (words - (k + 1)) ≡ goal
  unfolding is_row
  row_goes k b h e n inv =
      let s : words - k ≡ suc (words - (k + 1)) = omega arith in
      let p : 17 * (k + 1) ≡ 17 * k + 17 = omega arith in
      let t : is_term line (17 * k) (suc (words - (k + 1))) ≡ true = rw s at (sym e ∙ not-false b n) in
      let i : is_row line (17 * k) (suc (words - (k + 1))) ≡ goal = rw s at inv in
      rw p (sym (ap (λ (x : Bool). x && is_row line (17 * k + 17) (words - (k + 1))) t) ∙ i)

pub column_turn : (line : List ℕ) (out out₀ : List Float) (k : ℕ) (y : Float) → length out ≡ length out₀ → k < length out → y ≡ float_at line (17 * k) →
    take k out ++ column line (17 * k) (length out₀ - k) ≡ column line 0 (length out₀) →
    take (k + 1) (set out k y) ++ column line (17 * (k + 1)) (length out₀ - (k + 1)) ≡ column line 0 (length out₀)
unfolding column
column_turn line out out₀ k y l h e inv =
    let n : ℕ = length out₀ - (k + 1) in
    let s : length out₀ - k ≡ suc n = omega arith in
    let p : 17 * (k + 1) ≡ 17 * k + 17 = omega arith in
    rw p (fill_turn out (column line (17 * k) (length out₀ - k)) (column line (17 * k + 17) n) (column line 0 (length out₀)) k y h inv
    (ap (column line (17 * k)) s ∙ ap (λ (v : Float). v ∷ column line (17 * k + 17) n) (sym e)))

pub column_done : (line : List ℕ) (out out₀ : List Float) (k : ℕ) → length out ≡ length out₀ → length out ≤ k →
    take k out ++ column line (17 * k) (length out₀ - k) ≡ column line 0 (length out₀) → out ≡ column line 0 (length out₀)
unfolding column
column_done line out out₀ k l h inv =
    let z : length out₀ - k ≡ 0 = omega arith in
    fill_done out (column line (17 * k) (length out₀ - k)) (column line 0 (length out₀)) k h (ap (column line (17 * k)) z) inv

-- ---- what is left behind

fed_refused : (t : Result Taken Fault) (filled : ℕ) (before : List Float) (r : Result Reading Fault) (f : Fault) → t ≡ Err f → r ≡ Err f → Fed t filled before r before
fed_refused t filled before r f e h = subst (λ (t : Result Taken Fault). Fed t filled before r before) (sym e) (record { reading = h; numbers = refl })

fed_added : (t : Result Taken Fault) (u : Taken) (filled : ℕ) (before after : List Float) (r : Reading) → t ≡ Ok u → r ≡ u.reading →
    take u.reading.filled after ≡ take filled before ++ u.numbers → Fed t filled before (Ok r) after
fed_added t u filled before after r e h n = subst (λ (t : Result Taken Fault). Fed t filled before (Ok r) after) (sym e) (record { reading = ap Ok h; numbers = n })

first_ok : (b : Bool) (f : Fault) (v : Verdict) (u : Unit {0}) → cond b v (Err f) ≡ Ok u → (b ≡ true) × (v ≡ Ok u)
first_ok true f v u e = (refl, e)
first_ok false f v u e = cc

end_fed : (b : Bool) (e g : Reading) (before : List Float) (r : Result Reading Fault) → e.filled ≡ g.filled → r ≡ cond b (Ok e) (Err Format) → Fed (ended (cond b (Ok e) (Err Format))) g.filled before r before
end_fed true e g before r f h = record { reading = h; numbers = ap (λ (n : ℕ). take n before) f ∙ sym (append-nil (take g.filled before)) }
end_fed false e g before r f h = record { reading = h; numbers = refl }

pub end_taken : (line : List ℕ) (g : Reading) (before : List Float) (r : Result Reading Fault) → r ≡ taken_end line g → Fed (ended (taken_end line g)) g.filled before r before
unfolding taken_end
end_taken line g before r h =
    end_fed (eqb g.section 9 && eqb (length line) 0) (record { section = 10; left = g.left; filled = g.filled; degree = g.degree }) g before r refl h

pub count_room : (section n at room : ℕ) (u : Unit {0}) → header_fault section n at room ≡ Ok u → at + 1 ≤ room
unfolding header_fault
count_room section n at room u e = leb-true (at + 1) room (first_ok (leb (at + 1) room) Bounds (first_failed (count_tests section n)) u e).0

pub row_room : (section words at room : ℕ) (line : List ℕ) (u : Unit {0}) → row_fault section words at room line ≡ Ok u → at + words ≤ room
unfolding row_fault
row_room section words at room line u e =
    leb-true (at + words) room
    (first_ok (leb (at + words) room) Bounds (first_failed (row_tests section line)) u (first_ok (is_row line 0 words) Format (first_failed ((leb (at + words) room, Bounds) ∷ row_tests section line)) u e).1).0

module _ (n : ℕ) (g : Reading) (before : List Float) where
  pub count_refused : (f : Fault) (r : Result Reading Fault) → header_fault g.section n g.filled (length before) ≡ Err f → r ≡ Err f → Fed (announced (length before) g n) g.filled before r before
  unfolding announced
  count_refused f r e h = fed_refused _ g.filled before r f (ap (λ (v : Verdict). accepted v (record { reading = goes_on g.section n (g.filled + 1) g.degree; numbers = of_bits binary64 n ∷ [] })) e) h

  pub count_taken : (u : Unit {0}) (x : Float) (r : Reading) → header_fault g.section n g.filled (length before) ≡ Ok u → x ≡ of_bits binary64 n → r ≡ goes_on g.section n (g.filled + 1) g.degree →
      Fed (announced (length before) g n) g.filled before (Ok r) (set before g.filled x)
  unfolding announced goes_on
  count_taken u x r e ex er =
      let t : Taken = record { reading = goes_on g.section n (g.filled + 1) g.degree; numbers = of_bits binary64 n ∷ [] } in
      let room : g.filled + 1 ≤ length before = count_room g.section n g.filled (length before) u e in
      fed_added (announced (length before) g n) t g.filled before (set before g.filled x) r (ap (λ (v : Verdict). accepted v t) e) er
      (take_set before g.filled x (omega arith) ∙ ap (λ (y : Float). take g.filled before ++ (y ∷ [])) ex)

take_mid : (a e : ℕ) (xs ys : List Float) → a ≤ e → e ≤ length xs → length ys ≡ e - a → take e (put_mid a (e - a) xs ys) ≡ take a xs ++ ys
take_mid a e xs ys h g l =
    ap (take e) (sym (append_assoc (take a xs) ys (post_of a (e - a) xs)))
    ∙ take_at (take a xs ++ ys) (post_of a (e - a) xs) e
    (length-append (take a xs) ys ∙ rw (length-take-le a xs (let q : a ≤ length xs = omega arith in q), l) (let q : a + (e - a) ≡ e = omega arith in q))

column_length : (line : List ℕ) (at k : ℕ) → length (column line at k) ≡ k
unfolding column
column_length line at zero = refl
column_length line at (suc k) = ap suc (column_length line (at + 17) k)

module _ (line : List ℕ) (g : Reading) (before : List Float) (w : ℕ) (ew : w ≡ words_in g.section g.degree) where
  pub row_refused : (f : Fault) (r : Result Reading Fault) → row_fault g.section w g.filled (length before) line ≡ Err f → r ≡ Err f → Fed (taken_row (length before) line g) g.filled before r before
  unfolding taken_row row_taken
  row_refused f r e h =
      let t : Taken = record { reading = goes_on g.section (g.left - 1) (g.filled + w) (degree_after g.section line g.degree); numbers = column line 0 w } in
      subst (λ (k : ℕ). Fed (row_taken (length before) k line g) g.filled before r before) ew
      (fed_refused (row_taken (length before) w line g) g.filled before r f (ap (λ (v : Verdict). accepted v t) e) h)

  pub row_added : (u : Unit {0}) (r : Reading) (d : ℕ) (ys : List Float) → row_fault g.section w g.filled (length before) line ≡ Ok u →
      ys ≡ column line 0 (length (mid_of g.filled (g.filled + w - g.filled) before)) → d ≡ degree_after g.section line g.degree → r ≡ goes_on g.section (g.left - 1) (g.filled + w) d →
      Fed (taken_row (length before) line g) g.filled before (Ok r) (put_mid g.filled (g.filled + w - g.filled) before ys)
  unfolding taken_row row_taken goes_on
  row_added u r d ys e ey ed er =
      let t : Taken = record { reading = goes_on g.section (g.left - 1) (g.filled + w) (degree_after g.section line g.degree); numbers = column line 0 w } in
      let after : List Float = put_mid g.filled (g.filled + w - g.filled) before ys in
      let room : g.filled + w ≤ length before = row_room g.section w g.filled (length before) line u e in
      let q : g.filled + w - g.filled ≡ w = omega arith in
      let m : length (mid_of g.filled (g.filled + w - g.filled) before) ≡ w = mid_len g.filled (g.filled + w) before room ∙ q in
      let ec : ys ≡ column line 0 w = ey ∙ ap (column line 0) m in
      let l : length ys ≡ g.filled + w - g.filled = ap length ec ∙ column_length line 0 w ∙ sym q in
      subst (λ (k : ℕ). Fed (row_taken (length before) k line g) g.filled before (Ok r) after) ew
      (fed_added (row_taken (length before) w line g) t g.filled before after r (ap (λ (v : Verdict). accepted v t) e)
      (er ∙ ap (goes_on g.section (g.left - 1) (g.filled + w)) ed)
      (take_mid g.filled (g.filled + w) before ys (omega arith) room l ∙ ap (λ (y : List Float). take g.filled before ++ y) ec))

-- ---- lines

-- what `feed` leaves where a line is taken, and where it is refused
pub line_taken : (room : ℕ) (line : List ℕ) (g r : Reading) (u : Unit {0}) (filled : ℕ) (before after : List Float) → Fed (taken room line g) filled before (Ok r) after →
    Reads (line_read room line g (Ok u)) filled before r (Ok tt) after
unfolding line_read
line_taken room line g r u filled before after p = by (taken room line g) p
  where
    by : (t : Result Taken Fault) → Fed t filled before (Ok r) after → Reads (left_by g t) filled before r (Ok tt) after
    by (Ok t) p =
        let e : r ≡ t.reading = cc (p.reading) in
        record { reading = e; verdict = refl; numbers = ap (λ (x : Reading). take x.filled after) e ∙ p.numbers }
    by (Err f) p = let e : Ok r ≡ Err f = p.reading in cc

pub line_refused : (room : ℕ) (line : List ℕ) (g : Reading) (f : Fault) (u : Unit {0}) (filled : ℕ) (before after : List Float) → Fed (taken room line g) filled before (Err f) after →
    Reads (line_read room line g (Ok u)) g.filled before g (Err f) after
unfolding line_read
line_refused room line g f u filled before after p = by (taken room line g) p
  where
    by : (t : Result Taken Fault) → Fed t filled before (Err f) after → Reads (left_by g t) g.filled before g (Err f) after
    by (Ok t) p = let e : Err f ≡ Ok t.reading = p.reading in cc
    by (Err h) p = record { reading = refl; verdict = cc (p.reading); numbers = ap (take g.filled) p.numbers ∙ sym (append-nil (take g.filled before)) }

pub reads_none : (room : ℕ) (g : Reading) (v : Verdict) (before : List Float) → Reads (read_of room [] g v) g.filled before g v before
unfolding read_of
reads_none room g v before = record { reading = refl; verdict = refl; numbers = sym (append-nil (take g.filled before)) }

-- two parts in one list of numbers
reads_joined : (s t : Read) (filled : ℕ) (before after after' : List Float) (r r' : Reading) (v v' : Verdict) → Reads s filled before r v after → Reads t r.filled after r' v' after' →
    Reads (joined s t) filled before r' v' after'
reads_joined s t filled before after after' r r' v v' p q = record {
  reading = q.reading;
  verdict = q.verdict;
  numbers = q.numbers ∙ ap (λ (x : List Float). x ++ t.numbers) p.numbers ∙ append_assoc (take filled before) s.numbers t.numbers;
}

-- behind a part that left r and v, which its definition names
read_behind : (room : ℕ) (lines : List (List ℕ)) (s : Read) (filled : ℕ) (before after after' : List Float) (r r' : Reading) (v v' : Verdict) → Reads s filled before r v after →
    Reads (read_of room lines r v) r.filled after r' v' after' → Reads (joined s (read_of room lines s.reading s.verdict)) filled before r' v' after'
read_behind room lines s filled before after after' r r' v v' p q =
    reads_joined s (read_of room lines s.reading s.verdict) filled before after after' r r' v v' p
    (subst (λ (x : Reading × Verdict). Reads (read_of room lines x.0 x.1) r.filled after r' v' after') (λ i. (p.reading i, p.verdict i)) q)

-- what is left by line after line is what the lines say, where a line is refused as well as where all are taken
pub reads_on : (room : ℕ) (line : List ℕ) (lines : List (List ℕ)) (g r r' : Reading) (u v w : Verdict) (filled : ℕ) (before after after' : List Float) →
    Reads (line_read room line g u) filled before r v after → Reads (read_of room lines r v) r.filled after r' w after' → Reads (read_of room (line ∷ lines) g u) filled before r' w after'
unfolding read_of
reads_on room line lines g r r' u v w filled before after after' p q = read_behind room lines (line_read room line g u) filled before after after' r r' v w p q

-- a text read in two parts is the whole text read
parts_are : (room : ℕ) (lines more : List (List ℕ)) (g : Reading) (v : Verdict) →
    read_of room (lines ++ more) g v ≡ joined (read_of room lines g v) (read_of room more (read_of room lines g v).reading (read_of room lines g v).verdict)
unfolding read_of
parts_are room [] more g v = refl
parts_are room (line ∷ lines) more g v =
    let s = line_read room line g v in
    let t = read_of room lines s.reading s.verdict in
    let rest = read_of room more t.reading t.verdict in
    ap (joined s) (parts_are room lines more s.reading s.verdict)
    ∙ ap (λ (x : List Float). record { reading = rest.reading; numbers = x; verdict = rest.verdict }) (sym (append_assoc s.numbers t.numbers rest.numbers))

pub reads_parts : (room : ℕ) (lines more : List (List ℕ)) (g r r' : Reading) (u v w : Verdict) (filled : ℕ) (before after after' : List Float) →
    Reads (read_of room lines g u) filled before r v after → Reads (read_of room more r v) r.filled after r' w after' → Reads (read_of room (lines ++ more) g u) filled before r' w after'
reads_parts room lines more g r r' u v w filled before after after' p q =
    subst (λ (t : Read). Reads t filled before r' w after') (sym (parts_are room lines more g u))
    (read_behind room more (read_of room lines g u) filled before after after' r r' v w p q)

-- behind a refusal nothing is read
refused_stays : (room : ℕ) (lines : List (List ℕ)) (g : Reading) (f : Fault) → read_of room lines g (Err f) ≡ stopped g (Err f)
unfolding read_of line_read
refused_stays room [] g f = refl
refused_stays room (line ∷ lines) g f = ap (joined (stopped g (Err f))) (refused_stays room lines g f)

-- a line that is refused ends the reading, as far as it came before
pub reads_refused : (room : ℕ) (line : List ℕ) (lines : List (List ℕ)) (g : Reading) (u : Unit {0}) (f : Fault) → taken room line g ≡ Err f →
    read_of room (line ∷ lines) g (Ok u) ≡ stopped g (Err f)
unfolding read_of line_read
reads_refused room line lines g u f e =
    ap (λ (s : Read). joined s (read_of room lines s.reading s.verdict)) (ap (left_by g) e) ∙ ap (joined (stopped g (Err f))) (refused_stays room lines g f)
