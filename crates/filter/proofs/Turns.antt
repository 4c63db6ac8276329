-- One turn of each loop of `src/work.rt`, and each call, by the definitions of `specs/Filter.antt`. Assumes nothing.
use mathlib.Core.Path.{◌≡◌, refl, sym, ap, ◌∙◌, subst}
use mathlib.Core.List.{List, [], ◌∷◌, ◌++◌, append_assoc, append-nil, reverse, reverse-append}
use mathlib.Core.Bool.{Bool, true, false, cond, not}
use lib.Dec.{ltb}
use mir.Val.{bool_byte}
use Prim.Native.Nat.{ℕ, suc, ◌+◌, ◌-◌, ◌*◌, ◌/◌, ◌<◌, ◌≤◌}
use native.Mathlib.Omega.{arith}
use native.Mathlib.Numerals.{unary_clauses}
use lib.ListN.{length, take, drop, get_or, set, length-take, length-drop, length-reverse, length-append, take-append-drop, drop_of_length-le}
use lib.Seq.{get_or-drop, take_at, drop_at}
use borrow.Author.Tests.{lt-ltb, le-ltb}
use borrow.Rule.Slice.PartMut.{put_mid, mid_of, same_len_mid, mid_len}
use lib.Ieee.{Float, nan}
use Rattle.std.specs.List.{IsChunkByPrefix}
use Rattle.laws.specs.Floats.{◌⊖◌, ◌⊗◌, two64}
use Rattle.laws.specs.Loops.{cleared, head_at, fill_turn}
use Rattle.laws.specs.Runs.{splits, runs_of, pass_runs, passed}
use Rattle.slices.specs.Slices.{copied}
use Rattle.slices.proofs.SliceLoops.{copied_all, take_reverse}
use Rattle.filter.specs.Sections.{sections_of}
use Rattle.filter.specs.Calls.{long_runs}
use Rattle.filter.specs.Filter.{through_one, through, reflected, pad_before, pad_after, padded, both_ways, filtfilt, pass_by}
use Rattle.filter.specs.declared.Biquad.{Biquad}
use Rattle.filter.specs.declared.BiquadMemory.{BiquadMemory}

-- ---- four sections

-- a list through four sections that remember k, l, m and n
module _ (a b c d : Biquad) where
  abbrev pub through_four : BiquadMemory → BiquadMemory → BiquadMemory → BiquadMemory → List Float → List Float
  through_four k l m n x = through_one d n (through_one c m (through_one b l (through_one a k x)))

-- ---- sections

head_to {ℓ} : {A : Type ℓ} (x : List A) (i j : ℕ) (d : A) → i < length x → j ≡ i + 1 → drop i x ≡ get_or x i d ∷ drop j x
head_to {A = A} x i j d h e = head_at x i d h ∙ ap (λ (k : ℕ). get_or x i d ∷ drop k x) (sym e)

-- the sections of a flat list from a place on: the first, and those behind it
pub sections_at : (cs : List Float) (at : ℕ) → at + 5 ≤ length cs → sections_of (drop at cs) ≡
    record { b0 = get_or cs at nan; b1 = get_or cs (at + 1) nan; b2 = get_or cs (at + 2) nan; a1 = get_or cs (at + 3) nan; a2 = get_or cs (at + 4) nan } ∷ sections_of (drop (at + 5) cs)
sections_at cs at h =
    ap sections_of
    (head_to cs at (at + 1) nan (omega arith) refl
    ∙ ap (λ (l : List Float). get_or cs at nan ∷ l)
    (head_to cs (at + 1) (at + 2) nan (omega arith) (omega arith)
    ∙ ap (λ (l : List Float). get_or cs (at + 1) nan ∷ l)
    (head_to cs (at + 2) (at + 3) nan (omega arith) (omega arith)
    ∙ ap (λ (l : List Float). get_or cs (at + 2) nan ∷ l)
    (head_to cs (at + 3) (at + 4) nan (omega arith) (omega arith)
    ∙ ap (λ (l : List Float). get_or cs (at + 3) nan ∷ l)
    (head_to cs (at + 4) (at + 5) nan (omega arith) (omega arith))))))

sections_none : (l : List Float) → length l < 5 → sections_of l ≡ []
sections_none [] h = refl
sections_none (a ∷ []) h = refl
sections_none (a ∷ b ∷ []) h = refl
sections_none (a ∷ b ∷ c ∷ []) h = refl
sections_none (a ∷ b ∷ c ∷ d ∷ []) h = refl
sections_none (a ∷ b ∷ c ∷ d ∷ e ∷ l) h = absurd (omega arith)

pub run_done : (cs x goal : List Float) (k : ℕ) → length cs / 5 ≤ k → through (sections_of (drop (5 * k) cs)) x ≡ goal → x ≡ goal
run_done cs x goal k h inv = ap (λ (ss : List Biquad). through ss x) (sym (sections_none (drop (5 * k) cs) (simp length-drop (omega arith)))) ∙ inv

-- ---- padding

-- the p values before x[end], from the last of them back, about v
abbrev pub mirrored : Float → ℕ → ℕ → List Float → List Float
mirrored v p end x = reflected v (reverse (take p (drop (end - p) x)))

reflect_step : (v : Float) (x : List Float) (p end k : ℕ) → k < p → p ≤ end → end ≤ length x →
    reflected v (reverse (take (p - k) (drop (end - p) x))) ≡ (two64 ⊗ v ⊖ get_or x (end - 1 - k) nan) ∷ reflected v (reverse (take (p - (k + 1)) (drop (end - p) x)))
reflect_step v x p end k h g f =
    let m : ℕ = p - (k + 1) in
    let l : List Float = drop (end - p) x in
    let e : p - k ≡ suc m = omega arith in
    let j : end - p + m ≡ end - 1 - k = omega arith in
    let q : get_or l m nan ≡ get_or x (end - 1 - k) nan = get_or-drop (end - p) x m nan ∙ ap (λ (n : ℕ). get_or x n nan) j in
    rw e (ap (reflected v) (take_reverse nan l m (rw (length-drop (end - p) x) (omega arith)) ∙ ap (λ (a : Float). a ∷ reverse (take m l)) q))

pub reflect_turn : (x out out₀ : List Float) (v : Float) (end k : ℕ) → length out ≡ length out₀ → length out₀ ≤ end → end ≤ length x → k < length out₀ →
    take k out ++ reflected v (reverse (take (length out₀ - k) (drop (end - length out₀) x))) ≡ mirrored v (length out₀) end x →
    take (k + 1) (set out k (two64 ⊗ v ⊖ get_or x (end - 1 - k) nan)) ++ reflected v (reverse (take (length out₀ - (k + 1)) (drop (end - length out₀) x))) ≡ mirrored v (length out₀) end x
reflect_turn x out out₀ v end k l g f t inv = fill_turn out _ _ _ k _ (omega arith) inv (reflect_step v x (length out₀) end k t g f)

-- the p values before the last, from the end or from the front
mirror_end {ℓ} : {A : Type ℓ} (x : List A) (p : ℕ) → p < length x → reverse (take p (drop (length x - 1 - p) x)) ≡ take p (drop 1 (reverse x))
mirror_end {A = A} x p h =
    let j : ℕ = length x - 1 - p in
    let a : List A = take j x in
    let b : List A = take p (drop j x) in
    let r : List A = drop p (drop j x) in
    let lb : length (reverse b) ≡ p = simp (length-reverse, length-take, length-drop) (omega arith) in
    let lr : length (reverse r) ≡ 1 = simp (length-reverse, length-drop) (omega arith) in
    let whole : reverse x ≡ reverse r ++ (reverse b ++ reverse a) =
    ap reverse (sym (take-append-drop j x)) ∙ reverse-append a (drop j x)
    ∙ ap (λ (l : List A). reverse l ++ reverse a) (sym (take-append-drop p (drop j x)))
    ∙ ap (λ (l : List A). l ++ reverse a) (reverse-append b r) ∙ append_assoc (reverse r) (reverse b) (reverse a) in
    sym (ap (λ (l : List A). take p (drop 1 l)) whole ∙ ap (take p) (drop_at (reverse r) (reverse b ++ reverse a) 1 lr) ∙ take_at (reverse b) (reverse a) p lb)

before_is : (x : List Float) (p : ℕ) → mirrored (get_or x 0 nan) p (p + 1) x ≡ pad_before p x
unfolding pad_before
before_is x p = let e : p + 1 - p ≡ 1 = omega arith in ap (λ (k : ℕ). reflected (get_or x 0 nan) (reverse (take p (drop k x)))) e

after_is : (x : List Float) (p : ℕ) → p < length x → mirrored (get_or x (length x - 1) nan) p (length x - 1) x ≡ pad_after p x
unfolding pad_after
after_is x p h = ap (reflected (get_or x (length x - 1) nan)) (mirror_end x p h)

-- what is done stays, and ys stand behind it
put_next {ℓ} : {A : Type ℓ} (front r ys : List A) (at k : ℕ) → length front ≡ at →
    take at (front ++ r) ++ (ys ++ drop k (drop at (front ++ r))) ≡ (front ++ ys) ++ drop k r
put_next front r ys at k e = rw (take_at front r at e, drop_at front r at e) (sym (append_assoc front ys (drop k r)))

-- y after its first part, its second and its third have come back as b, m and a
abbrev pub padded1 : ℕ → List Float → List Float → List Float
padded1 p y b = put_mid 0 (p - 0) y b

abbrev pub padded2 : ℕ → ℕ → List Float → List Float → List Float → List Float
padded2 p n y b m = put_mid p (p + n - p) (padded1 p y b) m

abbrev pub padded3 : ℕ → ℕ → List Float → List Float → List Float → List Float → List Float
padded3 p n y b m a = put_mid (p + n) (length (padded2 p n y b m) - (p + n)) (padded2 p n y b m) a

pub pad_law : (x y b m a : List Float) (p : ℕ) → p < length x → length y ≡ p + (length x + p) → length b ≡ length (mid_of 0 (p - 0) y) →
    b ≡ mirrored (get_or x 0 nan) (length (mid_of 0 (p - 0) y)) (p + 1) x → m ≡ copied x (mid_of p (p + length x - p) (padded1 p y b)) →
    a ≡ mirrored (get_or x (length x - 1) nan) (length (mid_of (p + length x) (length (padded2 p (length x) y b m) - (p + length x)) (padded2 p (length x) y b m))) (length x - 1) x →
    padded3 p (length x) y b m a ≡ padded p x
pad_law x y b m a p h ly lb eb ec ea =
    let n : ℕ = length x in
    let r : List Float = drop (p - 0) y in
    let one : length (mid_of 0 (p - 0) y) ≡ p = simp length-take (omega arith) in
    let lb' : length b ≡ p = lb ∙ one in
    let lr : length r ≡ n + p = simp length-drop (omega arith) in
    let k : ℕ = p + n - p in
    let l1 : length (padded1 p y b) ≡ length y = same_len_mid 0 (p - 0) y b lb in
    let room : p + n ≤ length (padded1 p y b) = omega arith in
    let same : p + n - p ≡ n = omega arith in
    let lc : length (mid_of p (p + n - p) (padded1 p y b)) ≡ n = mid_len p (p + n) (padded1 p y b) room ∙ same in
    let em : m ≡ x = ec ∙ copied_all x (mid_of p (p + n - p) (padded1 p y b)) lc in
    let lm : length m ≡ n = ap length em in
    let s : padded2 p n y b m ≡ (b ++ m) ++ drop k r = put_next b r m p k lb' in
    let lbm : length (b ++ m) ≡ p + n = simp length-append (omega arith) in
    let two : length (padded2 p n y b m) ≡ p + n + p = ap length s ∙ simp (length-append, length-drop) (omega arith) in
    let three : length (mid_of (p + n) (length (padded2 p n y b m) - (p + n)) (padded2 p n y b m)) ≡ p =
    simp (length-take, length-drop) (rw two (omega arith)) in
    let q : ℕ = length (padded2 p n y b m) - (p + n) in
    let nothing : drop q (drop k r) ≡ [] = drop_of_length-le (drop k r) {i = q} (simp (length-drop) (omega arith)) in
    ap (λ (l : List Float). put_mid (p + n) q l a) s
    ∙ put_next (b ++ m) (drop k r) a (p + n) q lbm
    ∙ ap (λ (l : List Float). (b ++ m) ++ a ++ l) nothing
    ∙ append-nil ((b ++ m) ++ a)
    ∙ append_assoc b m a
    ∙ (λ i. (eb ∙ ap (λ (j : ℕ). mirrored (get_or x 0 nan) j (p + 1) x) one ∙ before_is x p) i
    ++ (em i ++ (ea ∙ ap (λ (j : ℕ). mirrored (get_or x (length x - 1) nan) j (length x - 1) x) three ∙ after_is x p h) i))

-- ---- forward and backward

pub both_law : (ss : List Biquad) (x y1 y2 y3 y4 y5 x' : List Float) (p : ℕ) → length y5 ≡ p + (length x + p) →
    y1 ≡ padded p x → y2 ≡ through ss y1 → y3 ≡ reverse y2 → y4 ≡ through ss y3 → y5 ≡ reverse y4 → x' ≡ copied (mid_of p (p + length x - p) y5) x →
    x' ≡ both_ways ss p x
both_law ss x y1 y2 y3 y4 y5 x' p l5 e1 e2 e3 e4 e5 e6 =
    let n : ℕ = length x in
    let k : p + n - p ≡ n = omega arith in
    let lm : length x ≡ length (mid_of p (p + n - p) y5) = simp (length-take, length-drop) (omega arith) in
    e6 ∙ copied_all (mid_of p (p + n - p) y5) x lm ∙ ap (λ (j : ℕ). mid_of p j y5) k
    ∙ ap (λ (y : List Float). take n (drop p y))
    (e5 ∙ ap reverse (e4 ∙ ap (through ss) (e3 ∙ ap reverse (e2 ∙ ap (through ss) e1))))

-- ---- one run

pub pass_long : (ss : List Biquad) (x y : List Float) → 64 < length x → y ≡ filtfilt ss 1500 x → y ≡ pass_by ss x
unfolding pass_by
pass_long ss x y h e = simp (lt-ltb 64 (length x) h) e

pub cleared_short : (ss : List Biquad) (x : List Float) → length x ≤ 64 → pass_by ss x ≡ cleared x
unfolding pass_by
cleared_short ss x h = simp (le-ltb 64 (length x) h)

-- ---- run by run

-- t goes on to u in one run
abbrev pub joins : Float → Float → Bool
joins t u = not (splits t u)

to_true : (b : Bool) → not b ≡ false → b ≡ true
to_true true h = refl
to_true false h = sym h

to_false : (b : Bool) → not b ≡ true → b ≡ false
to_false true h = sym h
to_false false h = refl

-- what `chunk_by` cuts off is the first run
cut_run : (us vs : List Float) → 0 < length us → IsChunkByPrefix joins (us ++ vs) (length us) → runs_of (us ++ vs) ≡ length us ∷ runs_of vs
cut_run [] vs h c = absurd (omega arith)
cut_run (t ∷ []) [] h c = refl
cut_run (t ∷ []) (v ∷ vs) h c = rw (to_true (splits t v) (c.1 (omega arith) t)) refl
cut_run (t ∷ u ∷ us) vs h c =
    let inner : (k : ℕ) (d : Float) → k + 1 < length (u ∷ us) → joins (get_or (u ∷ us ++ vs) k d) (get_or (u ∷ us ++ vs) (k + 1) d) ≡ true =
    λ k d g. simp unary_clauses (simp unary_clauses at (c.0 (suc k) d (omega arith))) in
    let last : length (u ∷ us) < length (u ∷ us ++ vs) → (d : Float) → joins (get_or (u ∷ us ++ vs) (length (u ∷ us) - 1) d) (get_or (u ∷ us ++ vs) (length (u ∷ us)) d) ≡ false =
    λ g d. simp unary_clauses (simp unary_clauses at (c.1 (omega arith) d)) in
    rw (to_false (splits t u) (c.0 0 t (omega arith)), cut_run (u ∷ us) vs (omega arith) (inner, last)) refl

cut_runs : (ts us vs : List Float) → ts ≡ us ++ vs → 0 < length us → IsChunkByPrefix joins ts (length us) → runs_of ts ≡ length us ∷ runs_of vs
cut_runs ts us vs e h c = ap runs_of e ∙ cut_run us vs h (subst (λ (l : List Float). IsChunkByPrefix joins l (length us)) e c)

-- a turn of the loop over the runs: the run us, whose samples stand from start to e, is passed, and ys takes their place
pub pass_turn : (pass : List Float → List Float) (ts us vs x goal ys : List Float) (start e : ℕ) → ts ≡ us ++ vs → 0 < length us →
    IsChunkByPrefix joins ts (length us) → start + length ts ≡ length x → e ≡ start + length us →
    length ys ≡ length (mid_of start (e - start) x) → ys ≡ pass (mid_of start (e - start) x) →
    take start x ++ passed pass ts (drop start x) ≡ goal →
    take e (put_mid start (e - start) x ys) ++ passed pass vs (drop e (put_mid start (e - start) x ys)) ≡ goal
pass_turn pass ts us vs x goal ys start e cut some runs l ee ly ey inv =
    let k : ℕ = length us in
    let lt : length ts ≡ k + length vs = ap length cut ∙ length-append us vs in
    let ke : e - start ≡ k = omega arith in
    let r : runs_of ts ≡ k ∷ runs_of vs = cut_runs ts us vs cut some runs in
    let post : List Float = drop (e - start) (drop start x) in
    let x' : List Float = put_mid start (e - start) x ys in
    let ls : length (take start x ++ ys) ≡ e = simp (length-append, length-take) (rw ly (simp (length-take, length-drop) (omega arith))) in
    let parts : x' ≡ (take start x ++ ys) ++ post = sym (append_assoc (take start x) ys post) in
    let done : take e x' ≡ take start x ++ ys = ap (take e) parts ∙ take_at (take start x ++ ys) post e ls in
    let left : drop k (drop start x) ≡ drop e x' = ap (λ (n : ℕ). drop n (drop start x)) (sym ke) ∙ sym (ap (drop e) parts ∙ drop_at (take start x ++ ys) post e ls) in
    let ys_is : ys ≡ pass (take k (drop start x)) = ey ∙ ap (λ (n : ℕ). pass (take n (drop start x))) ke in
    let b : passed pass ts (drop start x) ≡ ys ++ passed pass vs (drop e x') =
    ap (λ (ks : List ℕ). pass_runs pass ks (drop start x)) r
    ∙ (λ i. sym ys_is i ++ pass_runs pass (runs_of vs) (left i)) in
    ap (λ (f : List Float). f ++ passed pass vs (drop e x')) done
    ∙ append_assoc (take start x) ys (passed pass vs (drop e x'))
    ∙ ap (λ (f : List Float). take start x ++ f) (sym b)
    ∙ inv

-- ---- counting runs

pub byte_is : (b : Bool) → bool_byte b ≡ cond b 1 0
byte_is true = refl
byte_is false = refl

-- one turn more: the runs and the long ones of what is left
pub runs_turn : (ts us vs : List Float) (runs long goal all : ℕ) → ts ≡ us ++ vs → 0 < length us → IsChunkByPrefix joins ts (length us) →
    runs + length (runs_of ts) ≡ goal → long + long_runs (runs_of ts) ≡ all →
    (runs + 1 + length (runs_of vs) ≡ goal) × (long + bool_byte (ltb 64 (length us)) + long_runs (runs_of vs) ≡ all)
runs_turn ts us vs runs long goal all e h c i j =
    let r : runs_of ts ≡ length us ∷ runs_of vs = cut_runs ts us vs e h c in
    (omega (arith, ap length r, i), omega (arith, ap long_runs r, byte_is (ltb 64 (length us)), j))
