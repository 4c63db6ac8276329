-- What the calls leave behind: the outputs hold X and Y, as long as they were, and the scratch is cleared. Assumes nothing.
use Rattle.std.specs.Prelude.{◌≡◌, refl, ℕ, ◌+◌, ◌≤◌, Bool, true, false, List, [], ◌∷◌, length, Float, Err}
use Rattle.std.proofs.Common.{sym, ap, ap₂, ◌∙◌}
use borrow.Author.Tests.{le-leb, eq-eqb}
use Rattle.std.specs.Float.Ieee.Scale.{finite}
use Rattle.std.specs.List.{list_all}
use Rattle.laws.specs.Loops.{cleared, same_cleared}
use Rattle.laws.specs.Tables.{rows, rows_length}
use Rattle.slices.specs.Calls.{Verdict, accepted, left, handed, settled}
use Rattle.slices.specs.declared.refusal.Refusal.TheVariants.{NotFinite}
use Rattle.legendre.specs.Legendre.{a_of, b_of}
use Rattle.legendre.specs.Field.{size}
use Rattle.legendre.specs.Prepared.{tabulated}
use Rattle.fields.specs.Calls.{handed_two, handed_one, two_tables, refusal_of, new_call}
use Rattle.fields.proofs.Refusals.{passed, two_say}

with_two : (b : Bool) (X Y x y w : List Float) → length X ≡ length x → length Y ≡ length y →
    left (handed (tt {0}) b (X ∷ Y ∷ []) (X ∷ Y ∷ []) []).answer (handed (tt {0}) b (X ∷ Y ∷ []) (X ∷ Y ∷ []) []).outputs (cleared w) ≡ handed (tt {0}) b (X ∷ Y ∷ []) (x ∷ y ∷ []) w
with_two true X Y x y w e f = refl
with_two false X Y x y w e f = ap₂ (λ (i j : List Float). left (Err NotFinite) (i ∷ j ∷ []) (cleared w)) (same_cleared X x e) (same_cleared Y y f)

with_one : (b : Bool) (X x w : List Float) → length X ≡ length x →
    left (handed (tt {0}) b (X ∷ []) (X ∷ []) []).answer (handed (tt {0}) b (X ∷ []) (X ∷ []) []).outputs (cleared w) ≡ handed (tt {0}) b (X ∷ []) (x ∷ []) w
with_one true X x w e = refl
with_one false X x w e = ap (λ (i : List Float). left (Err NotFinite) (i ∷ []) (cleared w)) (same_cleared X x e)

pub two_left : (X Y x y w x' y' w' : List Float) (r g : Verdict) → accepted ≡ g → length X ≡ length x → length Y ≡ length y → w' ≡ cleared w → left r (x' ∷ y' ∷ []) [] ≡ handed_two X Y →
    left r (x' ∷ y' ∷ []) w' ≡ settled g accepted (X ∷ Y ∷ []) (x ∷ y ∷ []) w
two_left X Y x y w x' y' w' r g eg lx ly ew e =
    (λ i. left (e i).answer (e i).outputs (ew i))
    ∙ with_two (list_all (list_all finite) (X ∷ Y ∷ [])) X Y x y w lx ly ∙ ap (λ (k : Verdict). settled k accepted (X ∷ Y ∷ []) (x ∷ y ∷ []) w) eg

pub one_left : (X x w x' w' : List Float) (r g : Verdict) → accepted ≡ g → length X ≡ length x → w' ≡ cleared w → left r (x' ∷ []) [] ≡ handed_one X →
    left r (x' ∷ []) w' ≡ settled g accepted (X ∷ []) (x ∷ []) w
one_left X x w x' w' r g eg lx ew e =
    (λ i. left (e i).answer (e i).outputs (ew i))
    ∙ with_one (list_all (list_all finite) (X ∷ [])) X x w lx ∙ ap (λ (k : Verdict). settled k accepted (X ∷ []) (x ∷ []) w) eg

-- ---- `legendre_new`

tabulated_rows : (f : ℕ → ℕ → Float) (N : ℕ) (out : List Float) → N ≤ 180 → length out ≡ size N → tabulated f N out ≡ rows f (N + 1)
unfolding tabulated
tabulated_rows f N out h e = rw (le-leb N 180 h, eq-eqb (length out) (size N) e)

pub new_answered : (N : ℕ) (a b w X Y a' b' w' : List Float) (r : Verdict) → accepted ≡ refusal_of N (two_tables (size N) (length a) (length b) (length w)) true →
    X ≡ tabulated a_of N a → Y ≡ tabulated b_of N b → w' ≡ cleared w → left r (a' ∷ b' ∷ []) [] ≡ handed_two X Y →
    left r (a' ∷ b' ∷ []) w' ≡ new_call N a b w
new_answered N a b w X Y a' b' w' r h ea eb ew er =
    let p = passed N (two_tables (size N) (length a) (length b) (length w)) true h in
    let f = two_say N (length a) (length b) (length w) p.high p.shaped in
    let qa = ea ∙ tabulated_rows a_of N a p.high f.a in
    let qb = eb ∙ tabulated_rows b_of N b p.high f.b in
    two_left (rows a_of (N + 1)) (rows b_of (N + 1)) a b w a' b' w' r _ h (rows_length a_of (N + 1) ∙ sym f.a) (rows_length b_of (N + 1) ∙ sym f.b) ew (er ∙ ap₂ handed_two qa qb)
