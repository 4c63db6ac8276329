-- What a public call leaves behind, in the cases of its code. Assumes nothing.
use Rattle.std.specs.Prelude.{◌≡◌, refl, Bool, true, false, cond, eqb, List, [], ◌∷◌, length, Float, Result, Ok, Err, IsErr, IsErrAnd}
use Rattle.std.proofs.Common.{sym, ap, ◌∙◌}
use mathlib.Core.Bool.{and-true}
use Rattle.std.specs.Float.Ieee.Scale.{finite}
use Rattle.std.specs.List.{list_all}
use Rattle.laws.specs.Loops.{cleared, same_cleared}
use Rattle.slices.specs.declared.refusal.Refusal.{Refusal}
use Rattle.slices.specs.declared.refusal.Refusal.TheVariants.{Degree, Count, Length, Value, Order, Uncovered, TooFew, NoStart, Singular, NotFinite}
use Rattle.slices.specs.Answers.{number_of}
use Rattle.slices.specs.Calls.{Verdict, accepted, left, left_clear, handed, settled}

-- a chain of tests that is accepted: the first is passed, and so is the rest
pub cond_passes : {A : Type 0} {a : A} (b : Bool) (v : Result A Refusal) (e : Refusal) → cond b v (Err e) ≡ Ok a → (b ≡ true) × (v ≡ Ok a)
cond_passes true v e h = (refl, h)
cond_passes false v e h = cc

module _ {A : Type 0} (new outputs : List (List Float)) (scratch : List Float) where
  -- refused before the work
  pub call_refused : (v : Verdict) (during : Result A Refusal) (e : Refusal) → v ≡ Err e → left (Err e) outputs scratch ≡ settled v during new outputs scratch
  call_refused v during e h = rw h

  -- refused during the work
  pub call_failed : (v : Verdict) (during : Result A Refusal) (e : Refusal) → v ≡ accepted → during ≡ Err e → left_clear (Err e) outputs scratch ≡ settled v during new outputs scratch
  call_failed v during e h f = rw (h, f)

  -- the numbers worked out are handed out, or refused
  pub call_handed : (v : Verdict) (during : Result A Refusal) (a : A) (b : Bool) → v ≡ accepted → during ≡ Ok a → b ≡ list_all (list_all finite) new
      → handed a b new outputs scratch ≡ settled v during new outputs scratch
  call_handed v during a b h f e = rw (h, f, e)

-- ---- a call with one output, after whose work only numbers that are not finite refuse: y, as long as what stood there, is what the code has of `work`

cleared_like : (z s s' : List Float) → z ≡ cleared s' → length s' ≡ length s → z ≡ cleared s
cleared_like z s s' e l = e ∙ same_cleared s' s l

all_of_one : (b : Bool) (y work : List Float) → b ≡ list_all finite y → y ≡ work → b ≡ list_all (list_all finite) (work ∷ [])
all_of_one b y work e h = e ∙ ap (list_all finite) h ∙ sym (and-true (list_all finite work))

module _ {A : Type 0} (a : A) (v : Verdict) (work old s : List Float) where
  pub one_refused : (e : Refusal) → v ≡ Err e → left (Err e) (old ∷ []) s ≡ settled v (Ok a) (work ∷ []) (old ∷ []) s
  one_refused e h = call_refused (work ∷ []) (old ∷ []) s v (Ok a) e h

  pub one_accepted : (y z s' : List Float) (b : Bool) → v ≡ accepted → y ≡ work → z ≡ cleared s' → length s' ≡ length s → b ≡ list_all finite y → b ≡ true
      → left (Ok a) (y ∷ []) z ≡ settled v (Ok a) (work ∷ []) (old ∷ []) s
  one_accepted y z s' b h ey ez l eb f =
      (λ i. left (Ok a) (ey i ∷ []) (cleared_like z s s' ez l i)) ∙ call_handed (work ∷ []) (old ∷ []) s v (Ok a) a true h refl (sym f ∙ all_of_one b y work eb ey)

  pub one_unfit : (y y' z old' s' : List Float) (b : Bool) → v ≡ accepted → y ≡ work → y' ≡ cleared old' → length old' ≡ length old → z ≡ cleared s' → length s' ≡ length s
      → b ≡ list_all finite y → b ≡ false → left (Err NotFinite) (y' ∷ []) z ≡ settled v (Ok a) (work ∷ []) (old ∷ []) s
  one_unfit y y' z old' s' b h ey ey' lo ez l eb f =
      (λ i. left (Err NotFinite) (cleared_like y' old old' ey' lo i ∷ []) (cleared_like z s s' ez l i))
      ∙ call_handed (work ∷ []) (old ∷ []) s v (Ok a) a false h refl (sym f ∙ all_of_one b y work eb ey)

-- ---- a refusal that `?` hands on

pub handed_on : {A : Type 0} (r : Result A Refusal) (e : Refusal) → IsErr r × IsErrAnd r (λ (f : Refusal). f ≡ e) → r ≡ Err e
handed_on (Ok a) e h = cc
handed_on (Err f) e h = ap Err h.1

-- ---- no refusal has the number of acceptance

pub refused_ne0 : (e : Refusal) → eqb (number_of e) 0 ≡ false
refused_ne0 Degree = refl
refused_ne0 Count = refl
refused_ne0 Length = refl
refused_ne0 Value = refl
refused_ne0 Order = refl
refused_ne0 Uncovered = refl
refused_ne0 TooFew = refl
refused_ne0 NoStart = refl
refused_ne0 Singular = refl
refused_ne0 NotFinite = refl
