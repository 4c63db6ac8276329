-- One record made, or none, in a work slice that stays usable. Assumes nothing.
use mathlib.Core.Path.{◌≡◌, refl, sym, ap, ◌∙◌, subst}
use mathlib.Core.Bool.{Bool, true, false, cond, ◌&&◌}
use Rattle.std.specs.Prelude.{Option, None, Some}
use mathlib.Core.List.{List, ◌++◌}
use Prim.Native.Nat.{ℕ, ◌+◌, ◌-◌, ◌≤◌}
use native.Mathlib.Omega.{arith}
use lib.Dec.{leb}
use lib.Ieee.{Float, nan}
use lib.ListN.{length, take, drop, get_or, replicate, length-append, length-drop, length-replicate}
use lib.Seq.{length-take-le, get_or-append-add, get_or-drop}
use borrow.Author.Tests.{leb-true, leb-false}
use borrow.Rule.Slice.PartMut.{mid_of, put_mid}
use Rattle.laws.specs.Floats.{zero64}
use Rattle.laws.specs.Loops.{cleared}
use Rattle.laws.specs.Bools.{by}
use Rattle.finality.specs.Brackets.{covers}
use Rattle.finality.specs.Sheet.{where_found}
use Rattle.legendre.specs.Prepared.{prepared}
use Rattle.forces.specs.Forces.{gravity_with}
use Rattle.model.specs.Calls.{at_left}
use Rattle.epoch_record.specs.declared.Epoch.{Epoch}
use Rattle.inputs.specs.Inputs.{Model, front_size}
use Rattle.integrate.specs.Room.{Only}
use Rattle.integrate.specs.Work.{front_at}
use Rattle.integrate.specs.declared.kernel.State.{State}
use Rattle.epoch.specs.declared.Sighting.{Sighting}
use Rattle.epoch.specs.Epoch.{epoch_with}
use Rattle.epoch.specs.Kept.{record_at, seen_by, is_good, observation}
use Rattle.epoch.specs.Work.{sighting_of, Usable, Recorded, Tried, Opened}
use Rattle.integrate.proofs.Places.{only_same}
use Rattle.integrate.proofs.Front.{at_length, at_again, prepared_length, front_length, front_gravity, put_front}

-- ---- the front of a slice written anew

front_part : (n : ℕ) (w : List Float) → mid_of 0 (n - 0) w ≡ take n w
front_part n w = let e : n - 0 ≡ n = omega arith in ap (λ (k : ℕ). take k w) e

module _ (n : ℕ) (w y : List Float) (h : n ≤ length w) (l : length y ≡ n) where
  put_is : put_mid 0 (n - 0) w y ≡ y ++ drop n w
  put_is = let e : n - 0 ≡ n = omega arith in ap (λ (k : ℕ). y ++ drop k w) e

  put_same : (k : ℕ) → n ≤ k → get_or (put_mid 0 (n - 0) w y) k nan ≡ get_or w k nan
  put_same k g =
      let a : k ≡ length y + (k - n) = omega arith in
      let b : n + (k - n) ≡ k = omega arith in
      ap (λ (x : List Float). get_or x k nan) put_is
      ∙ ap (λ (i : ℕ). get_or (y ++ drop n w) i nan) a
      ∙ get_or-append-add y (drop n w) (k - n) nan
      ∙ get_or-drop n w (k - n) nan
      ∙ ap (λ (i : ℕ). get_or w i nan) b

  put_only : Only 0 n w (put_mid 0 (n - 0) w y)
  put_only = record {
    long = ap length put_is ∙ length-append y (drop n w) ∙ omega (arith, length-drop n w);
    same = λ k f. by (leb n k) (λ t. put_same k (leb-true n k t)) (λ t. absurd (f (omega arith) (omega (arith, leb-false n k t))));
  }

module _ (M : Model) (base : ℕ) (w y : List Float) (h : base ≤ length w) where
  abbrev whole : List Float
  whole = put_mid 0 (base - 0) w y

  pub recorded : (t observed gm radius : Float) (c d : State) (axc axd : Float) (r : Epoch) →
      y ≡ at_left M t (mid_of 0 (base - 0) w) → gm ≡ get_or M.fixed.static 0 nan → radius ≡ get_or M.fixed.static 1 nan →
      r ≡ epoch_with (gravity_with M.fixed.degree gm radius M.fixed.a M.fixed.b (mid_of 0 (base - 0) whole)) t observed c.position c.velocity d.position d.velocity axc axd →
      Recorded M base w whole (record_at M t observed c d axc axd) r
  unfolding record_at
  recorded t observed gm radius c d axc axd r ey em er ev =
      let old : y ≡ at_left M t (take base w) = ey ∙ ap (at_left M t) (front_part base w) in
      let long : length y ≡ base = ap length old ∙ at_length M t (take base w) ∙ length-take-le base w h in
      let mid : (u : Usable M (take base w)) → mid_of 0 (base - 0) whole ≡ front_at M t = λ u. front_part base whole ∙ put_front base w y h long ∙ old ∙ u.any t in
      record {
        is = λ u. ev ∙ (λ i. epoch_with (gravity_with M.fixed.degree (em i) (er i) M.fixed.a M.fixed.b (mid u i)) t observed c.position c.velocity d.position d.velocity axc axd)
            ∙ (λ i. epoch_with (λ x. front_gravity M t x i) t observed c.position c.velocity d.position d.velocity axc axd);
        usable = λ u. subst (λ (l : List Float). Usable M l) (sym (put_front base w y h long))
            (record { long = ap length (old ∙ u.any t) ∙ front_length M t; any = λ t'. ap (at_left M t') old ∙ at_again M t' t (take base w) ∙ u.any t' });
        only = put_only base w y h long;
      }

pub opened : (N base : ℕ) (w y : List Float) → base ≤ length w → y ≡ prepared N (cleared (mid_of 0 (base - 0) w)) →
    Opened N base w (put_mid 0 (base - 0) w y)
unfolding front_at
opened N base w y h ey =
    let part : length (mid_of 0 (base - 0) w) ≡ base = ap length (front_part base w) ∙ length-take-le base w h in
    let is : y ≡ prepared N (replicate base zero64) = ey ∙ ap (λ (k : ℕ). prepared N (replicate k zero64)) part in
    let long : length y ≡ base = ap length is ∙ prepared_length N (replicate base zero64) ∙ length-replicate base zero64 in
    record {
      usable = λ e l M m. subst (λ (l : List Float). Usable M l) (sym (put_front base w y h long))
          (record {
            long = long ∙ e ∙ ap (λ (n : ℕ). front_size n) (sym m);
            any = λ t. ap (at_left M t) (is ∙ ap (λ (k : ℕ). prepared N (replicate k zero64)) e ∙ ap (λ (n : ℕ). prepared n (replicate (front_size n) zero64)) (sym m));
          });
      only = put_only base w y h long;
    }

-- where there is no room nothing is opened
pub not_opened : (N base : ℕ) (w : List Float) → (base ≤ length w → ⊥) → Opened N base w w
not_opened N base w h = record { usable = λ e l. absurd (h l); only = only_same 0 base w }

-- ---- kept or not

-- what four look-ups found is found whatever is made of it
found_is : (f : State → State → Float → Float → Epoch) (x y : Option State) (p q : Option Float) (s : Sighting) → Some s ≡ sighting_of x y p q →
    Some (f s.c s.d s.axc s.axd) ≡ where_found f x y p q
found_is f (Some x) (Some y) (Some p) (Some q) s e =
    let same : s ≡ record { c = x; d = y; axc = p; axd = q } = cc in ap (λ (s : Sighting). Some (f s.c s.d s.axc s.axd)) same
found_is f (Some x) (Some y) (Some p) None s e = absurd (cc)
found_is f (Some x) (Some y) None q s e = absurd (cc)
found_is f (Some x) None p q s e = absurd (cc)
found_is f None y p q s e = absurd (cc)

missing_is : (f : State → State → Float → Float → Epoch) (x y : Option State) (p q : Option Float) → None ≡ sighting_of x y p q → None ≡ where_found f x y p q
missing_is f (Some x) (Some y) (Some p) (Some q) e = absurd (cc)
missing_is f (Some x) (Some y) (Some p) None e = refl
missing_is f (Some x) (Some y) None q e = refl
missing_is f (Some x) None p q e = refl
missing_is f None y p q e = refl

module _ (M : Model) (t v : Float) (good base : ℕ) (w : List Float) where
  abbrev wanted : Bool
  wanted = is_good good && covers M.fields.field_times t

  pub tried_kept : (w' : List Float) (found : Option Sighting) (s : Sighting) (e : Epoch) → found ≡ Some s → wanted ≡ true
      → Recorded M base w w' (record_at M t v s.c s.d s.axc s.axd) e → Tried M (observation t v good) base found w w' (Some e)
  unfolding seen_by
  tried_kept w' found s e z h m = record {
    is = λ l u x y p q f. ap (λ (e : Epoch). Some e) (m.is u) ∙ found_is (record_at M t v) x y p q s (sym z ∙ f) ∙ rw h;
    usable = λ l u. m.usable u;
    only = m.only;
  }

  pub tried_not : (found : Option Sighting) → (base ≤ length w → wanted ≡ false) → Tried M (observation t v good) base found w w None
  unfolding seen_by
  tried_not found h = record { is = λ l u x y p q f. rw (h l); usable = λ l u. u; only = only_same 0 base w }

  pub tried_missing : (found : Option Sighting) (r : Option Epoch) → found ≡ None → r ≡ None → Tried M (observation t v good) base found w w r
  unfolding seen_by
  tried_missing found r z n = record {
    is = λ l u x y p q f. n ∙ sym (always wanted _ (missing_is (record_at M t v) x y p q (sym z ∙ f)));
    usable = λ l u. u;
    only = only_same 0 base w;
  }
    where
      always : (b : Bool) (o : Option Epoch) → None ≡ o → cond b o None ≡ None
      always true o e = sym e
      always false o e = refl
