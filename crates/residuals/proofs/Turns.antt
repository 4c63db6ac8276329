-- One turn of the loop over the observations. Assumes nothing.
use mathlib.Core.Path.{◌≡◌, refl, sym, ap, ◌∙◌, subst}
use mathlib.Core.Bool.{Bool, true, false, cond, ◌&&◌, and-true}
use Rattle.std.specs.Prelude.{Option, None, Some}
use mathlib.Core.List.{List, [], ◌∷◌, ◌++◌, append-nil}
use Prim.Native.Nat.{ℕ, ◌+◌, ◌≤◌, ◌<◌}
use native.Mathlib.Omega.{arith}
use lib.Ieee.{Float, nan}
use lib.ListN.{length, take, drop, get_or, replicate, length-append}
use Rattle.inputs.specs.Inputs.{Observed, Inputs}
use Rattle.laws.specs.Floats.{zero64}
use Rattle.std.specs.List.{list_all}
use Rattle.std.proofs.lemmas.List.{take-append-drop}
use Rattle.std.proofs.lemmas.List.Folds.{list_all-append}
use Rattle.std.proofs.lemmas.Option.{none-some, cond_some}
use Rattle.std.proofs.Common.{true≢false}
use Rattle.laws.specs.Loops.{filled_none}
use Rattle.finality.specs.Sheet.{Observation, keep, kept_of}
use Rattle.finality.proofs.Keeping.{kept_append}
use Rattle.epoch_record.specs.declared.Epoch.{Epoch}
use Rattle.epoch.specs.Kept.{observation, observations_in}
use Rattle.epoch.proofs.Kept.{observation_at, kept_more as more_kept, kept_few as few_kept, kept_all as all_kept, set_more, filled_records}
use Rattle.residuals.specs.Inputs.{epoch_of}
use Rattle.residuals.specs.Work.{Tried}
use Rattle.residuals.specs.Calls.{EpochColumns, epoch_columns, filled_columns, epoch_finite, kept_in}
use Rattle.residuals.specs.Filling.{kept_to, stored, blank, Long, Added, counted, SoFar, Begun, Done}

module _ (inp : Inputs) (obs : Observed) where
  kept_more : (i : ℕ) → i < length obs.obs_times → kept_to inp obs (i + 1) ≡ kept_to inp obs i ++ keep (epoch_of inp (observation_at obs i)) []
  unfolding kept_to
  kept_more = more_kept (epoch_of inp) obs

  kept_few : (i : ℕ) → i ≤ length obs.obs_times → length (kept_to inp obs i) ≤ i
  unfolding kept_to
  kept_few = few_kept (epoch_of inp) obs

  pub kept_all : kept_to inp obs (length obs.obs_times) ≡ kept_in inp obs
  unfolding kept_to kept_in
  kept_all = all_kept (epoch_of inp) obs

-- ---- lists filled up

stored_more : (m : ℕ) (es : List Epoch) (e : Epoch) → length es < m → stored (length es) e (filled_columns m es) ≡ filled_columns m (es ++ (e ∷ []))
unfolding filled_columns
stored_more m es e h = λ i. epoch_columns
    (set_more zero64 (λ (e : Epoch). e.t) m es e h i)
    (set_more zero64 (λ (e : Epoch). e.residual) m es e h i)
    (set_more (replicate 5 zero64) (λ (e : Epoch). e.terms) m es e h i)
    (set_more (replicate 3 zero64) (λ (e : Epoch). e.mid) m es e h i)
    (set_more (replicate 3 zero64) (λ (e : Epoch). e.vel) m es e h i)

filled_long : (m : ℕ) (es : List Epoch) → length es ≤ m → Long m (filled_columns m es)
unfolding filled_columns
filled_long m es h = record {
  times = filled_records zero64 (λ (e : Epoch). e.t) m es h;
  residuals = filled_records zero64 (λ (e : Epoch). e.residual) m es h;
  terms = filled_records (replicate 5 zero64) (λ (e : Epoch). e.terms) m es h;
  mids = filled_records (replicate 3 zero64) (λ (e : Epoch). e.mid) m es h;
  vels = filled_records (replicate 3 zero64) (λ (e : Epoch). e.vel) m es h;
}

-- ---- how many

pub counted_some : (k : ℕ) (es : List Epoch) → Some k ≡ counted es → (k ≡ length es) × (list_all epoch_finite es ≡ true)
counted_some k es e =
    let is = cond_some (list_all epoch_finite es) (length es) k (sym e) in
    (sym is.1, is.0)

pub counted_none : (es : List Epoch) → None ≡ counted es → list_all epoch_finite es ≡ false
counted_none es = of (list_all epoch_finite es)
  where
    of : (b : Bool) → None ≡ cond b (Some (length es)) None → b ≡ false
    of true e = absurd (none-some (length es) e)
    of false e = refl

-- what is not finite among the first i observations' records is among all
broken_in : (inp : Inputs) (obs : Observed) (i : ℕ) → list_all epoch_finite (kept_to inp obs i) ≡ false → list_all epoch_finite (kept_in inp obs) ≡ false
unfolding kept_to kept_in
broken_in inp obs i h =
    let os = observations_in obs in
    ap (λ (l : List Observation). list_all epoch_finite (kept_of (epoch_of inp) l)) (sym (take-append-drop i os))
    ∙ ap (list_all epoch_finite) (kept_append (epoch_of inp) (take i os) (drop i os))
    ∙ list_all-append epoch_finite (kept_of (epoch_of inp) (take i os)) (kept_of (epoch_of inp) (drop i os))
    ∙ ap (λ (b : Bool). b && list_all epoch_finite (kept_of (epoch_of inp) (drop i os))) h

-- ---- a turn

record After (m : ℕ) (es : List Epoch) (r : Option ℕ) (l : EpochColumns) : Type 0 where
  pub count : r ≡ counted es
  pub outputs : list_all epoch_finite es ≡ true → l ≡ filled_columns m es

module _ (m : ℕ) (es es' : List Epoch) (k : ℕ) (r : Option ℕ) (l l' : EpochColumns) (made : Option Epoch) (h : length es < m)
    (ec : Some k ≡ counted es) (el : list_all epoch_finite es ≡ true → l ≡ filled_columns m es) (ad : Added made k r l l') where
  before : (k ≡ length es) × (list_all epoch_finite es ≡ true)
  before = counted_some k es ec

  advance : (o : Option Epoch) → es' ≡ es ++ keep o [] → made ≡ o → After m es' r l'
  advance None e i =
      let same : es' ≡ es = e ∙ append-nil es in
      let is = ad.still i in
      record {
        count = is.0 ∙ ec ∙ ap counted (sym same);
        outputs = λ _. is.1 ∙ el before.1 ∙ ap (filled_columns m) (sym same);
      }
  advance (Some x) e i =
      let is = ad.put x i in
      let fine : list_all epoch_finite es' ≡ epoch_finite x =
      ap (list_all epoch_finite) e ∙ list_all-append epoch_finite es (x ∷ []) ∙ ap (λ (b : Bool). b && list_all epoch_finite (x ∷ [])) before.1
      ∙ and-true (epoch_finite x) in
      let long : k + 1 ≡ length es' = omega (arith, before.0, ap length e, length-append es (x ∷ [])) in
      record {
        count = is.0 ∙ (λ j. cond (sym fine j) (Some (long j)) None);
        outputs = λ f. is.1 (sym fine ∙ f) ∙ (λ j. stored (before.0 j) x (el before.1 j)) ∙ stored_more m es x h ∙ ap (filled_columns m) (sym e);
      }

module _ (inp : Inputs) (obs : Observed) (base i k : ℕ) (l : EpochColumns) (w : List Float)
    (hi : i < length obs.obs_times) (s : SoFar inp obs base i (Some k) l w) where
  pub turned : (r : Option ℕ) (l' : EpochColumns) (w' : List Float) (made : Option Epoch) → Tried inp (observation_at obs i) base w w' made → Added made k r l l' → SoFar inp obs base (i + 1) r l' w'
  turned r l' w' made t ad =
      let few : length (kept_to inp obs i) ≤ i = kept_few inp obs i (omega arith) in
      let a : After (length obs.obs_times) (kept_to inp obs (i + 1)) r l' =
      advance (length obs.obs_times) (kept_to inp obs i) (kept_to inp obs (i + 1)) k r l l' made (omega arith) s.count s.outputs ad
      (epoch_of inp (observation_at obs i)) (kept_more inp obs i hi) t.is in
      record { count = a.count; outputs = a.outputs; room = omega (arith, t.long, s.room); usable = t.usable }

  pub turned_at : (t v : Float) (byte : ℕ) → t ≡ get_or obs.obs_times i nan → v ≡ get_or obs.values i nan → byte ≡ get_or obs.good i 0 →
      (r : Option ℕ) (l' : EpochColumns) (w' : List Float) (made : Option Epoch) → Tried inp (observation t v byte) base w w' made → Added made k r l l' → SoFar inp obs base (i + 1) r l' w'
  turned_at t v byte et ev eb r l' w' made tried =
      turned r l' w' made (subst (λ (o : Observation). Tried inp o base w w' made) (λ j. observation (et j) (ev j) (eb j)) tried)

  -- there is a place for one more
  pub room_left : (k < length l.times) × (k < length l.residuals) × (k < length l.terms) × (k < length l.mids) × (k < length l.vels)
  room_left =
      let few : length (kept_to inp obs i) ≤ i = kept_few inp obs i (omega arith) in
      let g : Long (length obs.obs_times) (filled_columns (length obs.obs_times) (kept_to inp obs i)) = filled_long (length obs.obs_times) (kept_to inp obs i) (omega arith) in
      let before = counted_some k (kept_to inp obs i) s.count in
      let ec : k ≡ length (kept_to inp obs i) = before.0 in
      let el : l ≡ filled_columns (length obs.obs_times) (kept_to inp obs i) = s.outputs before.1 in
      let n : ℕ = length obs.obs_times in (
        omega (arith, g.times, ap (λ (x : EpochColumns). length x.times) el),
        omega (arith, g.residuals, ap (λ (x : EpochColumns). length x.residuals) el),
        omega (arith, g.terms, ap (λ (x : EpochColumns). length x.terms) el),
        omega (arith, g.mids, ap (λ (x : EpochColumns). length x.mids) el),
        omega (arith, g.vels, ap (λ (x : EpochColumns). length x.vels) el),
      )

-- ---- the beginning and the end

pub begins : (inp : Inputs) (obs : Observed) (base : ℕ) (l : EpochColumns) (w : List Float) → Begun inp obs base l w → SoFar inp obs base 0 (Some 0) l w
unfolding kept_to kept_of
begins inp obs base l w b = record { count = refl; outputs = λ _. b.outputs; room = b.room; usable = b.usable }

module _ (inp : Inputs) (obs : Observed) (base i : ℕ) (l : EpochColumns) (w : List Float) where
  pub ends : (k : ℕ) → i ≤ length obs.obs_times → length obs.obs_times ≤ i → SoFar inp obs base i (Some k) l w → Done inp obs (Some k) l
  ends k h m s =
      let n : i ≡ length obs.obs_times = omega arith in
      let e : kept_to inp obs i ≡ kept_in inp obs = ap (kept_to inp obs) n ∙ kept_all inp obs in
      record {
        count = s.count ∙ ap counted e;
        outputs = λ f. s.outputs (ap (list_all epoch_finite) e ∙ f) ∙ ap (filled_columns (length obs.obs_times)) e;
      }

  -- a turn that counts is what the next begins with
  pub goes_on : (r : Option ℕ) (k : ℕ) → r ≡ Some k → SoFar inp obs base i r l w → SoFar inp obs base i (Some k) l w
  goes_on r k e s = subst (λ (r : Option ℕ). SoFar inp obs base i r l w) e s

  -- a record that is not finite stays one of all
  pub breaks : (r r' : Option ℕ) → r ≡ None → r' ≡ None → SoFar inp obs base i r l w → Done inp obs r' l
  breaks r r' e e' s =
      let broken : list_all epoch_finite (kept_in inp obs) ≡ false = broken_in inp obs i (counted_none (kept_to inp obs i) (sym e ∙ s.count)) in
      record {
        count = e' ∙ ap (λ (b : Bool). cond b (Some (length (kept_in inp obs))) None) (sym broken);
        outputs = λ f. absurd (true≢false (sym f ∙ broken));
      }

-- where no count was answered, none was
pub none_done : (inp : Inputs) (obs : Observed) (l : EpochColumns) (r : Option ℕ) → ((k : ℕ) → r ≡ Some k → ⊥) → Done inp obs r l → Done inp obs None l
none_done inp obs l None h d = d
none_done inp obs l (Some k) h d = absurd (h k refl)

pub blank_is : (m : ℕ) (l : EpochColumns) → Long m l → blank l ≡ filled_columns m []
unfolding filled_columns
blank_is m l h = λ i. epoch_columns
    (filled_none zero64 _ m h.times i)
    (filled_none zero64 _ m h.residuals i)
    (filled_none (replicate 5 zero64) _ m h.terms i)
    (filled_none (replicate 3 zero64) _ m h.mids i)
    (filled_none (replicate 3 zero64) _ m h.vels i)
