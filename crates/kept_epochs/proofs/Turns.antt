-- One turn of the loop over the observations, its beginning and its end. Assumes nothing.
use mathlib.Core.Path.{◌≡◌, refl, sym, ap, ◌∙◌, subst}
use mathlib.Core.Bool.{true}
use Rattle.std.specs.Prelude.{Option, None, Some}
use mathlib.Core.List.{List, [], ◌∷◌, ◌++◌, map, append-nil}
use Prim.Native.Nat.{ℕ, ◌+◌, ◌≤◌, ◌<◌}
use native.Mathlib.Omega.{arith}
use lib.Ieee.{Float, nan}
use lib.ListN.{length, get_or, set, replicate, length-append, length-set}
use Rattle.laws.specs.Floats.{zero64}
use Rattle.laws.specs.Checks.{is_time}
use Rattle.laws.specs.Loops.{filled_none}
use Rattle.finality.specs.Tables.{Table}
use Rattle.finality.specs.Sheet.{Observation, published, keep}
use Rattle.epoch_record.specs.EpochRecord.{time, residual}
use Rattle.epoch_record.specs.declared.Epoch.{Epoch}
use Rattle.integrate.specs.declared.kernel.State.{State}
use Rattle.integrate.proofs.Places.{only_same}
use Rattle.epoch.specs.Kept.{epoch_by, observation}
use Rattle.epoch.specs.Work.{Tried}
use Rattle.epoch.specs.declared.Sighting.{Sighting}
use Rattle.epoch.proofs.Kept.{observation_at, kept_up_to, kept_more, kept_few, kept_all, kept_none, set_more}
use Rattle.kept_epochs.specs.KeptEpochs.{Given, epoch_in, Stand, Listed, Found, Added, Able, SoFar, Done}
use Rattle.kept_epochs.proofs.LookUps.{time_at, stand_stays, stand_found}
use Rattle.inputs.specs.Inputs.{fit_room}

-- ---- what was made is stored

pub added_kept : (made : Option Epoch) (e : Epoch) (count : ℕ) (ts rs : List Float) → made ≡ Some e → Added made count (count + 1) ts rs (set ts count e.t) (set rs count e.residual)
added_kept made e count ts rs k = record {
  put = λ f q. let same : e ≡ f = cc in (refl, ap (λ (e : Epoch). set ts count e.t) same, ap (λ (e : Epoch). set rs count e.residual) same);
  still = λ q. absurd (cc);
}

pub added_not : (made : Option Epoch) (count : ℕ) (ts rs : List Float) → made ≡ None → Added made count count ts rs ts rs
added_not made count ts rs k = record { put = λ e q. absurd (cc); still = λ q. (refl, refl, refl) }

module _ (made : Option Epoch) (count r : ℕ) (ts rs ts' rs' : List Float) (ad : Added made count r ts rs ts' rs') where
  record Sizes : Type 0 where
    pub times : length ts' ≡ length ts
    pub raws : length rs' ≡ length rs
    pub few : r ≤ count + 1

  added_sizes : Sizes
  added_sizes = cases made refl
    where
      cases : (o : Option Epoch) → made ≡ o → Sizes
      cases (Some e) q =
          let p = ad.put e q in
          record { times = ap length p.1 ∙ length-set ts count e.t; raws = ap length p.2 ∙ length-set rs count e.residual; few = omega (arith, p.0) }
      cases None q = let p = ad.still q in record { times = ap length p.1; raws = ap length p.2; few = omega (arith, p.0) }

  module _ (m : ℕ) (es es' : List Epoch) (h : length es < m) (l : Listed m es ts rs count) where
    advance : (o : Option Epoch) → es' ≡ es ++ keep o [] → made ≡ o → Listed m es' ts' rs' r
    advance None e k =
        let no = ad.still k in
        let same : es' ≡ es = e ∙ append-nil es in
        record {
          count = no.0 ∙ l.count ∙ ap length (sym same);
          times = no.1 ∙ l.times ∙ ap (λ (es : List Epoch). published m (map time es)) (sym same);
          raws = no.2 ∙ l.raws ∙ ap (λ (es : List Epoch). published m (map residual es)) (sym same);
        }
    advance (Some x) e k =
        let yes = ad.put x k in
        record {
          count = yes.0 ∙ omega (arith, l.count, ap length e, length-append es (x ∷ []));
          times = yes.1 ∙ (λ i. set (l.times i) (l.count i) x.t) ∙ set_more zero64 time m es x h ∙ ap (λ (es : List Epoch). published m (map time es)) (sym e);
          raws = yes.2 ∙ (λ i. set (l.raws i) (l.count i) x.residual) ∙ set_more zero64 residual m es x h ∙ ap (λ (es : List Epoch). published m (map residual es)) (sym e);
        }

-- ---- a turn

pub room_left : (g : Given) (base i count : ℕ) (ts rs s : List Float) → Able g base ts rs s → i < length g.observed.obs_times → count ≤ i → (count < length ts) × (count < length rs)
room_left g base i count ts rs s a h k = (omega (arith, a.outtimes), omega (arith, a.outraws))

module _ (g : Given) (base i count : ℕ) (ts rs s : List Float) (hi : i < length g.observed.obs_times) (t v : Float) (byte : ℕ)
    (et : t ≡ get_or g.observed.obs_times i nan) (ev : v ≡ get_or g.observed.values i nan) (eb : byte ≡ get_or g.observed.good i 0)
    (r : Option Sighting) (f : Found (base + fit_room) g.windows g.accs s t r) (made : Option Epoch) (s' : List Float)
    (tried : Tried g.model (observation t v byte) base r s s' made) (room : base ≤ length s) where
  abbrev observed : Observation
  observed = observation_at g.observed i

  -- what was made is the epoch that is kept, or none
  made_is : Able g base ts rs s → (c d : ℕ → Table State) → Stand g base s c d → made ≡ epoch_in g c d observed
  unfolding epoch_by
  made_is a c d st =
      let tm : is_time t ≡ true = ap is_time et ∙ time_at g.observed.obs_times i a.times hi in
      tried.is room a.usable _ _ _ _ (stand_found g base s t r c d f tm st)
      ∙ (λ j. epoch_in g c d (observation (et j) (ev j) (eb j)))

  pub turned : (n : ℕ) (ts' rs' : List Float) → Added made count n ts rs ts' rs' → (s₀ : List Float) → SoFar g base i s₀ ts rs s count → SoFar g base (i + 1) s₀ ts' rs' s' n
  turned n ts' rs' ad s₀ so =
      let a : Able g base ts rs s = so.able in
      let z = added_sizes made count n ts rs ts' rs' ad in
      record {
        able = record {
          acc_c = a.acc_c;
          acc_d = a.acc_d;
          times = a.times;
          values = a.values;
          good = a.good;
          outtimes = z.times ∙ a.outtimes;
          outraws = z.raws ∙ a.outraws;
          small = a.small;
          room = omega (arith, a.room, tried.only.long);
          usable = tried.usable room a.usable;
        };
        few = omega (arith, z.few, so.few);
        only = record { long = tried.only.long ∙ so.only.long; same = λ k h. tried.only.same k h ∙ so.only.same k h };
        is = λ c d st.
            let es : List Epoch = kept_up_to (epoch_in g c d) g.observed i in
            let few : length es ≤ i = kept_few (epoch_in g c d) g.observed i (omega arith) in
            advance made count n ts rs ts' rs' ad (length g.observed.obs_times) es _ (omega arith) (so.is c d st) (epoch_in g c d observed)
            (kept_more (epoch_in g c d) g.observed i hi)
            (made_is a c d (stand_stays g base s₀ s c d so.only st));
      }

-- ---- the beginning and the end

pub begins : (g : Given) (base : ℕ) (ts rs s : List Float) (n m : ℕ) → Able g base ts rs s → n ≡ length g.observed.obs_times → m ≡ length g.observed.obs_times → ts ≡ replicate n zero64
    → rs ≡ replicate m zero64 → SoFar g base 0 s ts rs s 0
begins g base ts rs s n m a en em et er = record {
  able = a;
  few = omega arith;
  only = only_same 0 base s;
  is = λ c d st. subst (λ (es : List Epoch). Listed (length g.observed.obs_times) es ts rs 0) (sym (kept_none (epoch_in g c d) g.observed))
      (record {
        count = refl;
        times = et ∙ filled_none zero64 n (length g.observed.obs_times) en;
        raws = er ∙ filled_none zero64 m (length g.observed.obs_times) em;
      });
}

pub ends : (g : Given) (base i : ℕ) (s₀ ts rs s : List Float) (count : ℕ) → i ≤ length g.observed.obs_times → length g.observed.obs_times ≤ i → SoFar g base i s₀ ts rs s count
    → Done g base s₀ s ts rs count
ends g base i s₀ ts rs s count h k so =
    let e : i ≡ length g.observed.obs_times = omega arith in
    record {
      long = so.only.long;
      is = λ c d st. subst (λ (es : List Epoch). Listed (length g.observed.obs_times) es ts rs count)
          (ap (kept_up_to (epoch_in g c d) g.observed) e
          ∙ kept_all (epoch_in g c d) g.observed) (so.is c d st);
    }
