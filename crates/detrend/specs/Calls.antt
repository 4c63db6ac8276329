-- The public calls on numbers (document 01, "Outcomes" and "Bounds"): which refusal, the work, what is left behind. Assumes nothing.
use Rattle.std.specs.Prelude.{ℕ, ◌*◌, ◌-◌, ◌≡◌, Bool, List, [], ◌∷◌, map, leb, eqb, Float, length, Result, Ok, Err}
use Rattle.std.specs.Float.Ieee.Scale.{finite}
use Rattle.std.specs.List.{list_all}
use Rattle.laws.specs.Checks.{is_time, rising}
use Rattle.laws.specs.Floats.{zero64}
use Rattle.laws.specs.Loops.{filled_up}
use Rattle.slices.specs.Calls.{Verdict, accepted, first_failed, Left, settled}
use Rattle.slices.specs.declared.refusal.Refusal.{Refusal}
use Rattle.slices.specs.declared.refusal.Refusal.TheVariants.{Count, Length, Value, Order}
use Rattle.detrend.specs.Revolutions.{Revolution, revolutions_of, detrended_of}
use Rattle.detrend.specs.Ranges.{ranges_fit}

-- ---- `detrend`; room is the length of the scratch

-- the tests of numbers
unfoldable pub detrend_numbers : List Float → List Float → List Float → List Float → List (Bool × Refusal)
detrend_numbers ts vs ss ps =
    (list_all is_time ts, Value) ∷ (list_all finite vs, Value) ∷ (list_all is_time ss, Value) ∷ (list_all finite ps, Value) ∷ (rising ts, Order) ∷ (rising ss, Order) ∷ []

unfoldable pub detrend_refusal : List Float → List Float → List ℕ → List ℕ → List Float → List Float → ℕ → Verdict
detrend_refusal ts vs fs es ss ps room =
    first_failed
    ((leb (length ts) 100000, Count)
    ∷ (leb (length ss) 63, Count)
    ∷ (ranges_fit fs es (length ts), Count)
    ∷ (eqb (length vs) (length ts), Length)
    ∷ (eqb (length es) (length fs), Length)
    ∷ (eqb (length ss) (length fs), Length)
    ∷ (eqb (length ps) (length fs), Length)
    ∷ (leb (8 * length ts) room, Length)
    ∷ detrend_numbers ts vs ss ps)

abbrev pub detrend_call : List Float → List Float → List ℕ → List ℕ → List Float → List Float → List Float → Left Verdict
detrend_call ts vs fs es ss ps s = settled (detrend_refusal ts vs fs es ss ps (length s)) accepted (detrended_of fs es ss ps ts vs ∷ []) (vs ∷ []) s

-- ---- `revolutions`; the numbers of places in its four outputs

unfoldable pub revolutions_refusal : List Float → List Float → ℕ → ℕ → ℕ → ℕ → Verdict
revolutions_refusal ts ns firsts ends starts periods =
    first_failed
    ((leb (length ts) 100000, Count)
    ∷ (leb (length ns) 64, Count)
    ∷ (eqb firsts (length ns - 1), Length)
    ∷ (eqb ends (length ns - 1), Length)
    ∷ (eqb starts (length ns - 1), Length)
    ∷ (eqb periods (length ns - 1), Length)
    ∷ (list_all is_time ts, Value)
    ∷ (list_all is_time ns, Value)
    ∷ (rising ts, Order)
    ∷ (rising ns, Order)
    ∷ [])

-- what the call returned, and what stands in its outputs
pub record LeftLists : Type 0 where
  pub answer : Result ℕ Refusal
  pub firsts : List ℕ
  pub ends : List ℕ
  pub starts : List Float
  pub periods : List Float

abbrev pub listed : Result ℕ Refusal → List ℕ → List ℕ → List Float → List Float → LeftLists
listed a fs es ss ps = record { answer = a; firsts = fs; ends = es; starts = ss; periods = ps }

-- the lists of revolutions in so many places each
abbrev pub firsts_in : ℕ → List Revolution → List ℕ
firsts_in places rs = filled_up 0 places (map (λ (r : Revolution). r.first) rs)

abbrev pub ends_in : ℕ → List Revolution → List ℕ
ends_in places rs = filled_up 0 places (map (λ (r : Revolution). r.end) rs)

abbrev pub starts_in : ℕ → List Revolution → List Float
starts_in places rs = filled_up zero64 places (map (λ (r : Revolution). r.start) rs)

abbrev pub periods_in : ℕ → List Revolution → List Float
periods_in places rs = filled_up zero64 places (map (λ (r : Revolution). r.period) rs)

-- the four outputs hold the revolutions, of which there are r
pub record Listed (ts ns : List Float) (r : ℕ) (fs es : List ℕ) (ss ps : List Float) : Type 0 where
  pub counted : r ≡ length (revolutions_of ts ns)
  pub firsts : fs ≡ firsts_in (length ns - 1) (revolutions_of ts ns)
  pub ends : es ≡ ends_in (length ns - 1) (revolutions_of ts ns)
  pub starts : ss ≡ starts_in (length ns - 1) (revolutions_of ts ns)
  pub periods : ps ≡ periods_in (length ns - 1) (revolutions_of ts ns)

-- the revolutions in their places, or the refusal and nothing changed
abbrev pub listed_unless : Verdict → ℕ → List Revolution → List ℕ → List ℕ → List Float → List Float → LeftLists
listed_unless (Ok _) places rs fs es ss ps = listed (Ok (length rs)) (firsts_in places rs) (ends_in places rs) (starts_in places rs) (periods_in places rs)
listed_unless (Err e) places rs fs es ss ps = listed (Err e) fs es ss ps

abbrev pub revolutions_call : List Float → List Float → List ℕ → List ℕ → List Float → List Float → LeftLists
revolutions_call ts ns fs es ss ps =
    listed_unless (revolutions_refusal ts ns (length fs) (length es) (length ss) (length ps)) (length ns - 1) (revolutions_of ts ns) fs es ss ps
