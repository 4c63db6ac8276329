-- What the calls of this crate answer and leave behind. Assumes nothing.
use Rattle.std.specs.Prelude.{◌≡◌, ℕ, ◌+◌, ◌*◌, ◌/◌, ◌≤◌, Bool, cond, ◌&&◌, List, [], ◌∷◌, ◌++◌, T, leb, eqb, length, drop, Float, Result, Ok, Err}
use Rattle.std.specs.Float.Ieee.{le}
use Rattle.std.specs.Float.Ieee.Scale.{finite}
use Rattle.laws.specs.Floats.{zero64, one64}
use Rattle.std.specs.List.{list_all}
use Rattle.laws.specs.Checks.{is_time, rising, degree_fine}
use Rattle.laws.specs.Tables.{tri}
use Rattle.finality.specs.Brackets.{covers}
use Rattle.slices.specs.Calls.{Verdict, accepted, tested, first_failed, Left, settled}
use Rattle.slices.specs.declared.refusal.Refusal.{Refusal}
use Rattle.slices.specs.declared.refusal.Refusal.TheVariants.{Count, Value, Order, Uncovered}
use Rattle.inputs.specs.Inputs.{Model, first_of, fields_fine, lengths_fit, field_size}
use Rattle.model.specs.Field.{cosines, sines}
use Rattle.model.specs.Model.{bracket, weight, kind_at, field_at}

-- ---- the kernel `weight`: at every covered t the weight of its bracket lies between 0 and 1, both included

pub record Weighed (times : List Float) (t : Float) (j : ℕ) (r : Float) : Type 0 where
  pub is : r ≡ weight times t j
  pub within : T (rising times) → T (list_all is_time times) → T (covers times t) → j ≡ bracket times t → T (le zero64 r) × T (le r one64)

-- ---- the kernel `at`

-- the lengths are those of degree N, there are two times or more and a field for each, and `out` has room
unfoldable pub at_fits : ℕ → ℕ → ℕ → ℕ → ℕ → Bool
at_fits N field times added out =
    leb N 180 && eqb field (field_size N) && leb 2 times && leb times (added / field_size N) && leb (2 * tri (N + 1)) out

-- the same of a model
abbrev pub sized : Model → ℕ → Bool
sized M out = at_fits M.fixed.degree (length M.fixed.static) (length M.fields.field_times) (length M.fields.added) out

pub record FieldRoom (M : Model) (out : ℕ) : Type 0 where
  pub degree : M.fixed.degree ≤ 180
  pub static : length M.fixed.static ≡ field_size M.fixed.degree
  pub count : 2 ≤ length M.fields.field_times
  pub fields : length M.fields.field_times * field_size M.fixed.degree ≤ length M.fields.added
  pub room : 2 * tri (M.fixed.degree + 1) ≤ out

-- what is left in `out`: the field at t, and what stood behind it; all as it was where the lengths do not fit
unfoldable pub at_left : Model → Float → List Float → List Float
at_left M t out = cond (sized M (length out)) (field_at M t ++ drop (2 * tri (M.fixed.degree + 1)) out) out

-- ---- refusals 1 to 5

unfoldable pub times_fine : List Float → Float → Bool
times_fine times t = list_all is_time times && is_time t

unfoldable pub cover_refusal : List Float → Float → Verdict
cover_refusal times t = first_failed ((fields_fine (length times), Count) ∷ (times_fine times t, Value) ∷ (rising times, Order) ∷ [])

unfoldable pub values_fine : List Float → List Float → Bool
values_fine field added = list_all finite field && list_all finite added

-- the outputs c and s are as long as the tables of a call that reads them; a model's own tables are not read
unfoldable pub at_refusal : Model → Float → ℕ → ℕ → ℕ → Verdict
at_refusal M t c s scratch =
    first_of (degree_fine M.fixed.degree) (fields_fine (length M.fields.field_times))
    (lengths_fit M.fixed.degree (length M.fields.field_times) (length M.fixed.static) (length M.fields.added) c s scratch)
    (values_fine M.fixed.static M.fields.added && times_fine M.fields.field_times t) (rising M.fields.field_times) accepted

-- what follows for the model's lists where nothing is refused
pub record KindRoom (M : Model) : Type 0 where
  pub degree : M.fixed.degree ≤ 180
  pub static : length M.fixed.static ≡ field_size M.fixed.degree
  pub count : 2 ≤ length M.fields.field_times
  pub fields : length M.fields.added ≡ length M.fields.field_times * field_size M.fixed.degree

-- ---- the calls

abbrev pub uncovered : List Float → Float → Verdict
uncovered times t = tested (covers times t) Uncovered

-- what `at` does once nothing is refused by 1 to 5, scratch apart
abbrev pub at_work : Model → Float → List Float → List Float → Left Verdict
at_work M t c s =
    settled accepted (uncovered M.fields.field_times t) (kind_at cosines M t ∷ kind_at (sines M.fixed.degree) M t ∷ []) (c ∷ s ∷ []) []

-- `at`, with the two outputs c and s
abbrev pub at_call : Model → Float → List Float → List Float → List Float → Left Verdict
at_call M t c s scratch =
    settled (at_refusal M t (length c) (length s) (length scratch)) (uncovered M.fields.field_times t)
    (kind_at cosines M t ∷ kind_at (sines M.fixed.degree) M t ∷ []) (c ∷ s ∷ []) scratch

-- `covers`
abbrev pub cover_answer : Verdict → Bool → Result Bool Refusal
cover_answer (Ok _) covered = Ok covered
cover_answer (Err e) covered = Err e

abbrev pub cover_call : List Float → Float → Result Bool Refusal
cover_call times t = cover_answer (cover_refusal times t) (covers times t)
