-- What each export returns and leaves behind: its call's answer in numbers. A list for the values that has not its places is a length that does not
-- fit, refused in its order: by 1 and 2 of the call first, else by 3, as an output of the call's own is. Assumes nothing.
use Rattle.std.specs.Prelude.{ℕ, ◌*◌, Bool, true, false, cond, ◌&&◌, List, [], ◌∷◌, leb, eqb, Float, length, Result, Ok, Err}
use Rattle.std.specs.Float.Ieee.Scale.{finite}
use Rattle.laws.specs.Floats.{zero64}
use Rattle.slices.specs.Answers.{number_of, answer_number}
use Rattle.slices.specs.declared.refusal.Refusal.{Refusal}
use Rattle.slices.specs.declared.refusal.Refusal.TheVariants.{Count, Length}
use Rattle.slices.specs.Calls.{Left, left, Verdict, first_failed}
use Rattle.legendre.specs.Field.{size, partials_with}
use Rattle.legendre.specs.Prepared.{prepared}
use Rattle.legendre.specs.declared.Partials.{Partials}
use Rattle.fields.specs.Calls.{partials_call, judged_partials, two_tables, refusal_of as field_refusal}
use Rattle.inputs.specs.Inputs.{Model, Keyed, Inputs, Observed, Fixed, Lists}
use Rattle.integrate.specs.declared.kernel.Arc.{Arc}
use Rattle.fit.specs.Calls.{fit_call, refusal as fit_refusal}
use Rattle.detrend.specs.Calls.{revolutions_call}
use Rattle.residuals.specs.Calls.{EpochColumns, residuals_call, residuals_refusal}
use Rattle.sheet.specs.Calls.{sheet_call, refusal_of as sheet_refusal}
use Rattle.horizon.specs.Calls.{Given, horizon_call, final_count_call, refusal_of as horizon_refusal}
use Rattle.exports.specs.Answers.{one, two, four, time, told_in}

-- ---- calls that only fill their outputs

abbrev pub outcome_left : Left Verdict → Left ℕ
outcome_left l = left (answer_number l.answer) l.outputs l.scratch

-- ---- calls with values: what was returned, and what stands in the list of the values, in the other outputs, in the scratch

pub record Told (Value Outputs : Type 0) : Type 0 where
  pub number : ℕ
  pub values : List Value
  pub outputs : Outputs
  pub scratch : List Float

abbrev pub told : {Value Outputs : Type 0} → ℕ → List Value → Outputs → List Float → Told Value Outputs
told n values outputs scratch = record { number = n; values = values; outputs = outputs; scratch = scratch }

-- ---- fields

-- `prepare`: a work slice, as long as the degree asks for, with what the degree alone gives; else it stays as it was
abbrev pub prepare_unless : Verdict → ℕ → List Float → Left ℕ
prepare_unless (Err e) N work = left (number_of e) (work ∷ []) []
prepare_unless (Ok _) N work = left 0 (prepared N work ∷ []) []

unfoldable pub prepare_told : ℕ → List Float → Left ℕ
prepare_told N work = prepare_unless (field_refusal N (leb (8 * size N) (length work)) true) N work

-- `partials`
unfoldable pub partials_told : ℕ → List Float → List Float → List Float → Float → Float → Float → List Float → List Float →
    Told Float (List (List Float))
partials_told N field a b r lat lon out scratch =
    let l = partials_call N field a b r lat lon scratch in
    cond (eqb (length out) 4) (told (answer_number l.answer) (told_in zero64 four l.answer out) [] l.scratch)
    (told (answer_number (field_refusal N false true)) out [] scratch)

-- the numbers that `partials_prepared` is given; those of the tables and of the work slice are not looked at
abbrev pub place_fine : Float → Float → Float → Float → Float → Bool
place_fine gm radius r lat lon = (finite gm && finite radius) && (finite r && (finite lat && finite lon))

abbrev pub judged_unless : Verdict → Partials → Result Partials Refusal
judged_unless (Err e) z = Err e
judged_unless (Ok _) z = judged_partials z

-- `partials_prepared`: the kernel's value, where the lengths fit and all four numbers are finite
unfoldable pub prepared_answer : ℕ → Float → Float → List Float → List Float → List Float → Float → Float → Float → ℕ → Result Partials Refusal
prepared_answer N gm radius a b work r lat lon out =
    judged_unless (field_refusal N (two_tables (size N) (length a) (length b) (length work) && eqb out 4) (place_fine gm radius r lat lon))
    (partials_with N gm radius a b work r lat lon)

abbrev pub prepared_told : Result Partials Refusal → List Float → Left ℕ
prepared_told answer out = left (answer_number answer) (told_in zero64 four answer out ∷ []) []

-- ---- `fit_orbit`; an out without a place fits no arc

unfoldable pub fit_told : Model → Keyed → Arc → List Float → List Float → List Float → Told Float (List (List Float))
fit_told M states arc out rms scratch =
    let l = fit_call M states arc out scratch in
    cond (eqb (length rms) 1) (told (answer_number l.answer) (told_in zero64 one l.answer rms) l.outputs l.scratch)
    (told (answer_number (fit_refusal M states arc 0 (length scratch))) rms (out ∷ []) scratch)

-- ---- `revolutions`

-- its outputs: firsts, ends, starts, periods
abbrev pub Ranges : Type 0
Ranges = List ℕ × (List ℕ × (List Float × List Float))

unfoldable pub revolutions_told : List Float → List Float → List ℕ → List ℕ → List Float → List Float → List ℕ → Told ℕ Ranges
revolutions_told ts ns fs es ss ps counts =
    let l = revolutions_call ts ns fs es ss ps in
    cond (eqb (length counts) 1)
    (told (answer_number l.answer) (told_in 0 one l.answer counts) (l.firsts, (l.ends, (l.starts, l.periods))) [])
    (told (answer_number (first_failed ((leb (length ts) 100000, Count) ∷ (leb (length ns) 64, Count) ∷ (false, Length) ∷ []))) counts (fs, (es, (ss, ps))) [])

-- ---- `residuals`

unfoldable pub residuals_told : Inputs → Observed → EpochColumns → List ℕ → List Float → Told ℕ EpochColumns
residuals_told inp obs outs counts scratch =
    let l = residuals_call inp obs outs scratch in
    cond (eqb (length counts) 1) (told (answer_number l.answer) (told_in 0 one l.answer counts) l.outputs l.scratch)
    (told (answer_number (residuals_refusal inp obs false (length scratch))) counts outs scratch)

-- ---- `sheet`

unfoldable pub sheet_told : Fixed → Lists → List (List Float) → List ℕ → List Float → Told ℕ (List (List Float))
sheet_told F l outputs counts scratch =
    let s = sheet_call F l outputs scratch in
    cond (eqb (length counts) 2) (told (answer_number s.answer) (told_in 0 two s.answer counts) s.outputs s.scratch)
    (told (answer_number (sheet_refusal F l false (length scratch))) counts outputs scratch)

-- ---- `horizon` and `final_count`, which have no other output and no scratch

abbrev pub told_alone : {Value : Type 0} → ℕ → List Value → Told Value (List (List Float))
told_alone n values = told n values [] []

unfoldable pub horizon_told : Given → List Float → Told Float (List (List Float))
horizon_told g out =
    cond (eqb (length out) 1) (told_alone (answer_number (horizon_call g)) (told_in zero64 time (horizon_call g) out))
    (told_alone (answer_number (horizon_refusal false g [])) out)

unfoldable pub final_count_told : Given → List Float → List ℕ → Told ℕ (List (List Float))
final_count_told g kept counts =
    cond (eqb (length counts) 1) (told_alone (answer_number (final_count_call g kept)) (told_in 0 one (final_count_call g kept) counts))
    (told_alone (answer_number (horizon_refusal false g kept)) counts)
