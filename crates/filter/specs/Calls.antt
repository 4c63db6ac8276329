-- The public calls (document 01, "Outcomes" and "Bounds"): which refusal, and what is left behind. A length of an output or of the scratch is named by
-- what it is for:
-- `places` for the numbers handed out, `room` for the scratch. Assumes nothing.
use Rattle.std.specs.Prelude.{Bool, cond, ◌&&◌, List, [], ◌∷◌, ℕ, ◌+◌, ◌*◌, ◌/◌, ◌%◌, leb, ltb, eqb, length, Float, Result, Ok, Err}
use Rattle.std.specs.Float.Ieee.Scale.{finite}
use Rattle.std.specs.List.{list_all}
use Rattle.laws.specs.Checks.{is_time, rising}
use Rattle.slices.specs.Calls.{Verdict, accepted, first_failed, Left, handed, settled}
use Rattle.slices.specs.declared.refusal.Refusal.{Refusal}
use Rattle.slices.specs.declared.refusal.Refusal.TheVariants.{Count, Length, Value, Order, NotFinite}
use Rattle.filter.specs.Sections.{butterworth, coefficients, sections_of}
use Rattle.filter.specs.Filter.{through, filtfilt, band_pass}

-- ---- `butterworth_band`

-- the numbers are handed out where all are finite
unfoldable pub judged_band : List Float → Result (List Float) Refusal
judged_band cs = cond (list_all finite cs) (Ok cs) (Err NotFinite)

unfoldable pub band_call : Float → Float → Float → Result (List Float) Refusal
band_call low high dt = cond (finite low && (finite high && finite dt)) (judged_band (coefficients (butterworth low high dt))) (Err Value)

-- ---- `run` and `filtfilt`

unfoldable pub filter_refusal : List Float → List Float → ℕ → ℕ → Verdict
filter_refusal cs x places room =
    first_failed
    ((leb (length cs) 40, Count)
    ∷ (leb 1 (length x), Count)
    ∷ (leb (length x) 100000, Count)
    ∷ (eqb (length cs % 5) 0, Length)
    ∷ (eqb places (length x), Length)
    ∷ (leb (8 * length x) room, Length)
    ∷ (list_all finite cs, Value)
    ∷ (list_all finite x, Value)
    ∷ [])

-- y, worked out in the place of the output, handed out
abbrev pub handed_out : List Float → List Float → Left Verdict
handed_out y s = handed tt (list_all finite y) (y ∷ []) (y ∷ []) s

abbrev pub run_call : List Float → List Float → List Float → Left Verdict
run_call cs x s = settled (filter_refusal cs x (length x) (length s)) accepted (through (sections_of cs) x ∷ []) (x ∷ []) s

abbrev pub filtfilt_call : List Float → List Float → ℕ → List Float → List Float → Left Verdict
filtfilt_call cs x pad o s = settled (filter_refusal cs x (length o) (length s)) accepted (filtfilt (sections_of cs) pad x ∷ []) (o ∷ []) s

-- ---- `band_pass`

unfoldable pub band_refusal : List Float → List Float → ℕ → ℕ → Verdict
band_refusal ts x places room =
    first_failed
    ((leb (length ts) 100000, Count)
    ∷ (eqb (length x) (length ts), Length)
    ∷ (eqb places (length ts), Length)
    ∷ (leb (8 * length ts) room, Length)
    ∷ (list_all is_time ts, Value)
    ∷ (list_all finite x, Value)
    ∷ (rising ts, Order)
    ∷ [])

abbrev pub band_pass_call : List Float → List Float → List Float → List Float → Left Verdict
band_pass_call ts x o s = settled (band_refusal ts x (length o) (length s)) accepted (band_pass ts x ∷ []) (o ∷ []) s

-- ---- the kernel

-- a time and a place for each value, and three numbers of scratch
unfoldable pub band_fits : ℕ → ℕ → ℕ → ℕ → Bool
band_fits times values places room = eqb times values && (eqb places values && leb values (room / 3))

-- what a kernel leaves in its output
unfoldable pub band_passed : List Float → List Float → List Float → ℕ → List Float
band_passed ts x o room = cond (band_fits (length ts) (length x) (length o) room) (band_pass ts x) o

-- how many runs of these lengths are longer than 64 samples
abbrev pub long_runs : List ℕ → ℕ
long_runs [] = 0
long_runs (k ∷ ks) = cond (ltb 64 k) 1 0 + long_runs ks
