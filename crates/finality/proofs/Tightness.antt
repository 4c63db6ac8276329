-- The reach of the horizon cannot be 1,801: a pair of submissions in which all lists reach a node z + 1,801, two kept epochs stand in a run that ends more than 3.0 s before z, and
-- yet one appended field moves both passed values. For an odd b the last step of the window (a, b) falls on b + 1,801. By computing. Assumes nothing.
use mathlib.Core.Path.{◌≡◌, refl, ap}
use mathlib.Core.Bool.{Bool, ◌&&◌}
use mathlib.Core.List.{[], ◌∷◌}
use native.Mathlib.Omega.{arith}
use lib.Dec.{T}
use lib.Ieee.{Float, of_bits, of_int, to_signed, add, sub, mul, div, le, lt}
use Rattle.laws.specs.Floats.{◌⊕◌, zero64}
use Rattle.laws.specs.WholeNumbers.{number, ceil, floor}
use Rattle.laws.specs.Times.{end, reaches, step_time}
use Rattle.laws.specs.Checks.{is_time}
use Rattle.laws.specs.Runs.{splits}
use Rattle.finality.specs.Tables.{find, row_time}
use Rattle.finality.specs.Stages.{time_of}
use Rattle.finality.specs.Arcs.{start, steps, inside, window_of}
use Rattle.finality.specs.Brackets.{covers, bracketed}
use Rattle.finality.specs.Detrending.{before, from, from_node, detrend}
use Rattle.finality.specs.Sheet.{end_of, count, obs_time, Submission, Valid, Grows, fitted, epoch_from, kept_of, kept, orbits, sheet_of, sheet}
use Rattle.finality.specs.Toy.{toy_stages, states_at, tight, loosened}
use Rattle.finality.proofs.Accepted.{valid_of}
use Rattle.finality.proofs.ToyFinal.{kept_by}

-- every list reaches e
abbrev pub all_reach : Submission toy_stages → Float → Bool
all_reach s e =
    reaches e (end row_time s.states_c) && (reaches e (end row_time s.states_d) && (reaches e (end row_time s.acc_c)
    && (reaches e (end row_time s.acc_d) && (reaches e (end time_of s.fields) && reaches e (end obs_time s.obs)))))

pub reached_1801 : T (all_reach tight (number 2009 ⊕ number 1801))
unfolding tight end number of_int of_bits add le
reached_1801 = tt

-- ---- two epochs are kept, in one run that ends 11 s before the node 2009
tight_states : fitted toy_stages tight tight.states_c ≡ states_at (1990 ∷ 1992 ∷ 1994 ∷ 1996 ∷ 1998 ∷ [])
unfolding tight orbits find window_of inside start steps step_time covers bracketed end number ceil floor to_signed of_int of_bits add sub mul div le lt
tight_states = refl

pub tight_kept : kept toy_stages tight ≡ (number 1996, number 2) ∷ (number 1998, number 3) ∷ []
unfolding tight kept_of epoch_from find covers bracketed end number to_signed of_int of_bits add le lt
tight_kept = kept_by toy_stages tight (states_at (1990 ∷ 1992 ∷ 1994 ∷ 1996 ∷ 1998 ∷ [])) tight_states tight_states

pub tight_sheet : sheet toy_stages tight
    ≡ (number 1996 ∷ number 1998 ∷ zero64 ∷ zero64 ∷ [])
    ∷ (number 2 ∷ number 3 ∷ zero64 ∷ zero64 ∷ [])
    ∷ (number 2 ∷ number 3 ∷ zero64 ∷ zero64 ∷ [])
    ∷ (number 3 ∷ number 2 ∷ zero64 ∷ zero64 ∷ [])
    ∷ []
unfolding tight detrend from_node before from splits number of_int of_bits sub lt
tight_sheet = ap (sheet_of toy_stages tight) tight_kept

pub two_before : count (number 2009) (number 1996 ∷ number 1998 ∷ []) ≡ 2
unfolding count end_of splits number of_int of_bits sub lt
two_before = refl

-- ---- with the field at 9000 the window from 2000 to 2009 is fitted too, the epoch at 2000 joins the run, and both passed values move
loosened_states : fitted toy_stages loosened loosened.states_c ≡ states_at (1990 ∷ 1992 ∷ 1994 ∷ 1996 ∷ 1998 ∷ 2000 ∷ 2002 ∷ 2004 ∷ 2006 ∷ 2008 ∷ [])
unfolding loosened orbits find window_of inside start steps step_time covers bracketed end number ceil floor to_signed of_int of_bits add sub mul div le lt
loosened_states = refl

pub loosened_kept : kept toy_stages loosened ≡ (number 1996, number 2) ∷ (number 1998, number 3) ∷ (number 2000, number 4) ∷ []
unfolding loosened kept_of epoch_from find covers bracketed end number to_signed of_int of_bits add le lt
loosened_kept = kept_by toy_stages loosened (states_at (1990 ∷ 1992 ∷ 1994 ∷ 1996 ∷ 1998 ∷ 2000 ∷ 2002 ∷ 2004 ∷ 2006 ∷ 2008 ∷ [])) loosened_states loosened_states

pub loosened_sheet : sheet toy_stages loosened
    ≡ (number 1996 ∷ number 1998 ∷ number 2000 ∷ zero64 ∷ [])
    ∷ (number 2 ∷ number 3 ∷ number 4 ∷ zero64 ∷ [])
    ∷ (number 2 ∷ number 3 ∷ number 4 ∷ zero64 ∷ [])
    ∷ (number 4 ∷ number 3 ∷ number 2 ∷ zero64 ∷ [])
    ∷ []
unfolding loosened detrend from_node before from splits number of_int of_bits sub lt
loosened_sheet = ap (sheet_of toy_stages loosened) loosened_kept

-- ---- both are valid, and only data was appended
pub tight_valid : Valid toy_stages tight
unfolding tight is_time number of_int of_bits lt le
tight_valid = valid_of toy_stages tight (omega arith) tt tt tt tt tt tt tt tt tt tt

pub loosened_valid : Valid toy_stages loosened
unfolding loosened is_time number of_int of_bits lt le
loosened_valid = valid_of toy_stages loosened (omega arith) tt tt tt tt tt tt tt tt tt tt

pub tight_grows : Grows toy_stages tight loosened
unfolding tight loosened
tight_grows = record { fields = refl; states_c = refl; states_d = refl; acc_c = refl; acc_d = refl; nodes = refl; obs = refl }
