-- The theorem is not empty: a toy instance with 0 < F < kept, both submissions valid, and an entry beyond F that appended data does change. By computing. Assumes nothing.
use mathlib.Core.Path.{◌≡◌, refl, ap}
use Rattle.std.specs.Prelude.{Option, None, Some}
use mathlib.Core.Bool.{Bool, true, false, ◌&&◌, cond}
use mathlib.Core.List.{List, [], ◌∷◌}
use Prim.Native.Nat.{ℕ, suc, ◌≤◌, zero-le}
use native.Mathlib.Omega.{arith}
use lib.Dec.{T, leb, leb→le}
use lib.ListN.{length, replicate, length-reverse}
use lib.Ieee.{Float, of_bits, of_int, to_signed, add, sub, mul, div, le, lt}
use Rattle.laws.specs.Floats.{zero64}
use Rattle.laws.specs.Lists.{cond_ind}
use Rattle.laws.specs.WholeNumbers.{number, ceil, floor}
use Rattle.laws.specs.Times.{end, second, step_time}
use Rattle.laws.specs.Checks.{is_time}
use Rattle.laws.specs.Runs.{splits}
use Rattle.finality.specs.Tables.{Table, find}
use Rattle.finality.specs.Stages.{Stages}
use Rattle.finality.specs.Arcs.{start, steps, inside, window_of}
use Rattle.finality.specs.Brackets.{covers, bracketed}
use Rattle.finality.specs.Detrending.{before, from, from_node, detrend}
use Rattle.finality.specs.Sheet.{largest, end_of, count, Submission, Valid, Grows, fitted, kept_of, kept_with, kept, epoch_from, orbits, horizon, count_to, final, times_of, sheet_of, sheet}
use Rattle.finality.specs.Toy.{spread, toy_fit, toy, toy_stages, states_at, shorter, longer}
use Rattle.finality.proofs.Accepted.{valid_of}
use Rattle.finality.proofs.ArcFits.{LawfulFit}
use Rattle.finality.proofs.Assembled.{LawfulKernels, kernels_final}
use Rattle.finality.proofs.Finality.{Final}

-- ---- the toy obeys its laws
spread_length : (n : ℕ) (o : Option Float) → length (spread n o) ≤ n
spread_length n None = zero-le
spread_length n (Some x) = go (leb 905 n) (leb→le 905 n)
  where
    go : (b : Bool) → (T b → 905 ≤ n) → length (cond b (replicate 905 x) []) ≤ n
    go true h = h tt
    go false h = zero-le

toy_fit_law : LawfulFit toy_fit
toy_fit_law =
    record {
      fit_length = λ c m g arc.
          cond_ind (λ (l : List Float). length l ≤ suc arc.steps) (c (step_time arc.t0 0) && c (step_time arc.t0 arc.steps))
          (spread (suc arc.steps) (g (second (step_time arc.t0 0)))) []
          (λ t. spread_length (suc arc.steps) (g (second (step_time arc.t0 0)))) (λ t. zero-le);
      fit_reads = λ c c' m m' g g' arc c0 g0 ec e0 e1 e2 eg.
          λ i. cond (ec 0 zero-le i && ec arc.steps (native.Mathlib.Nat.le_refl arc.steps) i) (spread (suc arc.steps) (eg 0 zero-le i)) [];
    }

pub toy_lawful : LawfulKernels toy
toy_lawful =
    record {
      fits = toy_fit_law;
      epoch_time = λ t v f x y p q. refl;
      revolution_length = λ a b ts vs h. refl;
      pass_length = λ vs. length-reverse vs;
    }

-- ---- kept epochs, once the fitted states are known
pub kept_by : (S : Stages) (s : Submission S) (rows : Table S.State) → fitted S s s.states_c ≡ rows → fitted S s s.states_d ≡ rows → kept S s ≡ kept_with S s rows rows
kept_by S s rows e e' = λ i. kept_with S s (e i) (e' i)

-- F, once the horizon and the kept epochs are
final_by_law : (S : Stages) (s : Submission S) (o : Option Float) (es : List S.Epoch) → horizon S s ≡ o → kept S s ≡ es → final S s ≡ count_to o (times_of S es)
final_by_law S s o es h k = λ i. count_to (h i) (times_of S (k i))

-- ---- the shorter submission: horizon 2010, three kept epochs, two of them final
shorter_states : fitted toy_stages shorter shorter.states_c ≡ states_at (2000 ∷ 2002 ∷ 2004 ∷ 2006 ∷ 2008 ∷ [])
unfolding shorter orbits find window_of inside start steps step_time covers bracketed end number ceil floor to_signed of_int of_bits add sub mul div le lt
shorter_states = refl

pub shorter_kept : kept toy_stages shorter ≡ (number 2000, number 2) ∷ (number 2002, number 3) ∷ (number 2008, number 4) ∷ []
unfolding shorter kept_of epoch_from find covers bracketed end number to_signed of_int of_bits add le lt
shorter_kept = kept_by toy_stages shorter (states_at (2000 ∷ 2002 ∷ 2004 ∷ 2006 ∷ 2008 ∷ [])) shorter_states shorter_states

pub shorter_horizon : horizon toy_stages shorter ≡ Some (number 2010)
unfolding shorter largest end number of_int of_bits add le
shorter_horizon = refl

pub shorter_final : final toy_stages shorter ≡ 2
unfolding count end_of splits number of_int of_bits sub lt
shorter_final = final_by_law toy_stages shorter (Some (number 2010)) ((number 2000, number 2) ∷ (number 2002, number 3) ∷ (number 2008, number 4) ∷ []) shorter_horizon shorter_kept

-- ---- the longer submission: horizon 2020, four kept epochs, all final
longer_states : fitted toy_stages longer longer.states_c ≡ states_at (2000 ∷ 2002 ∷ 2004 ∷ 2006 ∷ 2008 ∷ 2010 ∷ 2012 ∷ 2014 ∷ 2016 ∷ 2018 ∷ [])
unfolding longer orbits find window_of inside start steps step_time covers bracketed end number ceil floor to_signed of_int of_bits add sub mul div le lt
longer_states = refl

pub longer_kept : kept toy_stages longer ≡ (number 2000, number 2) ∷ (number 2002, number 3) ∷ (number 2008, number 4) ∷ (number 2010, number 5) ∷ []
unfolding longer kept_of epoch_from find covers bracketed end number to_signed of_int of_bits add le lt
longer_kept = kept_by toy_stages longer (states_at (2000 ∷ 2002 ∷ 2004 ∷ 2006 ∷ 2008 ∷ 2010 ∷ 2012 ∷ 2014 ∷ 2016 ∷ 2018 ∷ [])) longer_states longer_states

pub longer_horizon : horizon toy_stages longer ≡ Some (number 2020)
unfolding longer largest end number of_int of_bits add le
longer_horizon = refl

pub longer_final : final toy_stages longer ≡ 4
unfolding count end_of splits number of_int of_bits sub lt
longer_final = final_by_law toy_stages longer (Some (number 2020)) ((number 2000, number 2) ∷ (number 2002, number 3) ∷ (number 2008, number 4) ∷ (number 2010, number 5) ∷ []) longer_horizon longer_kept

-- ---- both are valid, and the longer one grows out of the shorter: the theorem applies
pub shorter_valid : Valid toy_stages shorter
unfolding shorter is_time number of_int of_bits lt le
shorter_valid = valid_of toy_stages shorter (omega arith) tt tt tt tt tt tt tt tt tt tt

pub longer_valid : Valid toy_stages longer
unfolding longer is_time number of_int of_bits lt le
longer_valid = valid_of toy_stages longer (omega arith) tt tt tt tt tt tt tt tt tt tt

pub toy_grows : Grows toy_stages shorter longer
unfolding shorter longer
toy_grows = record { fields = refl; states_c = refl; states_d = refl; acc_c = refl; acc_d = refl; nodes = refl; obs = refl }

pub toy_final : Final toy_stages shorter longer
toy_final = kernels_final toy toy_lawful shorter longer shorter_valid longer_valid toy_grows

-- ---- and F is exact: the first two entries of each column stay, as proved, and the third passed value moves from 4.0 to 5.0, since its run grew
pub shorter_sheet : sheet toy_stages shorter
    ≡ (number 2000 ∷ number 2002 ∷ number 2008 ∷ zero64 ∷ zero64 ∷ [])
    ∷ (number 2 ∷ number 3 ∷ number 4 ∷ zero64 ∷ zero64 ∷ [])
    ∷ (number 2 ∷ number 3 ∷ number 4 ∷ zero64 ∷ zero64 ∷ [])
    ∷ (number 3 ∷ number 2 ∷ number 4 ∷ zero64 ∷ zero64 ∷ [])
    ∷ []
unfolding shorter detrend from_node before from splits number of_int of_bits sub lt
shorter_sheet = ap (sheet_of toy_stages shorter) shorter_kept

pub longer_sheet : sheet toy_stages longer
    ≡ (number 2000 ∷ number 2002 ∷ number 2008 ∷ number 2010 ∷ zero64 ∷ zero64 ∷ [])
    ∷ (number 2 ∷ number 3 ∷ number 4 ∷ number 5 ∷ zero64 ∷ zero64 ∷ [])
    ∷ (number 2 ∷ number 3 ∷ number 4 ∷ number 5 ∷ zero64 ∷ zero64 ∷ [])
    ∷ (number 3 ∷ number 2 ∷ number 5 ∷ number 4 ∷ zero64 ∷ zero64 ∷ [])
    ∷ []
unfolding longer detrend from_node before from splits number of_int of_bits sub lt
longer_sheet = ap (sheet_of toy_stages longer) longer_kept
