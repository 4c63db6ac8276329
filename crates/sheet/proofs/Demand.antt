-- DEMAND 3 of the call itself. Document 01, module 9, of the horizon z: "F counts kept epochs in runs whose last epoch e has z − e > 3.0; without a horizon, as when one of these lists is
-- empty, F is 0." And: "In demand 3 a submission is accepted when the whole path, called on it, returns no refusal; a list begins with another when it is no shorter and has the same
-- bits at each of the other's places; degree and static field are equal by bits, and so are any Legendre tables lent to the two calls; the published lists are those of 8. What the lent
-- outputs and scratch held before makes no difference."
--
-- So let two calls with one setting S be accepted (`answer_value`), the first with k kept and f final epochs, the second with k' and f', and let each list of the second begin with the
-- whole of the first's. Then the first f entries of each column are the same, f' is not below f, and f and f' are the F of their calls (`FinalSheet`). What outputs and scratch held
-- before plays no part (`same_sheet`). Assumes nothing.
use mathlib.Core.Path.{◌≡◌, sym, ◌∙◌}
use Rattle.std.specs.Prelude.{Option, None, Some}
use mathlib.Core.List.{List, map}
use Prim.Native.Nat.{ℕ, ◌≤◌}
use native.Mathlib.Omega.{arith}
use lib.Ieee.{Float}
use lib.ListN.{take}
use Rattle.inputs.specs.Inputs.{Fixed, Lists}
use Rattle.laws.specs.Runs.{runs_of}
use Rattle.finality.specs.Sheet.{times, horizon, count_runs}
use Rattle.sheet.specs.Submission.{stages, submission_of, ListsGrow}
use Rattle.slices.specs.Answers.{answer_value}
use Rattle.sheet.specs.Calls.{columns_of, kept_count, final_count, sheet_call}
use Rattle.sheet.proofs.Final.{final_entries_law, counted, none_counted, within_kept}
use Rattle.sheet.proofs.AcceptedCalls.{Answered, answered}

-- the times of the kept epochs, and the horizon
abbrev pub kept_times : Fixed → Lists → List Float
kept_times S l = times (stages S) (submission_of S l)

abbrev pub horizon_in : Fixed → Lists → Option Float
horizon_in S l = horizon (stages S) (submission_of S l)

-- f of the k kept epochs are final: those in runs that end more than 3.0 s before the horizon
pub record Counted (S : Fixed) (l : Lists) (k f : ℕ) : Type 0 where
  pub within : f ≤ k
  pub none_final : horizon_in S l ≡ None → f ≡ 0
  pub final_runs : (z : Float) → horizon_in S l ≡ Some z → f ≡ count_runs z (runs_of (kept_times S l)) (kept_times S l)

-- the first f entries of each column are the same, and f never falls
pub record FinalSheet (S : Fixed) (l l' : Lists) (columns columns' : List (List Float)) (k f k' f' : ℕ) : Type 0 where
  pub same_entries : map (take f) columns ≡ map (take f) columns'
  pub never_falls : f ≤ f'
  pub first : Counted S l k f
  pub second : Counted S l' k' f'

counts : (S : Fixed) (l : Lists) (outputs : List (List Float)) (scratch : List Float) (k f : ℕ) → Answered S l outputs scratch k f → Counted S l k f
unfolding kept_count final_count
counts S l outputs scratch k f a =
    record {
      within = omega (arith, a.kept, a.final, within_kept S l);
      none_final = λ e. a.final ∙ none_counted S l e;
      final_runs = λ z e. a.final ∙ counted S l z e;
    }

pub final_sheet : (S : Fixed) (l l' : Lists) (outputs outputs' : List (List Float)) (scratch scratch' : List Float) (k f k' f' : ℕ) →
    answer_value (sheet_call S l outputs scratch).answer ≡ Some (record { kept = k; finals = f }) →
    answer_value (sheet_call S l' outputs' scratch').answer ≡ Some (record { kept = k'; finals = f' }) →
    ListsGrow l l' →
    FinalSheet S l l' (sheet_call S l outputs scratch).outputs (sheet_call S l' outputs' scratch').outputs k f k' f'
unfolding columns_of final_count
final_sheet S l l' outputs outputs' scratch scratch' k f k' f' h h' g =
    let a = answered S l outputs scratch k f h in
    let a' = answered S l' outputs' scratch' k' f' h' in
    let e = final_entries_law S l l' a.tests a'.tests g in
    record {
      same_entries = (λ i. map (take (a.final i)) (a.columns i)) ∙ e.same_entries ∙ (λ i. map (take (sym a.final i)) (sym a'.columns i));
      never_falls = omega (arith, a.final, a'.final, e.count_never_falls);
      first = counts S l outputs scratch k f a;
      second = counts S l' outputs' scratch' k' f' a';
    }

-- what outputs and scratch held before
pub same_sheet : (S : Fixed) (l : Lists) (outputs outputs' : List (List Float)) (scratch scratch' : List Float) (k f k' f' : ℕ) →
    answer_value (sheet_call S l outputs scratch).answer ≡ Some (record { kept = k; finals = f }) →
    answer_value (sheet_call S l outputs' scratch').answer ≡ Some (record { kept = k'; finals = f' }) →
    (k ≡ k') × (f ≡ f') × ((sheet_call S l outputs scratch).outputs ≡ (sheet_call S l outputs' scratch').outputs)
same_sheet S l outputs outputs' scratch scratch' k f k' f' h h' =
    let a = answered S l outputs scratch k f h in
    let a' = answered S l outputs' scratch' k' f' h' in
    (a.kept ∙ sym a'.kept, a.final ∙ sym a'.final, a.columns ∙ sym a'.columns)
