-- The public calls `horizon` and `final_count` (document 01, module 9, "Outcomes" and "Bounds"): which refusal, the work. Assumes nothing.
use Rattle.std.specs.Prelude.{ℕ, Bool, true, ◌&&◌, List, [], length, ℤ, nat_le, Float, Option, Result, Ok, Err}
use Rattle.std.specs.List.{list_all}
use Rattle.laws.specs.Checks.{is_time, is_key, rising}
use Rattle.slices.specs.Calls.{Verdict, accepted}
use Rattle.slices.specs.declared.refusal.Refusal.{Refusal}
use Rattle.inputs.specs.Inputs.{first_of, few, rise}
use Rattle.finality.specs.Sheet.{horizon_of, count_to}
use Rattle.horizon.specs.Horizon.{ends_of}

-- ---- the arguments: nodes, the keys of both satellites' states and accelerometer values, the times of fields and of observations

pub record Given : Type 0 where
  pub nodes : List Float
  pub states_c : List ℤ
  pub states_d : List ℤ
  pub acc_c : List ℤ
  pub acc_d : List ℤ
  pub fields : List Float
  pub observed : List Float

abbrev pub given : List Float → List ℤ → List ℤ → List ℤ → List ℤ → List Float → List Float → Given
given nodes states_c states_d acc_c acc_d fields observed =
    record { nodes = nodes; states_c = states_c; states_d = states_d; acc_c = acc_c; acc_d = acc_d; fields = fields; observed = observed }

-- ---- which refusal of these lists and of the kept epochs' times

-- so many nodes, states and accelerometer values, fields, observations, kept epochs; unlike a model, these lists may have one field or none
unfoldable pub counts_within : ℕ → ℕ → ℕ → ℕ → ℕ → ℕ → ℕ → ℕ → Bool
counts_within nodes states_c states_d acc_c acc_d fields observed kept =
    ((nat_le nodes 64 && nat_le fields 32) && (nat_le observed 100000 && nat_le kept 100000)) && ((few states_c && few states_d) && (few acc_c && few acc_d))

abbrev pub given_counted : Given → List Float → Bool
given_counted g kept =
    counts_within (length g.nodes) (length g.states_c) (length g.states_d) (length g.acc_c) (length g.acc_d) (length g.fields)
    (length g.observed) (length kept)

unfoldable pub given_fine : Given → List Float → Bool
given_fine g kept =
    ((list_all is_time g.nodes && list_all is_time g.fields) && (list_all is_time g.observed && list_all is_time kept))
    && ((list_all is_key g.states_c && list_all is_key g.states_d) && (list_all is_key g.acc_c && list_all is_key g.acc_d))

unfoldable pub given_rise : Given → List Float → Bool
given_rise g kept = (rising g.nodes && (rising g.observed && rising kept)) && rise g.fields g.states_c g.states_d g.acc_c g.acc_d

-- `places`: whether the answer's own place fits, for a caller that lends one
abbrev pub refusal_of : Bool → Given → List Float → Verdict
refusal_of places g kept = first_of true (given_counted g kept) places (given_fine g kept) (given_rise g kept) accepted

-- ---- the calls

abbrev pub horizon_in : Given → Option Float
horizon_in g = horizon_of (ends_of g.states_c g.states_d g.acc_c g.acc_d g.fields g.observed) g.nodes

abbrev pub answered : {A : Type 0} → Verdict → A → Result A Refusal
answered (Err e) a = Err e
answered (Ok _) a = Ok a

-- `horizon`, for which there are no kept epochs
abbrev pub horizon_call : Given → Result (Option Float) Refusal
horizon_call g = answered (refusal_of true g []) (horizon_in g)

-- `final_count`
abbrev pub final_count_call : Given → List Float → Result ℕ Refusal
final_count_call g kept = answered (refusal_of true g kept) (count_to (horizon_in g) kept)
