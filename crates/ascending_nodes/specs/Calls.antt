-- The public call `ascending_nodes` (document 01, "Outcomes" and "Bounds"): which refusal, and what is left behind. Assumes nothing.
use Rattle.std.specs.Prelude.{ℕ, ◌*◌, List, [], ◌∷◌, length, ℤ, ◌==◌, nat_le, Float, Result, Ok}
use Rattle.std.specs.Float.Ieee.Scale.{finite}
use Rattle.std.specs.List.{list_all}
use Rattle.laws.specs.Checks.{is_key, rising_seconds}
use Rattle.laws.specs.Floats.{zero64}
use Rattle.laws.specs.Loops.{filled_up}
use Rattle.slices.specs.Calls.{Verdict, first_failed, Left, settled}
use Rattle.slices.specs.declared.refusal.Refusal.{Refusal}
use Rattle.slices.specs.declared.refusal.Refusal.TheVariants.{Count, Length, Value, Order}
use Rattle.ascending_nodes.specs.Nodes.{nodes_of}

-- places is the length of the output
unfoldable pub nodes_refusal : List ℤ → List Float → ℕ → Verdict
nodes_refusal ks st places =
    first_failed
    ((nat_le (length ks) 200000, Count)
    ∷ ((length st == 6 * length ks), Length)
    ∷ ((places == length ks), Length)
    ∷ (list_all is_key ks, Value)
    ∷ (list_all finite st, Value)
    ∷ (rising_seconds ks, Order)
    ∷ [])

-- the nodes, +0.0 after the last
abbrev pub nodes_left : List ℤ → List Float → List Float
nodes_left ks st = filled_up zero64 (length ks) (nodes_of ks st)

abbrev pub nodes_call : List ℤ → List Float → List Float → Left (Result ℕ Refusal)
nodes_call ks st o = settled (nodes_refusal ks st (length o)) (Ok (length (nodes_of ks st))) (nodes_left ks st ∷ []) (o ∷ []) []
