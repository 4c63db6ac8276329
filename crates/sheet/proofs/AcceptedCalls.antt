-- What an accepted call says: no test failed, its counts are those of the kept and of the final epochs, and its outputs are the columns. Assumes nothing.
use mathlib.Core.Path.{◌≡◌, refl, sym, ap}
use mathlib.Core.Bool.{Bool, true, false}
use mathlib.Core.List.{List}
use Rattle.std.specs.Prelude.{Some, Ok, Err}
use Prim.Native.Nat.{ℕ}
use lib.Ieee.{Float}
use lib.Ieee.Scale.{finite}
use lib.ListN.{length}
use Rattle.inputs.specs.Inputs.{Fixed, Lists}
use Rattle.std.specs.List.{list_all}
use Rattle.slices.specs.Answers.{answer_value}
use Rattle.slices.specs.Calls.{Verdict, accepted, handed, settled}
use Rattle.sheet.specs.Submission.{Passed}
use Rattle.sheet.specs.Calls.{sheet_refusal, columns_of, kept_count, final_count, sheet_call}
use Rattle.sheet.specs.declared.Counts.{Counts}
use Rattle.sheet.proofs.Accepted.{accepts, passed}

module _ (a c : Counts) (new outputs : List (List Float)) (scratch : List Float) where
  handed_only : (b : Bool) → answer_value (handed a b new outputs scratch).answer ≡ Some c → (a ≡ c) × ((handed a b new outputs scratch).outputs ≡ new)
  handed_only true h = (cc, refl)
  handed_only false h = cc

  settled_only : (v : Verdict) → answer_value (settled v (Ok a) new outputs scratch).answer ≡ Some c →
      (v ≡ accepted) × (a ≡ c) × ((settled v (Ok a) new outputs scratch).outputs ≡ new)
  settled_only (Ok tt) h = let r = handed_only (list_all (list_all finite) new) h in (refl, r.0, r.1)
  settled_only (Err e) h = cc

pub record Answered (S : Fixed) (l : Lists) (outputs : List (List Float)) (scratch : List Float) (k f : ℕ) : Type 0 where
  pub tests : Passed S l
  pub kept : k ≡ kept_count S l
  pub final : f ≡ final_count S l
  pub columns : (sheet_call S l outputs scratch).outputs ≡ columns_of S l

pub answered : (S : Fixed) (l : Lists) (outputs : List (List Float)) (scratch : List Float) (k f : ℕ) →
    answer_value (sheet_call S l outputs scratch).answer ≡ Some (record { kept = k; finals = f }) → Answered S l outputs scratch k f
answered S l outputs scratch k f h =
    let room : ℕ = length scratch in
    let r = settled_only (record { kept = kept_count S l; finals = final_count S l }) (record { kept = k; finals = f }) (columns_of S l) outputs scratch
    (sheet_refusal S l outputs room) h in
    record {
      tests = passed S l outputs room (accepts S l outputs room r.0);
      kept = sym (ap (λ (c : Counts). c.kept) r.1);
      final = sym (ap (λ (c : Counts). c.finals) r.1);
      columns = r.2;
    }
