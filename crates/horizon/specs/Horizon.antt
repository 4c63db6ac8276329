-- The horizon's answer and the entries handed back (document 01, module 9). The horizon itself, and F, are those of crate `finality` (Sheet). Assumes nothing.
use Rattle.std.specs.Prelude.{ℕ, suc, ◌+◌, cond, List, [], length, take, drop, ℤ, nat_le, slice_index_or, Float}
use Rattle.std.specs.Float.{nan}
use Rattle.laws.specs.Times.{end, second_time}
use Rattle.laws.specs.Runs.{splits}
use Rattle.finality.specs.Sheet.{Ends, end_of}

-- the last times of the lists that the horizon looks at
abbrev pub ends_of : List ℤ → List ℤ → List ℤ → List ℤ → List Float → List Float → Ends
ends_of states_c states_d acc_c acc_d fields observed =
    record {
      states_c = end second_time states_c;
      states_d = end second_time states_d;
      acc_c = end second_time acc_c;
      acc_d = end second_time acc_d;
      fields = end (λ (t : Float). t) fields;
      obs = end (λ (t : Float). t) observed;
    }

-- the last epoch of the run in which epoch i stands
abbrev pub end_at : List Float → ℕ → Float
end_at ts i = end_of (slice_index_or ts i nan) (drop (i + 1) ts)

-- one epoch more, where its run ends more than 3.0 s before z
unfoldable pub counted : Float → Float → ℕ → ℕ
counted last z count = cond (splits last z) (suc count) count

-- the first `count` entries, and none where there are not so many
unfoldable pub final_entries : List Float → ℕ → List Float
final_entries list count = cond (nat_le count (length list)) (take count list) []
