-- Whether an answer of the engine meets a published value, and how many do. Assumes nothing.
use Rattle.std.specs.Prelude.{Result, Ok, Err, ◌+◌, ◌%◌, ◌^◌, Bool, false, cond, Float}
use Rattle.std.specs.Float.Ieee.{le}
use Rattle.laws.specs.Floats.{◌⊖◌}
use Rattle.numbers.specs.Numbers.{magnitude}
use Rattle.slices.specs.declared.refusal.Refusal.{Refusal}
use Rattle.published.specs.declared.table.Tally.{Tally}

-- a refused answer never is, nor one whose difference is a NaN
abbrev pub is_within : Float → Result Float Refusal → Float → Bool
is_within published (Ok x) accuracy = le (magnitude (x ⊖ published)) accuracy
is_within published (Err n) accuracy = false

-- one more shown, and one more within where it is; both counts are 32 bits wide
abbrev pub counted : Tally → Bool → Tally
counted t w = record { shown = (t.shown + 1) % 2 ^ 32; within = (t.within + cond w 1 0) % 2 ^ 32 }
