-- The number that the C interface answers for a call, 0 for acceptance, and the value that is handed out. Assumes nothing.
use Rattle.std.specs.Prelude.{ℕ, Result, Ok, Err, Option, Some, None}
use Rattle.slices.specs.declared.refusal.Refusal.{Refusal}
use Rattle.slices.specs.declared.refusal.Refusal.TheVariants.{Degree, Count, Length, Value, Order, Uncovered, TooFew, NoStart, Singular, NotFinite}

abbrev pub number_of : Refusal → ℕ
number_of Degree = 1
number_of Count = 2
number_of Length = 3
number_of Value = 4
number_of Order = 5
number_of Uncovered = 6
number_of TooFew = 7
number_of NoStart = 8
number_of Singular = 9
number_of NotFinite = 10

abbrev pub answer_number : {A : Type 0} → Result A Refusal → ℕ
answer_number (Ok a) = 0
answer_number (Err e) = number_of e

abbrev pub answer_value : {A : Type 0} → Result A Refusal → Option A
answer_value (Ok a) = Some a
answer_value (Err e) = None
