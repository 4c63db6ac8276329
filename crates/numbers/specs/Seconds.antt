-- GPS seconds (document 01, "Expected form in each place"): the one truncating step from a time with a fraction to the whole second that keys a list.
-- Assumes nothing.
use Rattle.std.specs.Prelude.{Bool, true, false, cond, ◌&&◌, ℤ, pos, Float}
use Rattle.std.specs.Float.{fin}
use Rattle.std.specs.Float.Ieee.{le, lt}
use Rattle.laws.specs.Times.{second}

-- −2^63 ≤ t < 2^63: the whole part of t is an i64
abbrev pub is_held : Float → Bool
is_held t = le (fin true 1 (pos 63)) t && lt t (fin false 1 (pos 63))

-- the whole part of t, and 0 where no i64 holds it or t is NaN
unfoldable pub whole_second : Float → ℤ
whole_second t = cond (is_held t) (second t) (pos 0)
