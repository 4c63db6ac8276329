-- For a time from 0 to 2^31 the truncating step is `second`. Assumes nothing.
use Rattle.std.proofs.Common.{◌≡◌, Bool, true, false, cond, T, ℤ, pos, refl}
use lib.Ieee.{Float, fin, le, lt}
use lib.Ieee.Fits.{and_i}
use Rattle.laws.specs.Floats.{zero⁺}
use Rattle.laws.specs.Order.{le_tr, le_lt_tr}
use Rattle.laws.specs.Times.{Time, second, bound}
use Rattle.numbers.specs.Seconds.{whole_second, is_held}

cond_holds : (b : Bool) (i j : ℤ) → T b → cond b i j ≡ i
cond_holds true i j h = refl
cond_holds false i j h = absurd h

pub second_of_time : (t : Float) → Time t → whole_second t ≡ second t
unfolding whole_second le
second_of_time t h =
    let low : T (le (fin true 1 (pos 63)) t) = le_tr (fin true 1 (pos 63)) zero⁺ t tt h.from_zero in
    let high : T (lt t (fin false 1 (pos 63))) = le_lt_tr t bound (fin false 1 (pos 63)) h.to_bound tt in
    cond_holds (is_held t) (second t) (pos 0) (and_i (le (fin true 1 (pos 63)) t) (lt t (fin false 1 (pos 63))) low high)
