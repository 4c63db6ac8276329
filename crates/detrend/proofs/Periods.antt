-- The periods of the revolutions between nodes that are times are finite, so that `revolutions` hands out no other number. Assumes nothing.
use mathlib.Core.Bool.{Bool, true, false, cond}
use mathlib.Core.List.{List, [], ◌∷◌, map}
use Prim.Native.Nat.{◌-◌}
use lib.Dec.{T, leb}
use lib.Ieee.{Float, lt}
use lib.Ieee.Fits.{and_l, and_r, and_i}
use lib.Ieee.Scale.{finite}
use Rattle.std.specs.List.{list_all}
use Rattle.laws.specs.Checks.{is_time, rising, time_says}
use Rattle.laws.specs.Floats.{◌⊖◌}
use Rattle.laws.specs.Order.{lt→le}
use Rattle.laws.specs.Weight.{difference_finite}
use Rattle.detrend.specs.Revolutions.{count_before, Revolution, revolutions_of}

abbrev Periods : List Revolution → List Float
Periods rs = map (λ (r : Revolution). r.period) rs

pub periods_finite : (ts ns : List Float) → T (list_all is_time ns) → T (rising ns) → T (list_all finite (map (λ (r : Revolution). r.period) (revolutions_of ts ns)))
unfolding revolutions_of
periods_finite ts [] h o = tt
periods_finite ts (a ∷ []) h o = tt
periods_finite ts (a ∷ b ∷ ns) h o =
    let rest = and_r (is_time a) (list_all is_time (b ∷ ns)) h in
    let ta = time_says a (and_l (is_time a) (list_all is_time (b ∷ ns)) h) in
    let tb = time_says b (and_l (is_time b) (list_all is_time ns) rest) in
    go (leb 50 (count_before b ts - count_before a ts)) (difference_finite a b ta tb (lt→le a b (and_l (lt a b) (rising (b ∷ ns)) o)))
    (periods_finite ts (b ∷ ns) rest (and_r (lt a b) (rising (b ∷ ns)) o))
  where
    go : (c : Bool) → T (finite (b ⊖ a)) → T (list_all finite (Periods (revolutions_of ts (b ∷ ns)))) →
        T (list_all finite (Periods (cond c (record { first = count_before a ts; end = count_before b ts; start = a; period = b ⊖ a } ∷ revolutions_of ts (b ∷ ns))
        (revolutions_of ts (b ∷ ns)))))
    go true f r = and_i (finite (b ⊖ a)) (list_all finite (Periods (revolutions_of ts (b ∷ ns)))) f r
    go false f r = r
