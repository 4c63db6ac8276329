-- The sums that the tide's code forms from tables of ten numbers are those of the published series to degree 3. Assumes nothing.
use mathlib.Core.Path.{◌≡◌, refl, sym, ap}
use Prim.Native.Nat.{ℕ, ◌+◌}
use native.Mathlib.Numerals.{add-one}
use lib.Ieee.{Float}
use Rattle.laws.specs.Floats.{◌⊗◌, ◌⊘◌}
use Rattle.laws.specs.Tables.{tri, row, rows}
use Rattle.numbers.specs.Constants.{earth_gM, earth_radius}
use Rattle.numbers.specs.Numbers.{sine_cosine}
use Rattle.vectors.specs.declared.Vector.{Vector}
use Rattle.laws.specs.Sums.{sum_to}
use Rattle.legendre.specs.Field.{partials_of}
use Rattle.legendre.specs.Sums.{power, all_r, all_lat, all_lon}
use Rattle.solid_tide.specs.Tide.{place_of, orders_of}
use Rattle.solid_tide.specs.Gravity.{tables_of, order_sums, add_order, degree_sums, add_degree, from_local, gradient, gravity_of, tide_gravity}
use Rattle.solid_tide.specs.declared.SolidTide.{SolidTide}
use Rattle.solid_tide.specs.declared.kernel.Place.{Place}
use Rattle.solid_tide.specs.declared.degree3.Tables.{Tables}

-- the loops: one order more, one degree more
pub one_order : (f : Tables) (n m : ℕ) → add_order f n m (order_sums f n m) ≡ order_sums f n (m + 1)
unfolding add_order order_sums sum_to
one_order f n m = ap (order_sums f n) (sym (add-one m))

pub one_degree : (f : Tables) (q : Float) (n : ℕ) → add_degree f q n (degree_sums f q n) ≡ degree_sums f q (n + 1)
unfolding add_degree order_sums degree_sums power all_r all_lat all_lon sum_to
one_degree f q n = ap (degree_sums f q) (sym (add-one n))

-- the code's gravity at a place
unfoldable pub summed : SolidTide → Place → Vector
summed tide at =
    let lat = sine_cosine at.lat in
    let t = degree_sums (tables_of tide lat at.lon) (earth_radius ⊘ at.r) 4 in
    let k = earth_gM ⊘ at.r in
    from_local lat (sine_cosine at.lon) (k ⊗ t.lat ⊘ at.r) (k ⊗ t.lon ⊘ (at.r ⊗ lat.cosine)) (k ⊘ at.r ⊗ t.r)

-- is that of the series: the tables hold what it sums
pub summed_published : (tide : SolidTide) (x : Vector) → summed tide (place_of x) ≡ tide_gravity tide x
unfolding summed tide_gravity gravity_of gradient partials_of degree_sums tables_of orders_of all_r all_lat all_lon sum_to tri row rows sine_cosine
summed_published tide x = refl
