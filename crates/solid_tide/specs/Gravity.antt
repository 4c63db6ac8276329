-- The gravity of the published series at a position, and the solid tide's, which is of degree 3 (synthesis.rs, `partials` and `acceleration_neu`; t1.rs,
-- `gravity`; the coefficients are those of IERS Conventions 2010, eq. 6.6, with the source's Love numbers). Assumes nothing: definitions only.
use Rattle.std.specs.Prelude.{ℕ, ◌+◌, List, Float}
use Rattle.std.specs.Float.Ieee.{neg}
use Rattle.laws.specs.Floats.{◌⊕◌, ◌⊖◌, ◌⊗◌}
use Rattle.laws.specs.Sums.{sum_to}
use Rattle.laws.specs.WholeNumbers.{number}
use Rattle.laws.specs.Tables.{rows}
use Rattle.numbers.specs.Constants.{earth_gM, earth_radius}
use Rattle.numbers.specs.Numbers.{sine_cosine}
use Rattle.numbers.specs.declared.SineCosine.{SineCosine}
use Rattle.vectors.specs.declared.Vector.{Vector}
use Rattle.legendre.specs.Arrays.{at}
use Rattle.legendre.specs.Field.{partials_of}
use Rattle.legendre.specs.Legendre.{legendre, derived}
use Rattle.legendre.specs.Sums.{Degree, degree_of, term_v, term_lat, term_lon, power, all_r, all_lat, all_lon}
use Rattle.legendre.specs.declared.Partials.{Partials}
use Rattle.legendre.specs.declared.Sums.{Sums}
use Rattle.fields.specs.Calls.{acceleration_of}
use Rattle.solid_tide.specs.Tide.{entry, place_of, orders_of}
use Rattle.solid_tide.specs.declared.SolidTide.{SolidTide}
use Rattle.solid_tide.specs.declared.kernel.Place.{Place}
use Rattle.solid_tide.specs.declared.degree3.Tables.{Tables}
use Rattle.solid_tide.specs.declared.degree3.Totals.{Totals}

-- ---- m/s², Earth-fixed

-- north, east and up at a latitude and longitude, to Earth-fixed axes
unfoldable pub from_local : SineCosine → SineCosine → Float → Float → Float → Vector
from_local lat lon n e u = record {
  x = neg lat.sine ⊗ lon.cosine ⊗ n ⊖ lon.sine ⊗ e ⊕ lat.cosine ⊗ lon.cosine ⊗ u;
  y = neg lat.sine ⊗ lon.sine ⊗ n ⊕ lon.cosine ⊗ e ⊕ lat.cosine ⊗ lon.sine ⊗ u;
  z = lat.cosine ⊗ n ⊕ lat.sine ⊗ u;
}

-- the gradient of a potential at a place, from its partial derivatives
unfoldable pub gradient : Place → Partials → Vector
gradient at p =
    let a = acceleration_of p at.r at.lat in
    from_local (sine_cosine at.lat) (sine_cosine at.lon) a.north a.east a.up

-- the gravity at x of the published series to degree N of the coefficients c, s
unfoldable pub gravity_of : ℕ → Float → Float → List Float → List Float → Vector → Vector
gravity_of N gm radius c s x = let at = place_of x in gradient at (partials_of N gm radius c s at.r at.lat at.lon)

-- the solid tide's: to degree 3, with the Earth's GM and radius
unfoldable pub tide_gravity : SolidTide → Vector → Vector
tide_gravity tide x = gravity_of 3 earth_gM earth_radius tide.c tide.s x

-- ---- words of the contracts: the sums of the series from tables of ten numbers

unfoldable pub tables_of : SolidTide → SineCosine → Float → Tables
tables_of tide lat lon =
    let p = rows (legendre lat.sine lat.cosine) 4 in
    record { tide = tide; p = p; dp = rows (derived (entry p)) 4; orders = orders_of lon }

-- degree n of the tables
abbrev pub degree_in : Tables → ℕ → Degree
degree_in f n = degree_of (entry f.tide.c n) (entry f.tide.s n) (at f.orders.cos) (at f.orders.sin) (entry f.p n) (entry f.dp n)

-- the sums of degree n over its first j orders, and with order m added
unfoldable pub order_sums : Tables → ℕ → ℕ → Sums
order_sums f n j = let g = degree_in f n in record { v = sum_to (term_v g) j; lat = sum_to (term_lat g) j; lon = sum_to (term_lon g) j }

unfoldable pub add_order : Tables → ℕ → ℕ → Sums → Sums
add_order f n m s = let g = degree_in f n in record { v = s.v ⊕ term_v g m; lat = s.lat ⊕ term_lat g m; lon = s.lon ⊕ term_lon g m }

-- the sums over the first j degrees with q to the j, and with degree n added
unfoldable pub degree_sums : Tables → Float → ℕ → Totals
degree_sums f q j = let g = degree_in f in record { power = power q j; r = all_r g q j; lat = all_lat g q j; lon = all_lon g q j }

unfoldable pub add_degree : Tables → Float → ℕ → Totals → Totals
add_degree f q n t =
    let s = order_sums f n (n + 1) in
    record {
      power = t.power ⊗ q;
      r = t.r ⊖ number (n + 1) ⊗ t.power ⊗ s.v;
      lat = t.lat ⊕ t.power ⊗ s.lat;
      lon = t.lon ⊕ t.power ⊗ s.lon;
    }
