-- The solid-Earth tide of degrees 2 and 3 raised by the Sun and the Moon: IERS Conventions 2010, eq. 6.6. Assumes nothing: definitions only.
use Rattle.std.specs.Prelude.{ℕ, ◌+◌, ◌*◌, cond, List, [], ◌∷◌, ltb, get_or, Float}
use Rattle.std.specs.Float.{nan}
use Rattle.laws.specs.Floats.{◌⊕◌, ◌⊗◌, ◌⊘◌, zero64}
use Rattle.laws.specs.WholeNumbers.{number}
use Rattle.numbers.specs.Numbers.{sine, cosine, arcsine, arctangent, power}
use Rattle.vectors.specs.Vector.{norm}
use Rattle.vectors.specs.declared.Vector.{Vector}
use Rattle.numbers.specs.Constants.{decimal, earth_gM, earth_radius, sun_gM, moon_gM}
use Rattle.laws.specs.Tables.{tri, rows}
use Rattle.legendre.specs.Legendre.{legendre}
use Rattle.solid_tide.specs.declared.kernel.Place.{Place}
use Rattle.solid_tide.specs.declared.kernel.Orders.{Orders}
use Rattle.solid_tide.specs.declared.kernel.Raised.{Raised}
use Rattle.solid_tide.specs.declared.SolidTide.{SolidTide}

-- the entry of a table at (n, m)
abbrev pub entry : List Float → ℕ → ℕ → Float
entry table n m = get_or table (tri n + m) nan

-- distance, geocentric latitude and longitude of a position
unfoldable pub place_of : Vector → Place
place_of x = record { r = norm x; lat = arcsine (x.z ⊘ norm x); lon = arctangent x.y x.x }

-- cos mλ and sin mλ for m = 0 to 3
unfoldable pub orders_of : Float → Orders
orders_of lon = record {
  cos = cosine (number 0 ⊗ lon) ∷ cosine (number 1 ⊗ lon) ∷ cosine (number 2 ⊗ lon) ∷ cosine (number 3 ⊗ lon) ∷ [];
  sin = sine (number 0 ⊗ lon) ∷ sine (number 1 ⊗ lon) ∷ sine (number 2 ⊗ lon) ∷ sine (number 3 ⊗ lon) ∷ [];
}

-- the nominal elastic Love numbers k₂₀, k₂₁, k₂₂ and k₃₀ to k₃₃, after three places of degrees 0 and 1, as the source has them: table 6.3 of the
-- Conventions has 0.094 for k₃₃
unfoldable pub love_numbers : List Float
love_numbers =
    zero64 ∷ zero64 ∷ zero64
    ∷ decimal 29525 5 ∷ decimal 29470 5 ∷ decimal 29801 5
    ∷ decimal 93 3 ∷ decimal 93 3 ∷ decimal 93 3 ∷ decimal 93 3 ∷ []

-- GM_j / GM · (R / r_j)^(n + 1) / (2n + 1)
unfoldable pub ratio : Float → Float → ℕ → Float
ratio gm r n = gm ⊘ earth_gM ⊗ power (earth_radius ⊘ r) (n + 1) ⊘ number (2 * n + 1)

-- what a body raises of degree n and order m, before cos mλ and sin mλ
unfoldable pub weight : Float → Place → ℕ → ℕ → Float
weight gm at n m = get_or love_numbers (tri n + m) nan ⊗ ratio gm at.r n ⊗ legendre (sine at.lat) (cosine at.lat) n m

-- from degree 2 on
abbrev pub from_two : (ℕ → ℕ → Float) → ℕ → ℕ → Float
from_two f n m = cond (ltb n 2) zero64 (f n m)

unfoldable pub raised_by : Vector → Float → Raised
raised_by body gm =
    let at = place_of body in
    record { weight = rows (from_two (weight gm at)) 4; orders = orders_of at.lon }

-- the coefficients, from weights and cosines or sines of the Sun and of the Moon
unfoldable pub both_raise : List Float → List Float → List Float → List Float → List Float
both_raise s x m y =
    rows (from_two (λ n k. zero64 ⊕ get_or s (tri n + k) nan ⊗ get_or x k nan ⊕ get_or m (tri n + k) nan ⊗ get_or y k nan)) 4

unfoldable pub solid_tide : Vector → Vector → SolidTide
solid_tide sun moon =
    let s = raised_by sun sun_gM in
    let m = raised_by moon moon_gM in
    record { c = both_raise s.weight s.orders.cos m.weight m.orders.cos; s = both_raise s.weight s.orders.sin m.weight m.orders.sin }
