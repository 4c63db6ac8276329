-- The forces of module 2, m/s², Earth-fixed. Assumes nothing: definitions only.
use Rattle.std.specs.Prelude.{ℕ, Bool, cond, ◌&&◌, List, leb, eqb, length, get_or, Float}
use Rattle.std.specs.Float.{nan, binary64}
use Rattle.std.specs.Float.Ieee.{neg}
use Rattle.root.specs.Root.{sqrt}
use Rattle.laws.specs.Floats.{◌⊕◌, ◌⊖◌, ◌⊗◌, ◌⊘◌, zero64, one64}
use Rattle.laws.specs.WholeNumbers.{number}
use Rattle.numbers.specs.Numbers.{sine_cosine, power}
use Rattle.numbers.specs.declared.SineCosine.{SineCosine}
use Rattle.vectors.specs.Vector.{plus, minus, times, inner, norm, cross}
use Rattle.vectors.specs.declared.Vector.{Vector}
use Rattle.numbers.specs.Constants.{decimal, earth_gM, earth_radius, sun_gM, moon_gM, rotation, j2}
use Rattle.sun_moon.specs.SunMoon.{sun_moon}
use Rattle.legendre.specs.Field.{size, nothing, partials_with, partials_by}
use Rattle.solid_tide.specs.Tide.{place_of, solid_tide}
use Rattle.solid_tide.specs.Gravity.{gradient, tide_gravity}
use Rattle.forces.specs.declared.kernel.Moment.{Moment}
use Rattle.forces.specs.declared.kernel.Axes.{Axes}

-- the gravity at x from lent Legendre tables a and b: with those that `Legendre::new` fills, `gravity_of` of crate `solid_tide`, the published series
-- (proofs/Published)
unfoldable pub gravity_by : ℕ → Float → Float → List Float → List Float → List Float → List Float → Vector → Vector
gravity_by N gm radius a b c s x = let at = place_of x in gradient at (partials_by N gm radius a b c s at.r at.lat at.lon)

-- the tables are of degree N, at most 180
abbrev pub tables_sized : ℕ → List Float → List Float → Bool
tables_sized N a b = leb N 180 && (eqb (length a) (size N) && eqb (length b) (size N))

-- the same for tables of any length: a potential of +0.0 where one is not of degree N
unfoldable pub gravity_lent : ℕ → Float → Float → List Float → List Float → List Float → List Float → Vector → Vector
gravity_lent N gm radius a b c s x = cond (tables_sized N a b) (gravity_by N gm radius a b c s x) (gradient (place_of x) nothing)

-- the kernel's form: tables a and b as given, and a work slice with C and S at its front
unfoldable pub gravity_with : ℕ → Float → Float → List Float → List Float → List Float → Vector → Vector
gravity_with N gm radius a b work x = let at = place_of x in gradient at (partials_with N gm radius a b work at.r at.lat at.lon)

-- a body's pull on a satellite at x, less its pull on the Earth
unfoldable pub third_body : Vector → Vector → Float → Vector
third_body x body gm =
    let d = minus body x in
    minus (times d (gm ⊘ power (norm d) 3)) (times body (gm ⊘ power (norm body) 3))

-- what the tides take from the time alone
unfoldable pub moment_of : Float → Moment
moment_of t =
    let bodies = sun_moon t in
    record { sun = bodies.sun; moon = bodies.moon; tide = solid_tide bodies.sun bodies.moon }

-- solid tide, Sun and Moon
unfoldable pub tides_at : Moment → Vector → Vector
tides_at moment x =
    plus (tide_gravity moment.tide x) (plus (third_body x moment.sun sun_gM) (third_body x moment.moon moon_gM))

unfoldable pub tides_of : Float → Vector → Vector
tides_of t x = tides_at (moment_of t) x

-- −2ω×v − ω×(ω×x), with ω along z
unfoldable pub fictitious_of : Vector → Vector → Vector
fictitious_of x v = record {
  x = number 2 ⊗ rotation ⊗ v.y ⊕ rotation ⊗ rotation ⊗ x.x;
  y = neg (number 2) ⊗ rotation ⊗ v.x ⊕ rotation ⊗ rotation ⊗ x.y;
  z = zero64;
}

-- the radial, along-track and cross-track directions
unfoldable pub axes_of : Vector → Vector → Axes
axes_of x v =
    let radial = times x (one64 ⊘ norm x) in
    let h = cross x v in
    let across = times h (one64 ⊘ norm h) in
    record { radial = radial; along = cross across radial; across = across }

-- a constant and a once-per-revolution cosine and sine, from units of 10⁻⁸ m/s²
unfoldable pub strength : Float → Float → Float → SineCosine → Float
strength c a b u = decimal 1 8 ⊗ (c ⊕ a ⊗ u.cosine ⊕ b ⊗ u.sine)

unfoldable pub empirical_of : Vector → Vector → Float → List Float → Vector
empirical_of x v u e =
    let d = axes_of x v in
    let sc = sine_cosine u in
    plus (times d.radial (strength (get_or e 0 nan) (get_or e 1 nan) (get_or e 2 nan) sc))
    (plus (times d.along (strength (get_or e 3 nan) (get_or e 4 nan) (get_or e 5 nan) sc))
    (times d.across (strength (get_or e 6 nan) (get_or e 7 nan) (get_or e 8 nan) sc)))

-- point mass and J₂
unfoldable pub j2_of : Vector → Vector
j2_of x =
    let r2 = inner x x in
    let k = earth_gM ⊘ (r2 ⊗ sqrt binary64 r2) in
    let z2 = x.z ⊗ x.z ⊘ r2 in
    let j = decimal 15 1 ⊗ j2 ⊗ earth_radius ⊗ earth_radius ⊘ r2 in
    record {
      x = neg k ⊗ x.x ⊗ (one64 ⊕ j ⊗ (one64 ⊖ number 5 ⊗ z2));
      y = neg k ⊗ x.y ⊗ (one64 ⊕ j ⊗ (one64 ⊖ number 5 ⊗ z2));
      z = neg k ⊗ x.z ⊗ (one64 ⊕ j ⊗ (number 3 ⊖ number 5 ⊗ z2));
    }
