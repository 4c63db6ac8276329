-- Where the Sun and the Moon are: the low-precision series of Montenbruck and Gill (2000, §3.3.2), turned to Earth-fixed axes by Greenwich mean sidereal
-- time. Assumes nothing.
use Rattle.std.specs.Prelude.{ℕ, List, [], ◌∷◌, get_or, Float}
use Rattle.std.specs.Float.{nan}
use Rattle.std.specs.Float.Ieee.{neg}
use Rattle.laws.specs.Floats.{◌⊕◌, ◌⊖◌, ◌⊗◌, ◌⊘◌, zero64}
use Rattle.laws.specs.WholeNumbers.{number}
use Rattle.numbers.specs.Numbers.{sine, cosine, sine_cosine}
use Rattle.numbers.specs.declared.SineCosine.{SineCosine}
use Rattle.vectors.specs.declared.Vector.{Vector}
use Rattle.numbers.specs.Constants.{decimal, degree, arcsecond}
use Rattle.sun_moon.specs.declared.kernel.Arguments.{Arguments}
use Rattle.sun_moon.specs.declared.SunMoon.{SunMoon}

-- TT centuries past J2000 at GPS seconds t
unfoldable pub centuries : Float → Float
centuries t = (t ⊕ decimal 51184 3) ⊘ (number 36525 ⊗ number 86400)

-- ---- the Moon

-- L₀, l, l', F and D, T centuries past J2000
unfoldable pub arguments : Float → Arguments
arguments T = record {
  l0 = (decimal 21831617 5 ⊕ decimal 48126788088 5 ⊗ T ⊖ decimal 13972 4 ⊗ T) ⊗ degree;
  l = (decimal 13496292 5 ⊕ decimal 47719886753 5 ⊗ T) ⊗ degree;
  lp = (decimal 35752543 5 ⊕ decimal 3599904944 5 ⊗ T) ⊗ degree;
  f = (decimal 9327283 5 ⊕ decimal 48320201873 5 ⊗ T) ⊗ degree;
  d = (decimal 29785027 5 ⊕ decimal 44526711135 5 ⊗ T) ⊗ degree;
}

-- the whole numbers of the tables, with their signs
abbrev plus : ℕ → Float
plus n = number n

abbrev minus : ℕ → Float
minus n = neg (number n)

-- a term: its amplitude, and the multiples of l, l', F and D in its angle
abbrev pub term : Float → Float → Float → Float → Float → List Float
term amplitude l lp f d = amplitude ∷ l ∷ lp ∷ f ∷ d ∷ []

unfoldable pub angle : Arguments → List Float → Float
angle a r = get_or r 1 nan ⊗ a.l ⊕ get_or r 2 nan ⊗ a.lp ⊕ get_or r 3 nan ⊗ a.f ⊕ get_or r 4 nan ⊗ a.d

-- a start, and amplitude · wave (angle) of each term added in order
unfoldable pub series : (Float → Float) → Arguments → Float → List (List Float) → Float
series wave a start [] = start
series wave a start (r ∷ rs) = series wave a (start ⊕ get_or r 0 nan ⊗ wave (angle a r)) rs

-- arcseconds; the first term, 22640 · sin l, stands before the table
unfoldable pub longitude_terms : List (List Float)
longitude_terms =
    term (plus 769) (plus 2) (plus 0) (plus 0) (plus 0)
    ∷ term (minus 4586) (plus 1) (plus 0) (plus 0) (minus 2)
    ∷ term (plus 2370) (plus 0) (plus 0) (plus 0) (plus 2)
    ∷ term (minus 668) (plus 0) (plus 1) (plus 0) (plus 0)
    ∷ term (minus 412) (plus 0) (plus 0) (plus 2) (plus 0)
    ∷ term (minus 212) (plus 2) (plus 0) (plus 0) (minus 2)
    ∷ term (minus 206) (plus 1) (plus 1) (plus 0) (minus 2)
    ∷ term (plus 192) (plus 1) (plus 0) (plus 0) (plus 2)
    ∷ term (minus 165) (plus 0) (plus 1) (plus 0) (minus 2)
    ∷ term (plus 148) (plus 1) (minus 1) (plus 0) (plus 0)
    ∷ term (minus 125) (plus 0) (plus 0) (plus 0) (plus 1)
    ∷ term (minus 110) (plus 1) (plus 1) (plus 0) (plus 0)
    ∷ term (minus 55) (plus 0) (plus 0) (plus 2) (minus 2)
    ∷ []

unfoldable pub longitude : Arguments → Float
longitude a = a.l0 ⊕ series sine a (number 22640 ⊗ sine a.l) longitude_terms ⊗ arcsecond

-- arcseconds, after the first term
unfoldable pub latitude_terms : List (List Float)
latitude_terms =
    term (minus 526) (plus 0) (plus 0) (plus 1) (minus 2)
    ∷ term (plus 44) (plus 1) (plus 0) (plus 1) (minus 2)
    ∷ term (minus 31) (minus 1) (plus 0) (plus 1) (minus 2)
    ∷ term (minus 25) (minus 2) (plus 0) (plus 1) (plus 0)
    ∷ term (minus 23) (plus 0) (plus 1) (plus 1) (minus 2)
    ∷ term (plus 21) (minus 1) (plus 0) (plus 1) (plus 0)
    ∷ term (plus 11) (plus 0) (minus 1) (plus 1) (minus 2)
    ∷ []

-- at the ecliptic longitude λ
unfoldable pub latitude : Arguments → Float → Float
latitude a lambda =
    let inner = (number 412 ⊗ sine (number 2 ⊗ a.f) ⊕ number 541 ⊗ sine a.lp) ⊗ arcsecond in
    series sine a (number 18520 ⊗ sine (a.f ⊕ lambda ⊖ a.l0 ⊕ inner)) latitude_terms ⊗ arcsecond

-- kilometres, after 385000
unfoldable pub distance_terms : List (List Float)
distance_terms =
    term (minus 20905) (plus 1) (plus 0) (plus 0) (plus 0)
    ∷ term (minus 3699) (minus 1) (plus 0) (plus 0) (plus 2)
    ∷ term (minus 2956) (plus 0) (plus 0) (plus 0) (plus 2)
    ∷ term (minus 570) (plus 2) (plus 0) (plus 0) (plus 0)
    ∷ term (plus 246) (plus 2) (plus 0) (plus 0) (minus 2)
    ∷ term (minus 205) (plus 0) (plus 1) (plus 0) (minus 2)
    ∷ term (minus 171) (plus 1) (plus 0) (plus 0) (plus 2)
    ∷ term (minus 152) (plus 1) (plus 1) (plus 0) (minus 2)
    ∷ []

unfoldable pub distance : Arguments → Float
distance a = series cosine a (number 385000) distance_terms ⊗ number 1000

-- ---- axes

-- the obliquity of the ecliptic
abbrev pub obliquity : Float
obliquity = decimal 2343929111 8 ⊗ degree

-- from ecliptic longitude λ, latitude β and distance r to equatorial axes
unfoldable pub equatorial : Float → Float → Float → Vector
equatorial lambda beta r =
    let y = r ⊗ sine lambda ⊗ cosine beta in
    let z = r ⊗ sine beta in
    record {
      x = r ⊗ cosine lambda ⊗ cosine beta;
      y = y ⊗ cosine obliquity ⊖ z ⊗ sine obliquity;
      z = y ⊗ sine obliquity ⊕ z ⊗ cosine obliquity;
    }

-- Greenwich mean sidereal time at GPS seconds t, UT1 taken as UTC: 5 leap seconds since 2000
unfoldable pub sidereal : Float → Float
sidereal t = (decimal 28046061837 8 ⊕ decimal 36098564736629 11 ⊗ ((t ⊖ number 5) ⊘ number 86400)) ⊗ degree

-- the axes turned by an angle
unfoldable pub turned : Vector → SineCosine → Vector
turned v g = record {
  x = g.cosine ⊗ v.x ⊕ g.sine ⊗ v.y;
  y = neg g.sine ⊗ v.x ⊕ g.cosine ⊗ v.y;
  z = v.z;
}

-- ---- both

-- the mean anomaly M
unfoldable pub sun_anomaly : Float → Float
sun_anomaly T = (decimal 3575256 4 ⊕ decimal 35999049 3 ⊗ T) ⊗ degree

unfoldable pub sun : Float → Vector
sun T =
    let M = sun_anomaly T in
    equatorial
    (decimal 28294 2 ⊗ degree ⊕ M ⊕ (number 6892 ⊗ sine M ⊕ number 72 ⊗ sine (number 2 ⊗ M)) ⊗ arcsecond)
    zero64
    ((decimal 149619 3 ⊖ decimal 2499 3 ⊗ cosine M ⊖ decimal 21 3 ⊗ cosine (number 2 ⊗ M)) ⊗ number 1000000000)

unfoldable pub moon : Float → Vector
moon T = let a = arguments T in equatorial (longitude a) (latitude a (longitude a)) (distance a)

-- metres, Earth-fixed, at GPS seconds t
unfoldable pub sun_moon : Float → SunMoon
sun_moon t = record {
  sun = turned (sun (centuries t)) (sine_cosine (sidereal t));
  moon = turned (moon (centuries t)) (sine_cosine (sidereal t));
}
