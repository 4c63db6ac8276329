-- Decimal constants over binary64, angles, and the constants that the forces share. Assumes nothing.
use Rattle.std.specs.Prelude.{ℕ, ◌*◌, ◌^◌, false, Float}
use Rattle.std.specs.Float.{binary64}
use Rattle.std.specs.Float.Ieee.{round}
use Rattle.laws.specs.Floats.{◌⊖◌, ◌⊗◌, ◌⊘◌, two64}
use Rattle.laws.specs.WholeNumbers.{number}
use Rattle.numbers.specs.Numbers.{π}

-- the double nearest n / 10 ^ k
abbrev pub decimal : ℕ → ℕ → Float
decimal n k = round binary64 false n (10 ^ k)

-- a degree and an arcsecond, radians
abbrev pub degree : Float
degree = π ⊘ number 180

abbrev pub arcsecond : Float
arcsecond = π ⊘ (number 180 ⊗ number 3600)

-- the angle at t in a revolution that begins at `start`
abbrev pub angle_from : Float → Float → Float → Float
angle_from start period t = two64 ⊗ π ⊗ (t ⊖ start) ⊘ period

-- GM of the Earth, the Sun and the Moon, m³/s²; the Earth's radius, m; its rate of rotation, rad/s; J₂
abbrev pub earth_gM : Float
earth_gM = number (3986004418 * 10 ^ 5)

abbrev pub sun_gM : Float
sun_gM = number (132712440018 * 10 ^ 9)

abbrev pub moon_gM : Float
moon_gM = number (49028001 * 10 ^ 5)

abbrev pub earth_radius : Float
earth_radius = decimal 63781363 1

abbrev pub rotation : Float
rotation = decimal 7292115 11

abbrev pub j2 : Float
j2 = decimal 10826267 10
