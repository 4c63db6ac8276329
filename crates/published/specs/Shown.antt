-- What is shown of the engine's answers beside the published values; a refusal stays one. Assumes nothing.
use Rattle.std.specs.Float.{nan}
use Rattle.std.specs.Prelude.{slice_index_or, Float}
use Rattle.laws.specs.Floats.{◌⊕◌, ◌⊗◌, ◌⊘◌, bits}
use Rattle.vectors.specs.Vector.{plus, minus, norm, cross}
use Rattle.vectors.specs.declared.Vector.{Vector}
use Rattle.std.specs.Prelude.{Result, Ok, Err}
use Rattle.slices.specs.declared.refusal.Refusal.{Refusal}
use Rattle.sun_moon.specs.declared.SunMoon.{SunMoon}
use Rattle.solid_tide.specs.declared.SolidTide.{SolidTide}
use Rattle.forces.specs.Calls.{solid_tide_call}

-- |a + b|, as gravity and the force of the Earth's rotation
abbrev pub magnitude_of_sum : Result Vector Refusal → Result Vector Refusal → Result Float Refusal
magnitude_of_sum (Ok v) (Ok w) = Ok (norm (plus v w))
magnitude_of_sum (Ok v) (Err n) = Err n
magnitude_of_sum (Err n) b = Err n

-- how far the line through the Sun and the Moon passes from the Earth's centre, in radii of 6,378,137 m: |m × d| / |d| with d = m − s
abbrev pub axis_distance : Vector → Vector → Float
axis_distance sun moon = norm (cross moon (minus moon sun)) ⊘ norm (minus moon sun) ⊘ bits 0x4158_54a6_4000_0000

abbrev pub gamma_of : Result SunMoon Refusal → Result Float Refusal
gamma_of (Ok p) = Ok (axis_distance p.sun p.moon)
gamma_of (Err n) = Err n

-- in 10⁹ m
abbrev pub sun_distance_of : Result SunMoon Refusal → Result Float Refusal
sun_distance_of (Ok p) = Ok (norm p.sun ⊘ bits 0x41cd_cd65_0000_0000)
sun_distance_of (Err n) = Err n

-- a tide's C(2, 0), which stands at 3
abbrev pub tide_c20 : Result SolidTide Refusal → Result Float Refusal
tide_c20 (Ok t) = Ok (slice_index_or t.c 3 nan)
tide_c20 (Err n) = Err n

abbrev pub c20_of : Result SunMoon Refusal → Result Float Refusal
c20_of (Ok p) = tide_c20 (solid_tide_call p.sun p.moon)
c20_of (Err n) = Err n

-- a sum, refused where one of the two is
abbrev pub plus_of : Result Float Refusal → Result Float Refusal → Result Float Refusal
plus_of (Ok x) (Ok y) = Ok (x ⊕ y)
plus_of (Ok x) (Err n) = Err n
plus_of (Err n) b = Err n

abbrev pub times_of : Result Float Refusal → Float → Result Float Refusal
times_of (Ok x) k = Ok (x ⊗ k)
times_of (Err n) k = Err n
