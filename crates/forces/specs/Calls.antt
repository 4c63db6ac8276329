-- What the public calls answer. Assumes nothing: definitions only.
use Rattle.std.specs.Prelude.{ℕ, ◌+◌, Bool, true, cond, ◌&&◌, List, [], length, take, drop, get_or, Float, Result, Ok, Err}
use Rattle.std.specs.Float.{nan}
use Rattle.std.specs.Float.Ieee.Scale.{finite}
use Rattle.fields.specs.Calls.{field_and, refusal_of}
use Rattle.std.specs.List.{list_all}
use Rattle.laws.specs.Checks.{is_time}
use Rattle.slices.specs.Calls.{Left, settled}
use Rattle.slices.specs.declared.refusal.Refusal.{Refusal}
use Rattle.slices.specs.declared.refusal.Refusal.TheVariants.{Value, NotFinite}
use Rattle.legendre.specs.Field.{size}
use Rattle.vectors.specs.declared.Vector.{Vector}
use Rattle.sun_moon.specs.SunMoon.{sun_moon}
use Rattle.solid_tide.specs.Tide.{solid_tide}
use Rattle.forces.specs.Forces.{gravity_by, third_body, tides_of, fictitious_of, empirical_of, j2_of}
use Rattle.sun_moon.specs.declared.SunMoon.{SunMoon}
use Rattle.solid_tide.specs.declared.SolidTide.{SolidTide}

unfoldable pub finite_vector : Vector → Bool
finite_vector v = finite v.x && (finite v.y && finite v.z)

-- ---- what is handed out of a value, by whether the arguments are fine, and whether it is finite

abbrev pub judged : {A : Type 0} → Bool → Bool → A → Result A Refusal
judged fine whole value = cond fine (cond whole (Ok value) (Err NotFinite)) (Err Value)

-- an acceleration
unfoldable pub answer : Bool → Vector → Result Vector Refusal
answer fine value = judged fine (finite_vector value) value

-- where the Sun and the Moon stand
abbrev pub places : Bool → SunMoon → Result SunMoon Refusal
places fine value = judged fine (finite_vector value.sun && finite_vector value.moon) value

abbrev pub tide_answer : Bool → SolidTide → Result SolidTide Refusal
tide_answer fine value = judged fine (list_all finite value.c && list_all finite value.s) value

-- ---- the calls

unfoldable pub sun_moon_call : Float → Result SunMoon Refusal
sun_moon_call t = places (is_time t) (sun_moon t)

unfoldable pub third_body_call : Vector → Vector → Float → Result Vector Refusal
third_body_call x body gm = answer (finite_vector x && (finite_vector body && finite gm)) (third_body x body gm)

unfoldable pub solid_tide_call : Vector → Vector → Result SolidTide Refusal
solid_tide_call sun moon = tide_answer (finite_vector sun && finite_vector moon) (solid_tide sun moon)

unfoldable pub tides_call : Float → Vector → Result Vector Refusal
tides_call t x = answer (is_time t && finite_vector x) (tides_of t x)

unfoldable pub fictitious_call : Vector → Vector → Result Vector Refusal
fictitious_call x v = answer (finite_vector x && finite_vector v) (fictitious_of x v)

unfoldable pub empirical_call : Vector → Vector → Float → List Float → Result Vector Refusal
empirical_call x v u e = answer ((finite_vector x && finite_vector v) && (finite u && list_all finite e)) (empirical_of x v u e)

unfoldable pub j2_call : Vector → Result Vector Refusal
j2_call x = answer (finite_vector x) (j2_of x)

-- ---- `gravity`, the one call with slices

-- of a field's list: GM, the radius, the cosine coefficients, the sine coefficients
unfoldable pub gravity_of_field : ℕ → List Float → List Float → List Float → Vector → Vector
gravity_of_field N field a b x =
    gravity_by N (get_or field 0 nan) (get_or field 1 nan) a b (take (size N) (drop 2 field)) (take (size N) (drop (2 + size N) field)) x

unfoldable pub values_fine : List Float → List Float → List Float → Vector → Bool
values_fine field a b x = list_all finite field && (list_all finite a && (list_all finite b && finite_vector x))

abbrev pub gravity_call : ℕ → List Float → List Float → List Float → Vector → List Float → Left (Result Vector Refusal)
gravity_call N field a b x scratch =
    settled (refusal_of N (field_and (size N) (length field) (length a) (length b) (length scratch)) (values_fine field a b x))
    (answer true (gravity_of_field N field a b x)) [] [] scratch
