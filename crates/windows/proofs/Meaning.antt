-- The code's full attraction and look-up of states are those of the stage: the gravity of the field at a time, and the first row at a whole second. Assumes nothing.
use Rattle.std.proofs.Common.{◌≡◌, ℕ, ◌+◌, true, List, ◌++◌, length, take, drop, ℤ, sym, ap, ◌∙◌, take_at, drop_at}
use lib.Ieee.{Float}
use Rattle.inputs.specs.Inputs.{Model, kind, Fixed, Keyed}
use Rattle.laws.specs.Tables.{rows}
use Rattle.numbers.specs.Seconds.{is_held, whole_second}
use Rattle.vectors.specs.Vector.{plus}
use Rattle.vectors.specs.declared.Vector.{Vector}
use Rattle.legendre.specs.Legendre.{a_of, b_of}
use Rattle.solid_tide.specs.Gravity.{gravity_of}
use Rattle.forces.specs.Forces.{gravity_by, tides_of}
use Rattle.forces.proofs.Published.{lent_gravity}
use Rattle.model.specs.Field.{gm, radius, cosines, sines}
use Rattle.model.specs.Model.{kind_at, field_at}
use Rattle.model.proofs.Checks.{kind_long}
use Rattle.integrate.specs.Force.{gravity_at, full_force}
use Rattle.integrate.proofs.Published.{Sized, gravity_lent_law}
use Rattle.integrate.specs.RowsBySecond.{states_in}
use Rattle.finality.specs.Tables.{find}
use Rattle.fit.specs.Fit.{state_for}
use Rattle.windows.specs.Stage.{field_gravity, full_of, look_of}

-- ---- the gravity of a field

-- both kinds apart
field_kinds : (S : Fixed) (c s : List Float) → length c ≡ kind S.degree → gravity_by S.degree (gm S.static) (radius S.static) S.a S.b c s ≡ field_gravity S (c ++ s)
unfolding field_gravity
field_kinds S c s long =
    λ i. gravity_by S.degree (gm S.static) (radius S.static) S.a S.b (sym (take_at c s (kind S.degree) long) i) (sym (drop_at c s (kind S.degree) long) i)

-- the stage's gravity of the field at t is that of a run and of an epoch
pub gravity_is : (M : Model) → Sized M → (t : Float) (x : Vector) → gravity_at M t x ≡ field_gravity M.fixed (field_at M t) x
gravity_is M sized t x =
    let N : ℕ = M.fixed.degree in
    let c : List Float = kind_at cosines M t in
    let s : List Float = kind_at (sines N) M t in
    gravity_lent_law M sized t x
    ∙ ap (λ (gravity : Vector → Vector). gravity x) (field_kinds M.fixed c s (kind_long cosines M t))

pub full_is : (M : Model) → Sized M → (t : Float) (x : Vector) → full_force M t x ≡ full_of M.fixed (field_at M) t x
unfolding full_force
full_is M sized t x = ap (λ (g : Vector). plus g (tides_of t x)) (gravity_is M sized t x)

-- the gravity of the published series of a field of both kinds
abbrev pub published_gravity : ℕ → List Float → List Float → Vector → Vector
published_gravity N static field x = gravity_of N (gm static) (radius static) (take (kind N) field) (drop (kind N) field) x

-- with the Legendre tables that `Legendre::new` fills the stage's gravity is that
pub stage_published : (N : ℕ) (static field : List Float) (x : Vector) →
    field_gravity (record { degree = N; static = static; a = rows a_of (N + 1); b = rows b_of (N + 1) }) field x ≡ published_gravity N static field x
unfolding field_gravity
stage_published N static field x = lent_gravity N (gm static) (radius static) (take (kind N) field) (drop (kind N) field) x

-- ---- the look-up of states

pub look_is : (l : Keyed) (t : Float) → is_held t ≡ true → state_for l t ≡ look_of (λ (k : ℤ). find k (states_in l)) t
unfolding state_for whole_second
look_is l t e = rw e
