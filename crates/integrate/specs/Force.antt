-- The force that a run integrates (document 01, module 4; the closure of the source's `fit_orbit`): the attraction, by the full model with tides or by point
-- mass and J₂, then the fictitious and the empirical accelerations. Assumes nothing.
use Rattle.std.specs.Prelude.{ℕ, ◌+◌, ◌*◌, Bool, cond, ◌&&◌, List, nat_le, slice_index_or, Float}
use Rattle.std.specs.Float.{nan}
use Rattle.inputs.specs.Inputs.{Model, kind, front_size}
use Rattle.laws.specs.Loops.{cleared}
use Rattle.laws.specs.Tables.{row}
use Rattle.numbers.specs.Constants.{angle_from}
use Rattle.vectors.specs.Vector.{plus}
use Rattle.vectors.specs.declared.Vector.{Vector}
use Rattle.forces.specs.Forces.{gravity_lent, j2_of, fictitious_of, empirical_of, tides_of}
use Rattle.model.specs.Field.{gm, radius, cosines, sines}
use Rattle.model.specs.Model.{kind_at}
use Rattle.model.specs.Calls.{sized}
use Rattle.integrate.specs.Steps.{Acceleration, state_at}
use Rattle.integrate.specs.Room.{run_size, Run, state_in}
use Rattle.integrate.specs.declared.kernel.Arc.{Arc}
use Rattle.integrate.specs.declared.kernel.Force.{Force}
use Rattle.integrate.specs.declared.kernel.Force.TheVariants.{Full, J2}

-- the coefficients of one kind of the field at t, covered or not; all +0.0 where the model's lists are not those of its degree
unfoldable pub coefficients_at : ℕ → Model → Float → List Float
coefficients_at k M t =
    let c = kind_at k M t in
    cond (sized M (2 * kind M.fixed.degree)) c (cleared c)

-- the gravity of the field at t: with the Legendre tables that `Legendre::new` fills, that of the published series (proofs/Published)
unfoldable pub gravity_at : Model → Float → Vector → Vector
gravity_at M t x =
    gravity_lent M.fixed.degree (gm M.fixed.static) (radius M.fixed.static) M.fixed.a M.fixed.b (coefficients_at cosines M t)
    (coefficients_at (sines M.fixed.degree) M t) x

-- with the tides: the full attraction, the field's gravity being a function of the time and the place
abbrev pub full_by : (Float → Vector → Vector) → Float → Vector → Vector
full_by gravity t x = plus (gravity t x) (tides_of t x)

unfoldable pub full_force : Model → Float → Vector → Vector
full_force M t x = full_by (gravity_at M) t x

-- the force chosen: the full attraction, or point mass and J₂
abbrev pub attraction_by : Force → (Float → Vector → Vector) → Float → Vector → Vector
attraction_by Full full t x = full t x
attraction_by J2 full t x = j2_of x

unfoldable pub attraction_of : Force → Model → Float → Vector → Vector
attraction_of force M t x = attraction_by force (full_force M) t x

-- the angle from the node at a time
unfoldable pub argument_of : Arc → Float → Float
argument_of arc t = angle_from arc.node arc.period t

-- with nine empirical parameters e
unfoldable pub acceleration_of : (Float → Vector → Vector) → Arc → List Float → Acceleration
acceleration_of pull arc e t x v = plus (pull t x) (plus (fictitious_of x v) (empirical_of x v (argument_of arc t) e))

-- ---- a run of fifteen parameters: position, velocity, nine empirical parameters

unfoldable pub strengths_of : List Float → List Float
strengths_of p = row (λ (i : ℕ). slice_index_or p (6 + i) nan) 9

unfoldable pub run_of : (Float → Vector → Vector) → Arc → List Float → Run
run_of pull arc p = state_at (acceleration_of pull arc (strengths_of p)) arc.t0 (state_in p 0)

-- the degree and the steps are within their bounds, and there is room for the states behind the numbers before them
unfoldable pub run_fits : ℕ → ℕ → ℕ → Bool
run_fits N steps room = nat_le N 180 && nat_le steps 5302 && nat_le (front_size N + run_size) room
