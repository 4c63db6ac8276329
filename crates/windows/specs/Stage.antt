-- The fit of one arc as a stage of crate `finality` (document 01, module 4): from covered times, the field at a time and the look-up of states, for a degree,
-- a static field and Legendre tables, which are fixed for a call and no part of a submission's lists. Assumes nothing.
use Rattle.std.specs.Prelude.{ℕ, suc, cond, List, [], take, drop, ℤ, nat_le, Float, Err, Ok}
use Rattle.std.specs.Prelude.{Option}
use Rattle.inputs.specs.Inputs.{Fixed, kind}
use Rattle.laws.specs.Tables.{row}
use Rattle.laws.specs.Times.{second}
use Rattle.finality.specs.Arcs.{Arc, Fit}
use Rattle.vectors.specs.declared.Vector.{Vector}
use Rattle.forces.specs.Forces.{gravity_by}
use Rattle.model.specs.Field.{gm, radius}
use Rattle.integrate.specs.Force.{full_by}
use Rattle.integrate.specs.Room.{Run}
use Rattle.integrate.specs.declared.kernel.State.{State}
use Rattle.integrate.specs.declared.kernel.Arc.{Arc as ArcStruct}
use Rattle.fit.specs.Fit.{Fit as Fitted, fit_of, orbit_of}

-- the gravity of a field of both kinds of coefficients, cosines and then sines, from the lent tables
unfoldable pub field_gravity : Fixed → List Float → Vector → Vector
field_gravity S field x =
    gravity_by S.degree (gm S.static) (radius S.static) S.a S.b (take (kind S.degree) field) (drop (kind S.degree) field) x

-- ---- the fit of an arc (module 4)

-- with the tides: the full attraction, from a field's gravity and the field as a function of the time
abbrev pub full_from : (List Float → Vector → Vector) → (Float → List Float) → Float → Vector → Vector
full_from gravity at = full_by (λ t x. gravity (at t) x)

abbrev pub full_of : Fixed → (Float → List Float) → Float → Vector → Vector
full_of S = full_from (field_gravity S)

abbrev pub arc_struct : Arc → ArcStruct
arc_struct arc = record { t0 = arc.t0; steps = arc.steps; node = arc.node; period = arc.period }

-- the state at the whole second of a time
abbrev pub look_of : (ℤ → Option State) → Float → Option State
look_of look t = look (second t)

-- the states of an orbit, one a step, where its fit is not refused
abbrev pub states_of : Fitted → Run → ℕ → List State
states_of (Ok rms) run steps = row run (suc steps)
states_of (Err n) run steps = []

-- an arc of more than 5,302 steps has no fit; no window gives one
unfoldable pub fit_from : (List Float → Vector → Vector) → Fit (List Float) State
fit_from gravity covered at look arc =
    let full = full_from gravity at in
    cond (nat_le arc.steps 5302)
    (states_of (fit_of covered full (look_of look) (arc_struct arc)) (orbit_of full (look_of look) (arc_struct arc)) arc.steps)
    []

abbrev pub fit_stage : Fixed → Fit (List Float) State
fit_stage S = fit_from (field_gravity S)
