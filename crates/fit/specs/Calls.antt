-- The public call `fit_orbit`: which refusal, the fit, what is left. Assumes nothing.
use Rattle.std.specs.Prelude.{ℕ, ◌+◌, cond, ◌&&◌, List, [], ◌∷◌, length, nat_le, Float, Ok, Err}
use Rattle.std.specs.Float.Ieee.Scale.{finite}
use Rattle.laws.specs.Checks.{rising, rising_seconds, degree_fine}
use Rattle.slices.specs.Calls.{Left, settled, Verdict, accepted}
use Rattle.slices.specs.declared.refusal.Refusal.TheVariants.{NotFinite}
use Rattle.inputs.specs.Inputs.{Model, Keyed, first_of, fields_fine, few, sizes_fit, states_fit, model_fine, rows_fine}
use Rattle.vectors.specs.declared.Vector.{Vector}
use Rattle.finality.specs.Brackets.{covers}
use Rattle.integrate.specs.declared.kernel.Arc.{Arc}
use Rattle.integrate.specs.Room.{flat}
use Rattle.integrate.specs.Force.{full_force}
use Rattle.integrate.specs.Calls.{out_fits, arc_fits}
use Rattle.fit.specs.Fit.{Fit, state_for, fit_of, orbit_of}

-- ---- which refusal

-- during the work: the fit's own, or an rms that is not finite
abbrev pub during : Fit → Fit
during (Ok x) = cond (finite x) (Ok x) (Err NotFinite)
during (Err e) = Err e

-- before the work
unfoldable pub refusal : Model → Keyed → Arc → ℕ → ℕ → Verdict
refusal M states arc out scratch =
    first_of (degree_fine M.fixed.degree) ((fields_fine (length M.fields.field_times) && nat_le arc.steps 5302) && few (length states.keys))
    (sizes_fit M scratch && (out_fits arc.steps out && states_fit (length states.keys) (length states.values)))
    (model_fine M && (arc_fits arc && rows_fine states)) (rising M.fields.field_times && rising_seconds states.keys) accepted

-- the rms and the states by a full attraction, or the refusal
abbrev pub fit_by : (Float → Vector → Vector) → Model → Keyed → Arc → List Float → List Float → Left Fit
fit_by full M states arc out scratch =
    let look = state_for states in
    settled (refusal M states arc (length out) (length scratch)) (during (fit_of (covers M.fields.field_times) full look arc))
    (flat (orbit_of full look arc) (arc.steps + 1) ∷ []) (out ∷ []) scratch

-- `fit_orbit`
unfoldable pub fit_call : Model → Keyed → Arc → List Float → List Float → Left Fit
fit_call M states arc out scratch = fit_by (full_force M) M states arc out scratch
