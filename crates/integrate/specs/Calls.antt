-- The public call `integrate` (document 01, "Outcomes" and "Bounds"): which refusal, the work, what is left. It never answers 6: at an uncovered time the
-- model goes on by its first or its last but one bracket. Assumes nothing.
use Rattle.std.specs.Prelude.{ℕ, ◌+◌, ◌*◌, Bool, ◌&&◌, List, [], ◌∷◌, length, ◌==◌, nat_le, Float}
use Rattle.std.specs.Float.Ieee.{le, neg}
use Rattle.std.specs.Float.Ieee.Scale.{finite}
use Rattle.vectors.specs.declared.Vector.{Vector}
use Rattle.std.specs.List.{list_all}
use Rattle.laws.specs.Checks.{is_time, rising, latest, degree_fine}
use Rattle.slices.specs.Calls.{Verdict, accepted, Left, settled}
use Rattle.inputs.specs.Inputs.{Model, first_of, fields_fine, sizes_fit, model_fine}
use Rattle.integrate.specs.declared.kernel.Arc.{Arc}
use Rattle.integrate.specs.declared.kernel.Force.{Force}
use Rattle.integrate.specs.Room.{flat}
use Rattle.integrate.specs.Force.{attraction_of, run_of}

-- a start: from −2^31 to 2^31
unfoldable pub is_start : Float → Bool
is_start t = le (neg latest) t && le t latest

-- six numbers for each state of so many steps, judged where these are within their bound
unfoldable pub out_fits : ℕ → ℕ → Bool
out_fits steps out = nat_le steps 5302 && out == 6 * (steps + 1)

-- an arc's times: its start, its node and its period
unfoldable pub arc_fits : Arc → Bool
arc_fits arc = is_start arc.t0 && is_time arc.node && finite arc.period

-- which of the first five refusals the arguments call for
unfoldable pub refusal : Model → Arc → List Float → ℕ → ℕ → Verdict
refusal M arc p out scratch =
    first_of (degree_fine M.fixed.degree) (fields_fine (length M.fields.field_times) && nat_le arc.steps 5302)
    (sizes_fit M scratch && out_fits arc.steps out)
    (model_fine M && (arc_fits arc && list_all finite p)) (rising M.fields.field_times) accepted

-- the states of the run under an attraction, or the refusal
abbrev pub integrate_by : (Float → Vector → Vector) → Model → Arc → List Float → List Float → List Float → Left Verdict
integrate_by pull M arc p out scratch =
    settled (refusal M arc p (length out) (length scratch)) accepted
    (flat (run_of pull arc p) (arc.steps + 1) ∷ []) (out ∷ []) scratch

-- `integrate`
unfoldable pub integrate_call : Force → Model → Arc → List Float → List Float → List Float → Left Verdict
integrate_call force M arc p out scratch = integrate_by (attraction_of force M) M arc p out scratch
