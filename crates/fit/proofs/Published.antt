-- The published series: with the Legendre tables that `Legendre::new` fills, `fit_orbit` answers and leaves what it does over the published series of the field at each time. Assumes nothing.
use Rattle.std.proofs.Common.{◌≡◌, ℕ, ◌+◌, ◌&&◌, leb, List, [], ◌∷◌, length, refl, leb-true}
use lib.Ieee.{Float}
use Rattle.laws.specs.Bools.{both_true}
use Rattle.laws.specs.Checks.{rising, rising_seconds, degree_fine}
use Rattle.slices.specs.Calls.{settled, Verdict, accepted}
use Rattle.inputs.specs.Inputs.{Model, fields_fine, few, sizes_fit, states_fit, model_fine, rows_fine, Keyed}
use Rattle.inputs.proofs.Passed.{all_pass, degree_passes, sizes_pass}
use Rattle.vectors.specs.declared.Vector.{Vector}
use Rattle.finality.specs.Brackets.{covers}
use Rattle.integrate.specs.declared.kernel.Arc.{Arc}
use Rattle.integrate.specs.Room.{flat}
use Rattle.integrate.specs.Force.{full_by, full_force}
use Rattle.integrate.specs.Calls.{out_fits, arc_fits}
use Rattle.integrate.proofs.Published.{Sized, Published, published_at, full_published, by_acceptance}
use Rattle.fit.specs.Fit.{state_for, fit_of, orbit_of}
use Rattle.fit.specs.Calls.{during, refusal, fit_by, fit_call}

-- acceptance gives the lengths
accepted_sized : (M : Model) (states : Keyed) (arc : Arc) (out scratch : ℕ) → refusal M states arc out scratch ≡ accepted → Sized M
unfolding refusal
accepted_sized M states arc out scratch h =
    let n : ℕ = length M.fields.field_times in
    let p = all_pass (degree_fine M.fixed.degree) ((fields_fine n && leb arc.steps 5302) && few (length states.keys))
    (sizes_fit M scratch && (out_fits arc.steps out && states_fit (length states.keys) (length states.values)))
    (model_fine M && (arc_fits arc && rows_fine states)) (rising M.fields.field_times && rising_seconds states.keys) accepted h in
    let l = sizes_pass M scratch (both_true (sizes_fit M scratch) (out_fits arc.steps out && states_fit (length states.keys) (length states.values)) p.lengths).0 in
    let f = (both_true (fields_fine n) (leb arc.steps 5302) (both_true (fields_fine n && leb arc.steps 5302) (few (length states.keys)) p.counts).0).0 in
    record { degree = degree_passes M.fixed.degree p.degree; static = l.static; fields = leb-true 2 n (both_true (leb 2 n) (leb n 32) f).0; added = l.added; a = l.a; b = l.b }

pub fit_published : (M : Model) → Published M → (states : Keyed) (arc : Arc) (out scratch : List Float) →
    fit_call M states arc out scratch ≡ fit_by (full_by (published_at M)) M states arc out scratch
unfolding fit_call
fit_published M tables states arc out scratch =
    by_acceptance (λ (v : Verdict) (full : Float → Vector → Vector).
    settled v (during (fit_of (covers M.fields.field_times) full (state_for states) arc))
    (flat (orbit_of full (state_for states) arc) (arc.steps + 1) ∷ []) (out ∷ []) scratch)
    (refusal M states arc (length out) (length scratch)) (full_force M) (full_by (published_at M)) (λ k. refl)
    (λ h. full_published M (accepted_sized M states arc (length out) (length scratch) h) tables)
