-- The published series: with the Legendre tables that `Legendre::new` fills, `fitted_orbits` answers and leaves what it does over the published series of the field at each time. Assumes nothing.
use mathlib.Core.Path.{◌≡◌, refl}
use mathlib.Core.Bool.{◌&&◌}
use mathlib.Core.List.{List}
use Prim.Native.Nat.{ℕ, ◌-◌, ◌*◌}
use lib.Dec.{leb, eqb}
use lib.Ieee.{Float}
use lib.ListN.{length}
use borrow.Author.Tests.{leb-true}
use Rattle.laws.specs.Bools.{both_true}
use Rattle.slices.specs.Calls.{Verdict, accepted}
use Rattle.std.specs.List.{list_all}
use Rattle.laws.specs.Checks.{is_time, rising, rising_seconds, degree_fine}
use Rattle.inputs.specs.Inputs.{fields_fine, few, model_sized, model_fine, rows_fine}
use Rattle.inputs.proofs.Passed.{all_pass, degree_passes, model_passes}
use Rattle.vectors.specs.declared.Vector.{Vector}
use Rattle.integrate.specs.Force.{full_by, full_force}
use Rattle.integrate.proofs.Published.{Sized, Published, published_at, full_published, by_acceptance}
use Rattle.fitted_orbits.specs.Calls.{Given, Outputs, lengths_fit, refusal, windows_by, fitted_windows, settled, orbits_from, orbits_call}

-- acceptance gives the lengths
accepted_sized : (g : Given) (o : Outputs) (scratch : ℕ) → refusal g (lengths_fit g o scratch) ≡ accepted → Sized g.model
unfolding refusal
accepted_sized g o scratch h =
    let n : ℕ = length g.model.fields.field_times in
    let p = all_pass (degree_fine g.model.fixed.degree) ((fields_fine n && few (length g.states.keys)) && leb (length g.nodes) 64) (lengths_fit g o scratch)
    (model_fine g.model && (rows_fine g.states && list_all is_time g.nodes))
    (rising g.model.fields.field_times && (rising_seconds g.states.keys && rising g.nodes)) accepted h in
    let q = (both_true (model_sized g.model && eqb (length g.states.values) (6 * length g.states.keys)) _ p.lengths).0 in
    let s = (both_true (model_sized g.model) (eqb (length g.states.values) (6 * length g.states.keys)) q).0 in
    let l = model_passes g.model.fixed.degree n (length g.model.fixed.static) (length g.model.fields.added) (length g.model.fixed.a) (length g.model.fixed.b) s in
    let f = (both_true (fields_fine n) (few (length g.states.keys)) (both_true (fields_fine n && few (length g.states.keys)) (leb (length g.nodes) 64) p.counts).0).0 in
    record { degree = degree_passes g.model.fixed.degree p.degree; static = l.static; fields = leb-true 2 n (both_true (leb 2 n) (leb n 32) f).0; added = l.added; a = l.a; b = l.b }

pub orbits_published : (g : Given) → Published g.model → (o : Outputs) (scratch : List Float) →
    orbits_call g o scratch ≡ orbits_from (windows_by (full_by (published_at g.model)) g) g o scratch
unfolding fitted_windows
orbits_published g tables o scratch =
    by_acceptance (λ (v : Verdict) (full : Float → Vector → Vector). settled v (length g.nodes - 1) (windows_by full g) o scratch)
    (refusal g (lengths_fit g o (length scratch))) (full_force g.model) (full_by (published_at g.model)) (λ k. refl)
    (λ h. full_published g.model (accepted_sized g o (length scratch) h) tables)
