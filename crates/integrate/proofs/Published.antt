-- The published series: with the Legendre tables that `Legendre::new` fills, the gravity of a run and of an epoch is that of the published series of the field at each time
-- (`gravity_of` of crate `solid_tide`: fully normalised functions of Holmes and Featherstone 2002), and `integrate` answers and leaves what it does over that series. Assumes nothing.
use Rattle.std.proofs.Common.{Ok, Err, ◌≡◌, ℕ, ◌+◌, ◌*◌, ◌/◌, ◌<◌, ◌≤◌, true, ◌&&◌, leb, List, [], ◌∷◌, length, refl, ap, ◌∙◌, mul-div_cancel, arith, eq-eqb, le-leb, leb-true}
use lib.Ieee.{Float}
use lib.Ieee.Scale.{finite}
use Rattle.laws.specs.Bools.{both_true}
use Rattle.std.specs.List.{list_all}
use Rattle.laws.specs.Checks.{rising, degree_fine}
use Rattle.laws.specs.Tables.{rows}
use Rattle.vectors.specs.declared.Vector.{Vector}
use Rattle.legendre.specs.Legendre.{a_of, b_of}
use Rattle.solid_tide.specs.Gravity.{gravity_of}
use Rattle.forces.specs.Forces.{gravity_by, gravity_lent}
use Rattle.forces.proofs.Published.{lent_gravity}
use Rattle.model.specs.Field.{gm, radius, cosines, sines}
use Rattle.model.specs.Model.{kind_at}
use Rattle.model.specs.Calls.{at_fits, sized as fits_for}
use Rattle.slices.specs.Calls.{Verdict, accepted, settled}
use Rattle.slices.specs.declared.refusal.Refusal.{Refusal}
use Rattle.inputs.specs.Inputs.{Model, kind, field_size, fields_fine, sizes_fit, model_fine}
use Rattle.inputs.proofs.Passed.{all_pass, degree_passes, sizes_pass}
use Rattle.integrate.specs.declared.kernel.Arc.{Arc}
use Rattle.integrate.specs.declared.kernel.Force.{Force}
use Rattle.integrate.specs.Room.{flat}
use Rattle.integrate.specs.Force.{coefficients_at, gravity_at, full_by, full_force, attraction_by, attraction_of, run_of}
use Rattle.integrate.specs.Calls.{out_fits, arc_fits, refusal, integrate_by, integrate_call}

-- the lengths of an accepted model: a degree up to 180, two or more added fields, each of the static field's length, Legendre tables of the degree
pub record Sized (M : Model) : Type 0 where
  pub degree : M.fixed.degree ≤ 180
  pub static : length M.fixed.static ≡ field_size M.fixed.degree
  pub fields : 2 ≤ length M.fields.field_times
  pub added : length M.fields.added ≡ length M.fields.field_times * field_size M.fixed.degree
  pub a : length M.fixed.a ≡ kind M.fixed.degree
  pub b : length M.fixed.b ≡ kind M.fixed.degree

-- the Legendre tables are those that `Legendre::new` fills
pub record Published (M : Model) : Type 0 where
  pub a : M.fixed.a ≡ rows a_of (M.fixed.degree + 1)
  pub b : M.fixed.b ≡ rows b_of (M.fixed.degree + 1)

-- the gravity of the published series of the field at t: the static field and the added ones, blended
abbrev pub published_at : Model → Float → Vector → Vector
published_at M t x =
    gravity_of M.fixed.degree (gm M.fixed.static) (radius M.fixed.static) (kind_at cosines M t)
    (kind_at (sines M.fixed.degree) M t) x

-- ---- the gravity

module _ (M : Model) (sized : Sized M) where
  -- as the model's kernel tests the lengths
  sized_fits : fits_for M (2 * kind M.fixed.degree) ≡ true
  unfolding at_fits
  sized_fits =
      let N : ℕ = M.fixed.degree in
      let n : ℕ = length M.fields.field_times in
      let pos : 0 < field_size N = omega arith in
      let q : length M.fields.added / field_size N ≡ n = ap (λ (i : ℕ). i / field_size N) sized.added ∙ mul-div_cancel n pos in
      rw (
        le-leb N 180 sized.degree,
        eq-eqb (length M.fixed.static) (field_size N) sized.static,
        le-leb 2 n sized.fields,
        le-leb n (length M.fields.added / field_size N) (omega (arith, q)),
        le-leb (2 * kind N) (2 * kind N) (omega arith),
      ) refl

  -- the series over the lent tables, of the field at t
  pub gravity_lent_law : (t : Float) (x : Vector) →
      gravity_at M t x ≡ gravity_by M.fixed.degree (gm M.fixed.static) (radius M.fixed.static) M.fixed.a M.fixed.b (kind_at cosines M t)
      (kind_at (sines M.fixed.degree) M t) x
  unfolding gravity_at gravity_lent coefficients_at
  gravity_lent_law t x =
      let N : ℕ = M.fixed.degree in
      simp (sized_fits, le-leb N 180 sized.degree, eq-eqb (length M.fixed.a) (kind N) sized.a, eq-eqb (length M.fixed.b) (kind N) sized.b)

  module _ (tables : Published M) where
    -- the gravity that a run and an epoch take
    pub gravity_published : (t : Float) (x : Vector) → gravity_at M t x ≡ published_at M t x
    gravity_published t x =
        let N : ℕ = M.fixed.degree in
        gravity_lent_law t x
        ∙ (λ i. gravity_by N (gm M.fixed.static) (radius M.fixed.static) (tables.a i) (tables.b i) (kind_at cosines M t) (kind_at (sines N) M t) x)
        ∙ lent_gravity N (gm M.fixed.static) (radius M.fixed.static) (kind_at cosines M t) (kind_at (sines N) M t) x

    -- the full force, which `integrate` and the fits take
    pub full_published : full_force M ≡ full_by (published_at M)
    unfolding full_force
    full_published = λ i t x. full_by (λ u y. gravity_published u y i) t x

-- ---- the call

-- acceptance gives the lengths
pub accepted_sized : (M : Model) (arc : Arc) (p : List Float) (out scratch : ℕ) → refusal M arc p out scratch ≡ accepted → Sized M
unfolding refusal
accepted_sized M arc q out scratch h =
    let n : ℕ = length M.fields.field_times in
    let p = all_pass (degree_fine M.fixed.degree) (fields_fine n && leb arc.steps 5302) (sizes_fit M scratch && out_fits arc.steps out) (model_fine M && (arc_fits arc && list_all finite q))
    (rising M.fields.field_times) accepted h in
    let l = sizes_pass M scratch (both_true (sizes_fit M scratch) (out_fits arc.steps out) p.lengths).0 in
    let f = (both_true (fields_fine n) (leb arc.steps 5302) p.counts).0 in
    record { degree = degree_passes M.fixed.degree p.degree; static = l.static; fields = leb-true 2 n (both_true (leb 2 n) (leb n 32) f).0; added = l.added; a = l.a; b = l.b }

-- what a call leaves depends on x only where nothing is refused
pub by_acceptance : {A X : Type 0} (call : Verdict → X → A) (v : Verdict) (x y : X) → ((e : Refusal) → call (Err e) x ≡ call (Err e) y) → (v ≡ accepted → x ≡ y) → call v x ≡ call v y
by_acceptance call (Ok u) x y other same = ap (call (Ok u)) (same refl)
by_acceptance call (Err e) x y other same = other e

-- `integrate` over the published series
pub integrate_published : (force : Force) (M : Model) → Published M → (arc : Arc) (p out scratch : List Float) →
    integrate_call force M arc p out scratch ≡ integrate_by (attraction_by force (full_by (published_at M))) M arc p out scratch
unfolding integrate_call attraction_of
integrate_published force M tables arc p out scratch =
    by_acceptance (λ (v : Verdict) (full : Float → Vector → Vector). settled v accepted (flat (run_of (attraction_by force full) arc p) (arc.steps + 1) ∷ []) (out ∷ []) scratch)
    (refusal M arc p (length out) (length scratch)) (full_force M) (full_by (published_at M)) (λ e. refl)
    (λ h. full_published M (accepted_sized M arc p (length out) (length scratch) h) tables)
