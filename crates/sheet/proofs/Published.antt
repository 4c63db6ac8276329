-- The published series: with the Legendre tables that `Legendre::new` fills, the whole path answers and leaves what it does with the gravity of the published series
-- (`gravity_of` of crate `solid_tide`: fully normalised functions of Holmes and Featherstone 2002) in every fit and every epoch. Assumes nothing.
use mathlib.Core.Path.{◌≡◌, ◌∙◌}
use mathlib.Core.List.{List}
use lib.Ieee.{Float}
use lib.ListN.{length}
use Rattle.inputs.specs.Inputs.{Fixed, Lists, model_in}
use Rattle.std.specs.Prelude.{Result, Ok}
use Rattle.slices.specs.Calls.{Left, settled}
use Rattle.slices.specs.declared.refusal.Refusal.{Refusal}
use Rattle.vectors.specs.declared.Vector.{Vector}
use Rattle.integrate.proofs.Published.{Published}
use Rattle.windows.specs.Stage.{field_gravity}
use Rattle.windows.proofs.Meaning.{published_gravity, stage_published}
use Rattle.sheet.specs.declared.Counts.{Counts}
use Rattle.sheet.specs.Calls.{sheet_refusal, columns_by, columns_of, kept_by, kept_count, final_by, final_count, sheet_call}

-- the call with the gravity of a field given; `sheet_call` takes that of the lent tables
abbrev pub sheet_by : (List Float → Vector → Vector) → Fixed → Lists → List (List Float) → List Float → Left (Result Counts Refusal)
sheet_by gravity S l outputs scratch =
    settled (sheet_refusal S l outputs (length scratch)) (Ok (record { kept = kept_by gravity S l; finals = final_by gravity S l })) (columns_by gravity S l) outputs scratch

module _ (S : Fixed) (l : Lists) (tables : Published (model_in S l)) where
  gravity_published : (field : List Float) (x : Vector) → field_gravity S field x ≡ published_gravity S.degree S.static field x
  gravity_published field x =
      (λ i. field_gravity (record { degree = S.degree; static = S.static; a = tables.a i; b = tables.b i }) field x) ∙ stage_published S.degree S.static field x

  pub sheet_published : (outputs : List (List Float)) (scratch : List Float) → sheet_call S l outputs scratch ≡ sheet_by (published_gravity S.degree S.static) S l outputs scratch
  unfolding columns_of kept_count final_count
  sheet_published outputs scratch = λ i. sheet_by (λ field x. gravity_published field x i) S l outputs scratch
