-- What crate `finality` takes of the model: `combined`, `blend`, and the list of fields with their times. Assumes nothing.
use Rattle.std.specs.Prelude.{ℕ, ◌+◌, List, [], ◌∷◌, ◌++◌, take, drop, Float}
use Rattle.inputs.specs.Inputs.{field_size}
use Rattle.laws.specs.Tables.{rows}
use Rattle.model.specs.Field.{cosines, sines}
use Rattle.model.specs.Model.{share, mix, combined}

-- a static field with an added one: the cosine coefficients and then the sine coefficients
unfoldable pub combined_field : ℕ → List Float → List Float → List Float
combined_field N field added = rows (combined cosines field added) (N + 1) ++ rows (combined (sines N) field added) (N + 1)

-- each two coefficients mixed, as far as both lists go
unfoldable pub mixed : Float → List Float → List Float → List Float
mixed w [] bs = []
mixed w (a ∷ as') [] = []
mixed w (a ∷ as') (b ∷ bs) = mix w a b ∷ mixed w as' bs

-- two combined fields with their times, blended at t
unfoldable pub blend_fields : Float × List Float → Float × List Float → Float → List Float
blend_fields a b t = mixed (share a.0 b.0 t) a.1 b.1

-- the times, each with its added field of those that stand end to end
unfoldable pub timed : ℕ → List Float → List Float → List (Float × List Float)
timed N [] added = []
timed N (t ∷ times) added = (t, take (field_size N) added) ∷ timed N times (drop (field_size N) added)
