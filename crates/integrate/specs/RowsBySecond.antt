-- Rows by whole second, from the lists that a call is lent (document 01, modules 4 and 5): states and accelerometer values. Assumes nothing.
use Rattle.std.specs.Prelude.{ℕ, suc, ◌*◌, List, [], ◌∷◌, ℤ, slice_index_or, Float}
use Rattle.std.specs.Float.{nan}
use Rattle.finality.specs.Tables.{Table}
use Rattle.inputs.specs.Inputs.{Keyed}
use Rattle.integrate.specs.Room.{state_in}
use Rattle.integrate.specs.declared.kernel.State.{State}

-- f of each entry and of its place, the first place being i
unfoldable pub map_from : {A B : Type 0} → (A → ℕ → B) → ℕ → List A → List B
map_from f i [] = []
map_from f i (x ∷ xs) = f x i ∷ map_from f (suc i) xs

-- whole seconds, each with the row at its place
abbrev pub rows_by : {X : Type 0} → (ℕ → X) → List ℤ → Table X
rows_by row keys = map_from (λ k i. (k, row i)) 0 keys

unfoldable pub states_in : Keyed → Table State
states_in l = rows_by (λ i. state_in l.values (6 * i)) l.keys

unfoldable pub values_in : Keyed → Table Float
values_in l = rows_by (λ i. slice_index_or l.values i nan) l.keys
