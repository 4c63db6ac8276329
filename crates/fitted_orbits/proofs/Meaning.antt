-- The states of the fitted windows are those that crate `windows` keeps in its slots. Assumes nothing.
use Rattle.std.specs.Prelude.{Err, Ok, Option}
use mathlib.Core.Path.{◌≡◌, refl, ◌∙◌}
use mathlib.Core.Bool.{Bool}
use mathlib.Core.List.{List, [], ◌∷◌, ◌++◌, append-nil}
use Prim.Native.Nat.{suc}
use lib.Ieee.{Float, lt}
use Rattle.integrate.specs.declared.kernel.State.{State}
use Rattle.laws.specs.Floats.{◌⊖◌}
use Rattle.laws.specs.Bools.{by}
use Rattle.laws.specs.Tables.{row}
use Rattle.finality.specs.Arcs.{longest, start, steps, arc_of, inside}
use Rattle.vectors.specs.declared.Vector.{Vector}
use Rattle.integrate.specs.Room.{Run}
use Rattle.fit.specs.Fit.{Fit, fit_of, orbit_of}
use Rattle.windows.specs.Stage.{arc_struct, states_of}
use Rattle.windows.specs.Windows.{window_by}
use Rattle.fitted_orbits.specs.Orbits.{unless_refused, window_fit, between, joined}
use Rattle.fitted_orbits.proofs.Windows.{joined_append}

module _ (covered : Float → Bool) (full : Float → Vector → Vector) (look : Float → Option State) where
  answered : (answer : Fit) (run : Run) (a b : Float) → joined (unless_refused answer (inside (start a) a b 0 (row run (suc (steps a b))))) ≡ inside (start a) a b 0 (states_of answer run (steps a b))
  unfolding joined inside
  answered (Ok x) run a b = append-nil (inside (start a) a b 0 (row run (suc (steps a b))))
  answered (Err n) run a b = refl

  window_states : (a b : Float) → joined (window_fit covered full look a b) ≡ window_by covered full look a b
  unfolding window_fit window_by joined
  window_states a b =
      by (lt (b ⊖ a) longest)
      (λ e. rw e (answered (fit_of covered full look (arc_struct (arc_of a b))) (orbit_of full look (arc_struct (arc_of a b))) a b))
      (λ e. rw e refl)

  pub orbits_states : (nodes : List Float) → joined (between (window_fit covered full look) nodes) ≡ between (window_by covered full look) nodes
  unfolding between joined
  orbits_states [] = refl
  orbits_states (a ∷ []) = refl
  orbits_states (a ∷ b ∷ nodes) =
      joined_append (window_fit covered full look a b) (between (window_fit covered full look) (b ∷ nodes))
      ∙ (λ i. window_states a b i ++ orbits_states (b ∷ nodes) i)
