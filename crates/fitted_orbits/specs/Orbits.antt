-- The fitted orbits of one satellite (document 01, module 4; the source's `fitted_orbits`): of the windows between neighbouring nodes those that are fitted,
-- each with the rms of its misfits and its states by second. The force and the states are functions of the time. Assumes nothing.
use Rattle.std.specs.Prelude.{suc, Bool, cond, List, [], ◌∷◌, ◌++◌, Float, Err, Ok, Option}
use Rattle.std.specs.Float.Ieee.{lt}
use Rattle.laws.specs.Floats.{◌⊖◌}
use Rattle.laws.specs.Tables.{row}
use Rattle.finality.specs.Tables.{Table}
use Rattle.finality.specs.Arcs.{longest, start, steps, arc_of, inside}
use Rattle.vectors.specs.declared.Vector.{Vector}
use Rattle.integrate.specs.Room.{six}
use Rattle.integrate.specs.declared.kernel.State.{State}
use Rattle.fit.specs.Fit.{Fit, fit_of, orbit_of}
use Rattle.windows.specs.Stage.{arc_struct}

-- a fitted window: its rms and the states inside it
abbrev pub Window : Type 0
Window = Float × Table State

-- a refused fit, by 6 to 9, is skipped
abbrev pub unless_refused : Fit → Table State → List Window
unless_refused (Ok x) table = (x, table) ∷ []
unless_refused (Err n) table = []

-- the window (a, b), skipped where it is 7,000 s or longer
unfoldable pub window_fit : (Float → Bool) → (Float → Vector → Vector) → (Float → Option State) → Float → Float → List Window
window_fit covered full look a b =
    cond (lt (b ⊖ a) longest)
    (unless_refused (fit_of covered full look (arc_struct (arc_of a b)))
    (inside (start a) a b 0 (row (orbit_of full look (arc_struct (arc_of a b))) (suc (steps a b)))))
    []

-- what stands between neighbouring nodes, end to end
unfoldable pub between : {X : Type 0} → (Float → Float → List X) → List Float → List X
between f [] = []
between f (a ∷ []) = []
between f (a ∷ b ∷ nodes) = f a b ++ between f (b ∷ nodes)

-- their states, end to end
unfoldable pub joined : List Window → Table State
joined [] = []
joined (w ∷ ws) = w.1 ++ joined ws

-- six numbers a state
unfoldable pub numbers_of : Table State → List Float
numbers_of [] = []
numbers_of (e ∷ table) = six e.1 ++ numbers_of table
