-- What is left where a fit is handed out. Assumes nothing.
use Rattle.std.specs.Prelude.{◌≡◌, List, [], ◌∷◌, Float, Ok}
use Rattle.slices.specs.Calls.{left, settled, accepted}
use Rattle.fit.specs.Fit.{Fit}
use Rattle.fit.specs.Calls.{during}

pub record Handed (x : Float) (new out scratch : List Float) (answer : Fit) (out' scratch' : List Float) : Type 0 where
  pub is : left answer (out' ∷ []) scratch' ≡ settled accepted (during (Ok x)) (new ∷ []) (out ∷ []) scratch
