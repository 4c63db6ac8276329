-- The classical Runge–Kutta rule for ẍ = a(t, x, v) in steps of 2 s (document 01, module 4; the source's `integrate`), and the state after k steps.
-- Assumes nothing.
use Rattle.std.specs.Prelude.{ℕ, zero, suc, Float}
use Rattle.laws.specs.Floats.{◌⊕◌, ◌⊘◌, two64}
use Rattle.laws.specs.WholeNumbers.{number}
use Rattle.laws.specs.Times.{step, step_time}
use Rattle.vectors.specs.Vector.{plus, times}
use Rattle.vectors.specs.declared.Vector.{Vector}
use Rattle.integrate.specs.declared.kernel.State.{State}

abbrev pub Acceleration : Type 0
Acceleration = Float → Vector → Vector → Vector

-- a + b·k
unfoldable pub along_of : Vector → Vector → Float → Vector
along_of a b k = plus a (times b k)

-- a + 2b + (2c + d)
unfoldable pub weighed_of : Vector → Vector → Vector → Vector → Vector
weighed_of a b c d = plus (plus a (times b two64)) (plus (times c two64) d)

-- one step from time t
unfoldable pub step_of : Acceleration → Float → State → State
step_of a t s =
    let h = step in
    let x = s.position in
    let v = s.velocity in
    let a1 = a t x v in
    let x2 = along_of x v (h ⊘ two64) in
    let v2 = along_of v a1 (h ⊘ two64) in
    let a2 = a (t ⊕ h ⊘ two64) x2 v2 in
    let x3 = along_of x v2 (h ⊘ two64) in
    let v3 = along_of v a2 (h ⊘ two64) in
    let a3 = a (t ⊕ h ⊘ two64) x3 v3 in
    let x4 = along_of x v3 h in
    let v4 = along_of v a3 h in
    let a4 = a (t ⊕ h) x4 v4 in
    record {
      position = along_of x (weighed_of v v2 v3 v4) (h ⊘ number 6);
      velocity = along_of v (weighed_of a1 a2 a3 a4) (h ⊘ number 6);
    }

-- the state after k steps from s at t0
unfoldable pub state_at : Acceleration → Float → State → ℕ → State
state_at a t0 s zero = s
state_at a t0 s (suc k) = step_of a (step_time t0 k) (state_at a t0 s k)
