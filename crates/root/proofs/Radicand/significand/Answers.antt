-- `root::Radicand::significand` meets its contract. Assumes nothing.
use mathlib.Core.Path.{◌≡◌, sym, ap, ◌∙◌, subst}
use native.Mathlib.Omega.{arith}
use Prim.Native.Nat.{ℕ, ◌+◌, ◌-◌, ◌*◌, ◌<◌}
use mathlib.Core.Bool.{true}
use lib.Dec.{T}
use lib.Ieee.{Float, binary64, fits, of_bits, to_bits}
use lib.Ieee.Bits.{of_bits-to_bits}
use Rattle.root.proofs.Radicand.significand.Goals as goal

-- what owning an `f64` tells: the format holds it
held : (r : Float) → fits binary64 r ≡ true → T (fits binary64 r)
held _ f = subst T (sym f) tt

pub returns-then-b-self : goal.returns-then-b-self
returns-then-b-self c =
    let a = c.args in
    let b = to_bits binary64 a.r in
    let whole : a.self.k * 4503599627370496 + (b - a.self.k * 4503599627370496) ≡ b = omega arith in
    (omega arith, λ (_ : 0 < b - a.self.k * 4503599627370496). sym (ap (λ (x : ℕ). of_bits binary64 x) whole ∙ of_bits-to_bits binary64 a.r (held _ c.well_formed.1.0.1)))
