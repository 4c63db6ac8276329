-- Arithmetic of binary64, each operation rounded once (IEEE 754). A constant of the code is its bits. Assumes nothing.
use Rattle.std.specs.Prelude.{◌≡◌, refl, false, pos, Float, ℕ}
use Rattle.std.specs.Float.{fin, binary64}
use Rattle.std.specs.Float.Ieee.{add, sub, mul, div, of_bits}

infixl 6 ◌⊕◌ ◌⊖◌
infixl 7 ◌⊗◌ ◌⊘◌
abbrev pub ◌⊕◌ : Float → Float → Float
x ⊕ y = add binary64 x y

abbrev pub ◌⊖◌ : Float → Float → Float
x ⊖ y = sub binary64 x y

abbrev pub ◌⊗◌ : Float → Float → Float
x ⊗ y = mul binary64 x y

abbrev pub ◌⊘◌ : Float → Float → Float
x ⊘ y = div binary64 x y

abbrev pub bits : ℕ → Float
bits n = of_bits binary64 n

-- +0.0, 1.0 and 2.0, as literals of the code
abbrev pub zero64 : Float
zero64 = bits 0

abbrev pub one64 : Float
one64 = bits 0x3ff0000000000000

abbrev pub two64 : Float
two64 = bits 0x4000000000000000

-- +0.0 as a value
abbrev pub zero⁺ : Float
zero⁺ = fin false 0 (pos 0)

pub zero_bits : zero64 ≡ zero⁺
unfolding of_bits
zero_bits = refl
