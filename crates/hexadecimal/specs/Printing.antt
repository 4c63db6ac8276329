-- What programs print, byte by byte (ASCII), and how: pieces one behind the other in a list of bytes. Assumes nothing.
use Rattle.std.specs.Prelude.{◌≡◌, List, [], ◌∷◌, ◌++◌, ℕ, ◌+◌, length, take}
use Rattle.hexadecimal.specs.Digits.{decimal_of}

abbrev pub line_feed : List ℕ
line_feed = 10 ∷ []

-- "refused N"
unfoldable pub refused_text : ℕ → List ℕ
refused_text n = (114 ∷ 101 ∷ 102 ∷ 117 ∷ 115 ∷ 101 ∷ 100 ∷ 32 ∷ []) ++ (decimal_of n ++ line_feed)

-- bytes go behind what stands before `at`; `end` is where they end
pub record Printed (bytes before : List ℕ) (at : ℕ) (after : List ℕ) (end : ℕ) : Type 0 where
  pub ends : end ≡ at + length bytes
  pub text : take end after ≡ take at before ++ bytes
