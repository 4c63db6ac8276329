-- A coefficient rescaled by the factor of its degree. Assumes nothing.
use Rattle.std.specs.Prelude.{◌≡◌, ℕ, ◌+◌, ◌≤◌, List, length, get_or, Float}
use borrow.Author.Tests.{le-leb}
use Rattle.std.specs.Float.{nan}
use Rattle.laws.specs.Floats.{◌⊗◌}
use Rattle.laws.specs.Tables.{tri}
use Rattle.fields.specs.Rescaled.{factor_with, rescaled_at}

pub rescaled_is : (start k : ℕ) (gm radius : Float) (field : List Float) (f : Float) (n m : ℕ) → n ≤ 180 → 2 ≤ length field → k ≡ tri n → f ≡ factor_with gm radius field n →
    get_or field (start + (k + m)) nan ⊗ f ≡ rescaled_at start gm radius field n m
unfolding rescaled_at factor_with
rescaled_is start k gm radius field f n m h g ek ef = rw (ek, ef, le-leb 2 (length field) g, le-leb n 180 h)
