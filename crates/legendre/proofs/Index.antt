-- Places of triangular tables. Assumes nothing.
use Prim.Native.Nat.{ℕ, ◌+◌, ◌≤◌, ◌<◌}
use mathlib.Core.Path.{◌≡◌}
use mathlib.Core.List.{List}
use lib.ListN.{length}
use lib.Ieee.{Float}
use native.Mathlib.Omega.{arith}
use Rattle.laws.specs.Tables.{tri, tri_next, tri_mono}

-- a row ends before any later row begins
pub row_below : (n k : ℕ) → n < k → tri n + n < tri k
row_below n k h = omega (arith, tri_next n, tri_mono (n + 1) k (omega arith))

pub in_table : (N n m : ℕ) → m ≤ n → n ≤ N → tri n + m < tri (N + 1)
in_table N n m h l = omega (arith, row_below n (N + 1) (omega arith))

-- a row of a table that is full to degree N
pub in_row : {N n m k : ℕ} (l : List Float) → length l ≡ tri (N + 1) → n ≤ N → k ≡ tri n → m ≤ n → k + m < length l
in_row {N} {n} {m} l e h b s = omega (arith, in_table N n m s h)

-- and its end
pub row_in : {N n k : ℕ} (l : List Float) → length l ≡ tri (N + 1) → n ≤ N → k ≡ tri n → k + (n + 1) ≤ length l
row_in {N} {n} l e h b = omega (arith, in_table N n n (omega arith) h)
