-- What the functions over a work area of n samples leave in it: n times, n values, and rows of six behind them, of which nothing is said. Assumes nothing.
use Rattle.std.specs.Prelude.{◌≡◌, ℕ, ◌+◌, ◌-◌, ◌*◌, ◌≤◌, ◌<◌, List, [], ◌∷◌, Float, length, take, drop}
use borrow.Rule.Slice.PartMut.{mid_of, put_mid}
use Rattle.laws.specs.Floats.{◌⊖◌}
use Rattle.detrend.specs.Fit.{fitted_by, revolution_of}
use Rattle.detrend.specs.Revolutions.{revolved_of, count_before, removed_of, detrended_of}

-- each value less what its row of six gives
unfoldable pub less_rows : List Float → List Float → List Float → List Float
less_rows coefficients rows [] = []
less_rows coefficients rows (v ∷ vs) = (v ⊖ fitted_by coefficients (take 6 rows)) ∷ less_rows coefficients (drop 6 rows) vs

-- the count samples from first on are detrended as one revolution
pub record Detrended (n first count : ℕ) (start period : Float) (s s' : List Float) : Type 0 where
  pub times : take n s' ≡ take n s
  pub values : mid_of n n s' ≡ put_mid first count (mid_of n n s) (revolution_of start period (mid_of first count (take n s)) (mid_of first count (mid_of n n s)))

-- the epochs from first on that are before node b are detrended where they are enough; r is the first of the others
pub record Window (n first : ℕ) (a b : Float) (s : List Float) (r : ℕ) (s' : List Float) : Type 0 where
  pub ends : r ≡ first + count_before b (drop first (take n s))
  pub later : first ≤ r
  pub inside : r ≤ n
  pub times : take n s' ≡ take n s
  pub values : mid_of n n s' ≡ put_mid first (r - first) (mid_of n n s)
      (revolved_of a b (mid_of first (r - first) (take n s)) (mid_of first (r - first) (mid_of n n s)))

-- each revolution's fit is removed from the values
pub record Removed (n : ℕ) (nodes s s' : List Float) : Type 0 where
  pub times : take n s' ≡ take n s
  pub values : mid_of n n s' ≡ removed_of nodes (take n s) (mid_of n n s)

pub record RemovedWithin (n : ℕ) (nodes s s' : List Float) : Type 0 where
  pub fits : 8 * n ≤ length s → Removed n nodes s s'
  pub small : length s < 8 * n → s' ≡ s

-- each range's fit is removed from the values
pub record DetrendedAll (n : ℕ) (firsts ends : List ℕ) (starts periods s s' : List Float) : Type 0 where
  pub times : take n s' ≡ take n s
  pub values : mid_of n n s' ≡ detrended_of firsts ends starts periods (take n s) (mid_of n n s)
