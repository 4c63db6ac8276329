-- Detrending by revolutions (document 01, module 6; the source's `revolutions`, `detrend`, `remove_per_revolution`): a revolution runs from one node, included,
-- to the next, excluded, and 50 epochs are needed. Assumes nothing.
use Rattle.std.specs.Prelude.{ℕ, suc, ◌-◌, cond, List, [], ◌∷◌, ◌++◌, leb, Float, length, take, drop}
use Rattle.std.specs.Float.Ieee.{lt}
use borrow.Rule.Slice.PartMut.{mid_of, put_mid}
use Rattle.laws.specs.Floats.{◌⊖◌}
use Rattle.detrend.specs.Fit.{revolution_of}

-- how many times at the head of a list lie before b; of a rising list, how many do
unfoldable pub count_before : Float → List Float → ℕ
count_before b [] = 0
count_before b (t ∷ ts) = cond (lt t b) (suc (count_before b ts)) 0

-- the epochs that a revolution needs
abbrev pub fewest : ℕ
fewest = 50

-- ---- from node to node, the values alone

-- the epochs from node a to node b: detrended where they are enough
unfoldable pub revolved_of : Float → Float → List Float → List Float → List Float
revolved_of a b ts vs = cond (leb fewest (length ts)) (revolution_of a (b ⊖ a) ts vs) vs

-- the values from node a on, revolution by revolution, each from its own epochs and nodes alone; after the last node they stay
unfoldable pub windows_of : Float → List Float → List Float → List Float → List Float
windows_of a [] ts vs = vs
windows_of a (b ∷ ns) ts vs =
    revolved_of a b (take (count_before b ts) ts) (take (count_before b ts) vs) ++ windows_of b ns (drop (count_before b ts) ts) (drop (count_before b ts) vs)

-- the values with each revolution's fit removed; before the first node they stay
unfoldable pub removed_of : List Float → List Float → List Float → List Float
removed_of [] ts vs = vs
removed_of (a ∷ ns) ts vs = take (count_before a ts) vs ++ windows_of a ns (drop (count_before a ts) ts) (drop (count_before a ts) vs)

-- ---- by ranges

-- a revolution: its samples from first to before end, the time of its node, and its period
pub record Revolution : Type 0 where
  pub first : ℕ
  pub end : ℕ
  pub start : Float
  pub period : Float

-- the revolutions of a list of times between neighbouring nodes, where there are epochs enough
unfoldable pub revolutions_of : List Float → List Float → List Revolution
revolutions_of ts [] = []
revolutions_of ts (a ∷ []) = []
revolutions_of ts (a ∷ b ∷ ns) =
    cond (leb fewest (count_before b ts - count_before a ts))
    (record { first = count_before a ts; end = count_before b ts; start = a; period = b ⊖ a } ∷ revolutions_of ts (b ∷ ns))
    (revolutions_of ts (b ∷ ns))

-- the revolutions that four lists hold
unfoldable pub revolutions_in : List ℕ → List ℕ → List Float → List Float → List Revolution
revolutions_in [] es ss ps = []
revolutions_in (f ∷ fs) [] ss ps = []
revolutions_in (f ∷ fs) (e ∷ es) [] ps = []
revolutions_in (f ∷ fs) (e ∷ es) (s ∷ ss) [] = []
revolutions_in (f ∷ fs) (e ∷ es) (s ∷ ss) (p ∷ ps) = record { first = f; end = e; start = s; period = p } ∷ revolutions_in fs es ss ps

-- the values, with the samples of one revolution detrended
unfoldable pub detrended_in : Revolution → List Float → List Float → List Float
detrended_in r ts vs =
    put_mid r.first (r.end - r.first) vs
    (revolution_of r.start r.period (mid_of r.first (r.end - r.first) ts) (mid_of r.first (r.end - r.first) vs))

-- and of each in turn
unfoldable pub detrended_by : List Revolution → List Float → List Float → List Float
detrended_by [] ts vs = vs
detrended_by (r ∷ rs) ts vs = detrended_by rs ts (detrended_in r ts vs)

unfoldable pub detrended_of : List ℕ → List ℕ → List Float → List Float → List Float → List Float → List Float
detrended_of fs es ss ps ts vs = detrended_by (revolutions_in fs es ss ps) ts vs
