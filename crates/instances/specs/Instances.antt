-- Document 01, "Checked instances": the rows with a star, as one list. A module's rows join it as the module does. Assumes nothing.
use Rattle.std.specs.Prelude.{Some, Ok, Err, ℕ, ◌≡◌, Bool, true, not, List, [], ◌∷◌, ◌++◌, T, eqb, pos, Float, length, replicate}
use Rattle.std.specs.Float.{binary64}
use Rattle.std.specs.Float.Ieee.{neg, to_bits}
use Rattle.laws.specs.Floats.{bits, zero64, one64, two64}
use Rattle.laws.specs.WholeNumbers.{number}
use Rattle.laws.specs.Runs.{runs_of}
use Rattle.root.specs.Root.{sqrt}
use Rattle.numbers.specs.Numbers.{sine, cosine, arctangent, power}
use Rattle.slices.specs.Calls.{left, accepted}
use Rattle.slices.specs.declared.refusal.Refusal.TheVariants.{Singular}
use Rattle.fields.specs.Calls.{index_of}
use Rattle.model.specs.Model.{bracket, weight}
use Rattle.filter.specs.Filter.{pass}
use Rattle.least_squares.specs.Calls.{least_squares_call}
use Rattle.finality.specs.Brackets.{covers}
use Rattle.finality.specs.Sheet.{Submission, horizon}
use Rattle.finality.specs.Toy.{toy_stages}

-- a double has these bits; a whole number is this one; a test passes; a statement holds that a module proves
pub data Instance : Type 1 where
  gives : Float → ℕ → Instance
  counts : ℕ → ℕ → Instance
  says : Bool → Instance
  states : Type 0 → Instance

abbrev pub Holds : Instance → Type 0
Holds (gives x b) = T (eqb (to_bits binary64 x) b)
Holds (counts n m) = T (eqb n m)
Holds (says b) = T b
Holds (states P) = P

abbrev pub Every : List Instance → Type 0
Every [] = Unit {0}
Every (i ∷ is) = Holds i × Every is

-- root of 4 is 2; of 2 is 3FF6A09E667F3BCD; of 2^-1074 is 2^-537
abbrev pub roots : List Instance
roots =
    gives (sqrt binary64 (number 4)) 0x4000_0000_0000_0000
    ∷ gives (sqrt binary64 (number 2)) 0x3ff6_a09e_667f_3bcd
    ∷ gives (sqrt binary64 (bits 1)) 0x1e60_0000_0000_0000
    ∷ []

-- sine, cosine of 0: 0, 1; arctangent (1, 1) 3FE921FB54442D18, (0, −1) 400921FB54442D18
abbrev pub angles : List Instance
angles =
    gives (sine zero64) 0
    ∷ gives (cosine zero64) 0x3ff0_0000_0000_0000
    ∷ gives (arctangent one64 one64) 0x3fe9_21fb_5444_2d18
    ∷ gives (arctangent zero64 (neg one64)) 0x4009_21fb_5444_2d18
    ∷ []

-- 2 to the 10th: 1,024; index (2, 1) is 4, (180, 180) is 16,470
abbrev pub powers : List Instance
powers =
    gives (power (number 2) 10) 0x4090_0000_0000_0000
    ∷ states (index_of 2 1 ≡ Ok 4)
    ∷ states (index_of 180 180 ≡ Ok 16470)
    ∷ []

abbrev pub field_times : List Float
field_times = number 0 ∷ number 10800 ∷ number 21600 ∷ []

-- fields at 0, 10800, 21600: t = 10800 takes the second, weight 0; t = 5400 weight 0.5; 21600 uncovered
abbrev pub brackets : List Instance
brackets =
    counts (bracket field_times (number 10800)) 1
    ∷ gives (weight field_times (number 10800) 1) 0
    ∷ gives (weight field_times (number 5400) 0) 0x3fe0_0000_0000_0000
    ∷ says (not (covers field_times (number 21600)))
    ∷ []

-- step 3.0 joins, the next double above splits; 64 samples zeros; 65 zeros give zeros
abbrev pub filtered : List Instance
filtered =
    states (runs_of (zero64 ∷ bits 0x4008000000000000 ∷ []) ≡ 2 ∷ [])
    ∷ states (runs_of (zero64 ∷ bits 0x4008000000000001 ∷ []) ≡ 1 ∷ 1 ∷ [])
    ∷ states ((x : List Float) → length x ≡ 64 → pass x ≡ replicate 64 zero64)
    ∷ states (pass (replicate 65 zero64) ≡ replicate 65 zero64)
    ∷ []

-- least squares of rows 1, 1 on 2, 4: 3, with the residuals −1 and 1; a zero column: refused
abbrev pub solutions : List Instance
solutions =
    states (least_squares_call (one64 ∷ one64 ∷ []) (two64 ∷ bits 0x4010000000000000 ∷ []) 1 (zero64 ∷ []) (zero64 ∷ zero64 ∷ [])
    ≡ left accepted ((bits 0x4008000000000000 ∷ []) ∷ (bits 0xbff0000000000000 ∷ one64 ∷ []) ∷ []) [])
    ∷ states (least_squares_call (zero64 ∷ zero64 ∷ []) (two64 ∷ bits 0x4010000000000000 ∷ []) 1 (one64 ∷ []) (one64 ∷ one64 ∷ [])
    ≡ left (Err Singular) ((zero64 ∷ []) ∷ (zero64 ∷ zero64 ∷ []) ∷ []) [])
    ∷ []

-- nodes 10000 and 15000, and every other list ends at second k, as a time t; of the toy's stages, since a horizon looks at times alone
abbrev pub ending : ℕ → Float → Submission toy_stages
ending k t =
    record {
      fields = (t, t) ∷ [];
      states_c = (pos k, t) ∷ [];
      states_d = (pos k, t) ∷ [];
      acc_c = (pos k, t) ∷ [];
      acc_d = (pos k, t) ∷ [];
      nodes = bits 0x40c3880000000000 ∷ bits 0x40cd4c0000000000 ∷ [];
      obs = record { at = t; observed = t; good = true } ∷ [];
    }

-- all last times 16804 give z = 15000, all 16803 give 10000
abbrev pub horizons : List Instance
horizons =
    states (horizon toy_stages (ending 16804 (bits 0x40d0690000000000)) ≡ Some (bits 0x40cd4c0000000000))
    ∷ states (horizon toy_stages (ending 16803 (bits 0x40d068c000000000)) ≡ Some (bits 0x40c3880000000000))
    ∷ []

abbrev pub instances : List Instance
instances = roots ++ (angles ++ (powers ++ (brackets ++ (filtered ++ (solutions ++ horizons)))))
