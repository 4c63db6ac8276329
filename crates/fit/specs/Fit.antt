-- A dynamic orbit fitted to observed positions: initial state and nine empirical accelerations, by Gauss-Newton with partials from the J2 model (document 01,
-- module 4; the source's `fit_orbit`). It is a function of `covered`, of the full attraction as a function of the time, of the state at a time's second, and
-- of the arc. Assumes nothing.
use Rattle.std.specs.Prelude.{ℕ, zero, suc, ◌+◌, ◌*◌, ◌/◌, ◌%◌, Bool, cond, ◌&&◌, List, [], ◌∷◌, ◌++◌, length, get_or, replicate, nat_lt, slice_index_or, slice_set, Float, Option, Some, None, Result, Ok, Err}
use Rattle.std.specs.Float.{nan, binary64}
use Rattle.root.specs.Root.{sqrt}
use Rattle.slices.specs.declared.refusal.Refusal.{Refusal}
use Rattle.slices.specs.declared.refusal.Refusal.TheVariants.{Uncovered, TooFew, NoStart, Singular}
use Rattle.inputs.specs.Inputs.{Keyed}
use Rattle.fit.specs.declared.kernel.Fitted.{Fitted}
use Rattle.fit.specs.declared.kernel.Fitted.TheVariants.{Fitted as Rms, Refused}
use Rattle.vectors.specs.declared.Vector.{Vector}
use Rattle.integrate.specs.declared.kernel.State.{State}
use Rattle.integrate.specs.declared.kernel.Arc.{Arc}
use Rattle.forces.specs.Forces.{j2_of}
use Rattle.finality.specs.Tables.{find}
use Rattle.integrate.specs.Force.{run_of}
use Rattle.integrate.specs.RowsBySecond.{states_in}
use Rattle.integrate.specs.Room.{Run, state_in}
use Rattle.numbers.specs.Seconds.{whole_second}
use Rattle.numbers.specs.Constants.{decimal}
use Rattle.laws.specs.Floats.{◌⊕◌, ◌⊖◌, ◌⊗◌, ◌⊘◌, one64, zero64}
use Rattle.laws.specs.Sums.{sum_to}
use Rattle.laws.specs.Tables.{row}
use Rattle.laws.specs.WholeNumbers.{number}
use Rattle.laws.specs.Times.{step_time}
use Rattle.least_squares.specs.LeastSquares.{solvable, solved}

-- ---- what a fit reads

-- an arc's fit: the rms of its misfits, or why there is none
abbrev pub Fit : Type 0
Fit = Result Float Refusal

-- document 01's enum as such an answer, of which the number is `answer_number` and the value `answer_value` (specs/Answers.antt of `slices`)
abbrev pub answer_of : Fitted → Fit
answer_of (Rms x) = Ok x
answer_of (Refused e) = Err e

-- the state at the whole second of a time, where it is known
unfoldable pub state_for : Keyed → Float → Option State
state_for states t = find (whole_second t) (states_in states)

-- ---- the observed positions

pub record Observed : Type 0 where
  pub step : ℕ
  pub place : Vector

abbrev pub seen : ℕ → Option State → List Observed
seen k (Some s) = record { step = k; place = s.position } ∷ []
seen k None = []

-- the positions held at steps 0, 5, 10 and so on, c steps in all
unfoldable pub observed_to : (Float → Option State) → Float → ℕ → List Observed
observed_to look t0 zero = []
observed_to look t0 (suc c) = observed_to look t0 c ++ seen (5 * c) (look (step_time t0 (5 * c)))

-- those of an arc
unfoldable pub observed : (Float → Option State) → Arc → List Observed
observed look arc = observed_to look arc.t0 (arc.steps / 5 + 1)

-- ---- the parameters: position, velocity, nine strengths

unfoldable pub start_of : State → List Float
start_of s = s.position.x ∷ s.position.y ∷ s.position.z ∷ s.velocity.x ∷ s.velocity.y ∷ s.velocity.z ∷ replicate 9 zero64

-- by how much a parameter is moved for its partial derivatives: 1, but for the velocity 1e-3
unfoldable pub scale_of : ℕ → Float
scale_of i = cond (nat_lt i 3) one64 (cond (nat_lt i 6) (decimal 1 3) one64)

-- parameter i moved by its scale
unfoldable pub moved_of : List Float → ℕ → List Float
moved_of p i = slice_set p i (get_or p i nan ⊕ scale_of i)

-- the parameters after a solution
unfoldable pub updated_of : List Float → List Float → List Float
updated_of p beta = row (λ (i : ℕ). get_or p i nan ⊕ get_or beta i nan ⊗ scale_of i) 15

-- ---- misfits and their partial derivatives

-- a coordinate
abbrev pub axis : ℕ → Vector → Float
axis zero v = v.x
axis (suc zero) v = v.y
axis (suc (suc d)) v = v.z

-- an observation of the list
abbrev pub nth : List Observed → ℕ → Observed
nth obs j = slice_index_or obs j (record { step = 0; place = record { x = nan; y = nan; z = nan } })

-- row r is coordinate r mod 3 of observation r / 3
unfoldable pub misfit_at : Run → List Observed → ℕ → Float
misfit_at run obs r = axis (r % 3) (nth obs (r / 3)).place ⊖ axis (r % 3) (run (nth obs (r / 3)).step).position

unfoldable pub misfits_of : Run → List Observed → List Float
misfits_of run obs = row (misfit_at run obs) (3 * length obs)

-- how row r changes with parameter i
unfoldable pub partial_at : Run → (ℕ → Run) → List Observed → ℕ → ℕ → Float
partial_at base moved obs r i = axis (r % 3) (moved i (nth obs (r / 3)).step).position ⊖ axis (r % 3) (base (nth obs (r / 3)).step).position

-- the rows of the design, 15 numbers each
unfoldable pub design_of : Run → (ℕ → Run) → List Observed → List Float
design_of base moved obs = row (λ (n : ℕ). partial_at base moved obs (n / 15) (n % 15)) (45 * length obs)

-- the root of the mean square
unfoldable pub rms_of : List Float → Float
rms_of y = sqrt binary64 (sum_to (λ (r : ℕ). get_or y r nan ⊗ get_or y r nan) (length y) ⊘ number (length y))

-- ---- the fit

module _ (full : Float → Vector → Vector) (arc : Arc) (obs : List Observed) where
  -- the design and the misfits at the parameters p
  unfoldable pub design_at : List Float → List Float
  design_at p = design_of (run_of (λ t. j2_of) arc p) (λ i. run_of (λ t. j2_of) arc (moved_of p i)) obs

  unfoldable pub misfits_at : List Float → List Float
  misfits_at p = misfits_of (run_of full arc p) obs

  -- one round of Gauss-Newton, and whether it has a solution
  unfoldable pub improved : List Float → List Float
  improved p = updated_of p (solved (design_at p) (misfits_at p) 15)

  unfoldable pub regular : List Float → Bool
  regular p = solvable (design_at p) (misfits_at p) 15

  unfoldable pub rms_at : List Float → Float
  rms_at p = rms_of (misfits_at p)

  -- two rounds from a start
  unfoldable pub fitted_from : State → Fit
  fitted_from s = cond (regular (start_of s)) (cond (regular (improved (start_of s))) (Ok (rms_at (improved (improved (start_of s))))) (Err Singular)) (Err Singular)

  abbrev pub fit_from : Option State → Fit
  fit_from (Some s) = fitted_from s
  fit_from None = Err NoStart

-- the answer
unfoldable pub fit_of : (Float → Bool) → (Float → Vector → Vector) → (Float → Option State) → Arc → Fit
fit_of covered full look arc =
    cond (covered arc.t0 && covered (step_time arc.t0 arc.steps))
    (cond (nat_lt (length (observed look arc)) (arc.steps / 10)) (Err TooFew) (fit_from full arc (observed look arc) (look arc.t0)))
    (Err Uncovered)

abbrev pub held : Option State → State
held (Some s) = s
held None = state_in [] 0

-- the fitted orbit, where the answer is an rms
unfoldable pub orbit_of : (Float → Vector → Vector) → (Float → Option State) → Arc → Run
orbit_of full look arc =
    let obs = observed look arc in
    run_of full arc (improved full arc obs (improved full arc obs (start_of (held (look arc.t0)))))
