-- From the fit of one arc to the stage `window`: if a fit depends on `covered`, `at` and the states only at the arc's own times, the window (a, b) that it fills depends on
-- them only before b + 1,804, and leaves at most 3,500 states, at strictly rising seconds from a on and before b. Assumes nothing.
use mathlib.Core.Path.{◌≡◌, ap}
use Rattle.std.specs.Prelude.{Option}
use Prim.Native.Nat.{ℕ, suc, ◌+◌, ◌≤◌, ◌<◌, zero-le}
use native.Mathlib.Nat.{le_of_lt}
use native.Mathlib.Omega.{arith}
use mathlib.Core.Bool.{Bool, ◌&&◌, cond}
use mathlib.Core.List.{List, [], ◌∷◌, map}
use lib.Dec.{T}
use lib.IntN.{ℤ}
use lib.Signed.{lt_z}
use lib.ListN.{length}
use lib.Ieee.{Float, le, lt}
use lib.Ieee.Fits.{and_l, and_r}
use Rattle.laws.specs.Floats.{◌⊕◌, ◌⊖◌}
use Rattle.laws.specs.Lists.{All, cond_ind}
use Rattle.laws.specs.Order.{le_tr, lt→le, le_lt_tr}
use Rattle.laws.specs.Times.{Time, second, second_time, RisingSeconds, step, step_time}
use Rattle.finality.specs.Tables.{Table, key_of}
use Rattle.finality.specs.Stages.{reach}
use Rattle.finality.specs.Arcs.{half_step, longest, Arc, start, steps, arc_of, inside, Fit, window_of}
use Rattle.finality.proofs.WindowTimes.{start_below, start_key_below, step_below, step_one_below, step_two_below, key_below, to_key, from_key, keys_rise, states_short}

-- what a fit owes
pub record LawfulFit {Field State : Type 0} (fit : Fit Field State) : Type 0 where
  -- a state at each step at most
  pub fit_length : (c : Float → Bool) (m : Float → Field) (g : ℤ → Option State) (arc : Arc) → length (fit c m g arc) ≤ suc arc.steps
  -- it asks `covered` and the states at its start and its steps, and `at` at each step, 1 s and 2 s later
  pub fit_reads : (c c' : Float → Bool) (m m' : Float → Field) (g g' : ℤ → Option State) (arc : Arc)
      → c arc.t0 ≡ c' arc.t0 → g (second arc.t0) ≡ g' (second arc.t0)
      → ((i : ℕ) → i ≤ arc.steps → c (step_time arc.t0 i) ≡ c' (step_time arc.t0 i))
      → ((i : ℕ) → i < arc.steps → m (step_time arc.t0 i) ≡ m' (step_time arc.t0 i))
      → ((i : ℕ) → i < arc.steps → m (step_time arc.t0 i ⊕ half_step) ≡ m' (step_time arc.t0 i ⊕ half_step))
      → ((i : ℕ) → i < arc.steps → m (step_time arc.t0 i ⊕ step) ≡ m' (step_time arc.t0 i ⊕ step))
      → ((i : ℕ) → i ≤ arc.steps → g (second (step_time arc.t0 i)) ≡ g' (second (step_time arc.t0 i)))
      → fit c m g arc ≡ fit c' m' g' arc

module _ {Field State : Type 0} (fit : Fit Field State) (L : LawfulFit fit) (a b : Float) (at : Time a) (bt : Time b) (ab : T (lt a b)) where
  abbrev le_ab : T (le a b)
  le_ab = lt→le a b ab

  inside_start : (i : ℕ) (ss : List State) → i + length ss ≤ suc (steps a b) → All (λ (e : ℤ × State). T (le a (second_time e.0))) (inside (start a) a b i ss)
  unfolding inside
  inside_start i [] h = tt
  inside_start i (s ∷ ss) h =
      let rest = inside_start (suc i) ss (omega arith) in
      let t = step_time (start a) i in
      cond_ind (λ (l : Table State). All (λ (e : ℤ × State). T (le a (second_time e.0))) l) (le a t && lt t b) ((second t, s) ∷ inside (start a) a b (suc i) ss) (inside (start a) a b (suc i) ss)
      (λ c. (le_tr a t (second_time (second t)) (and_l (le a t) (lt t b) c) (to_key a b at bt le_ab i (omega arith)), rest)) (λ c. rest)

  -- ---- the seconds rise strictly, and stand before b
  inside_above : (i j : ℕ) (ss : List State) → i < j → j + length ss ≤ suc (steps a b) → All (λ k. T (lt_z (second (step_time (start a) i)) k)) (map key_of (inside (start a) a b j ss))
  unfolding inside
  inside_above i j [] l h = tt
  inside_above i j (s ∷ ss) l h =
      let rest = inside_above i (suc j) ss (omega arith) (omega arith) in
      let t = step_time (start a) j in
      cond_ind (λ (r : Table State). All (λ k. T (lt_z (second (step_time (start a) i)) k)) (map key_of r)) (le a t && lt t b) ((second t, s) ∷ inside (start a) a b (suc j) ss)
      (inside (start a) a b (suc j) ss)
      (λ c. (keys_rise a b at bt le_ab i j l (omega arith), rest)) (λ c. rest)

  inside_rise : (i : ℕ) (ss : List State) → i + length ss ≤ suc (steps a b) → RisingSeconds (map key_of (inside (start a) a b i ss))
  unfolding inside
  inside_rise i [] h = tt
  inside_rise i (s ∷ ss) h =
      let rest = inside_rise (suc i) ss (omega arith) in
      let t = step_time (start a) i in
      cond_ind (λ (r : Table State). RisingSeconds (map key_of r)) (le a t && lt t b) ((second t, s) ∷ inside (start a) a b (suc i) ss) (inside (start a) a b (suc i) ss)
      (λ c. (inside_above i (suc i) ss (omega arith) (omega arith), rest)) (λ c. rest)

  inside_end : (i : ℕ) (ss : List State) → i + length ss ≤ suc (steps a b) → All (λ (e : ℤ × State). T (lt (second_time e.0) b)) (inside (start a) a b i ss)
  unfolding inside
  inside_end i [] h = tt
  inside_end i (s ∷ ss) h =
      let rest = inside_end (suc i) ss (omega arith) in
      let t = step_time (start a) i in
      cond_ind (λ (l : Table State). All (λ (e : ℤ × State). T (lt (second_time e.0) b)) l) (le a t && lt t b) ((second t, s) ∷ inside (start a) a b (suc i) ss) (inside (start a) a b (suc i) ss)
      (λ c. (le_lt_tr (second_time (second t)) t b (from_key a b at bt le_ab i (omega arith)) (and_r (le a t) (lt t b) c), rest)) (λ c. rest)

  room : (c : Float → Bool) (m : Float → Field) (g : ℤ → Option State) → 0 + length (fit c m g (arc_of a b)) ≤ suc (steps a b)
  room c m g = omega (arith, L.fit_length c m g (arc_of a b))

  pub starts : (c : Float → Bool) (m : Float → Field) (g : ℤ → Option State) → All (λ (e : ℤ × State). T (le a (second_time e.0))) (window_of fit c m g a b)
  unfolding window_of
  starts c m g =
      cond_ind (λ (l : Table State). All (λ (e : ℤ × State). T (le a (second_time e.0))) l) (lt (b ⊖ a) longest) (inside (start a) a b 0 (fit c m g (arc_of a b))) []
      (λ t. inside_start 0 (fit c m g (arc_of a b)) (room c m g)) (λ t. tt)

  pub ends : (c : Float → Bool) (m : Float → Field) (g : ℤ → Option State) → All (λ (e : ℤ × State). T (lt (second_time e.0) b)) (window_of fit c m g a b)
  unfolding window_of
  ends c m g =
      cond_ind (λ (l : Table State). All (λ (e : ℤ × State). T (lt (second_time e.0) b)) l) (lt (b ⊖ a) longest) (inside (start a) a b 0 (fit c m g (arc_of a b))) []
      (λ t. inside_end 0 (fit c m g (arc_of a b)) (room c m g)) (λ t. tt)

  pub rises : (c : Float → Bool) (m : Float → Field) (g : ℤ → Option State) → RisingSeconds (map key_of (window_of fit c m g a b))
  unfolding window_of
  rises c m g =
      cond_ind (λ (l : Table State). RisingSeconds (map key_of l)) (lt (b ⊖ a) longest) (inside (start a) a b 0 (fit c m g (arc_of a b))) []
      (λ t. inside_rise 0 (fit c m g (arc_of a b)) (room c m g)) (λ t. tt)

  pub reads : (c c' : Float → Bool) (m m' : Float → Field) (g g' : ℤ → Option State)
      → ((t : Float) → T (lt t (reach b)) → c t ≡ c' t) → ((t : Float) → T (lt t (reach b)) → m t ≡ m' t) → ((k : ℤ) → T (lt (second_time k) (reach b)) → g k ≡ g' k)
      → window_of fit c m g a b ≡ window_of fit c' m' g' a b
  unfolding window_of
  reads c c' m m' g g' ec em eg =
      ap (λ (l : List State). cond (lt (b ⊖ a) longest) (inside (start a) a b 0 l) [])
      (L.fit_reads c c' m m' g g' (arc_of a b) (ec (start a) (start_below a b at bt le_ab)) (eg (second (start a)) (start_key_below a b at bt le_ab))
      (λ i h. ec (step_time (start a) i) (step_below a b at bt le_ab i h))
      (λ i h. em (step_time (start a) i) (step_below a b at bt le_ab i (le_of_lt h)))
      (λ i h. em (step_time (start a) i ⊕ half_step) (step_one_below a b at bt le_ab i h))
      (λ i h. em (step_time (start a) i ⊕ step) (step_two_below a b at bt le_ab i h))
      (λ i h. eg (second (step_time (start a) i)) (key_below a b at bt le_ab i h)))

  -- a window leaves at most 3,500 states
  pub leaves : (c : Float → Bool) (m : Float → Field) (g : ℤ → Option State) → length (window_of fit c m g a b) ≤ 3500
  unfolding window_of
  leaves c m g =
      cond_ind (λ (l : Table State). length l ≤ 3500) (lt (b ⊖ a) longest) (inside (start a) a b 0 (fit c m g (arc_of a b))) []
      (λ t. states_short a b at bt le_ab t 0 (fit c m g (arc_of a b)) (room c m g)) (λ t. zero-le)
