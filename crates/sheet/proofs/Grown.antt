-- The lists of a call as a submission: lists that begin with others give submissions that do. Assumes nothing.
use mathlib.Core.Path.{◌≡◌, refl, sym, ap, ◌∙◌, subst}
use mathlib.Core.List.{List, [], ◌∷◌, ◌++◌}
use Prim.Native.Nat.{ℕ, suc, ◌+◌, ◌*◌, ◌≤◌, ◌<◌}
use native.Mathlib.Omega.{arith}
use lib.IntN.{ℤ}
use lib.ListN.{length, take, drop, get_or}
use lib.Seq.{take_at, get_or-take}
use lib.Ieee.{Float, nan}
use Rattle.inputs.specs.Inputs.{Keyed, Observed}
use Rattle.finality.proofs.Begins.{glue}
use Rattle.finality.specs.Sheet.{Begins}
use Rattle.integrate.specs.Room.{state_in}
use Rattle.integrate.specs.RowsBySecond.{map_from, rows_by, states_in, values_in}
use Rattle.epoch.specs.Kept.{observation, observations_in}

-- a list that begins with another is that list and more
pub begins_of : {A : Type 0} (xs ys zs : List A) → zs ≡ xs ++ ys → Begins xs zs
begins_of xs ys zs e = ap (take (length xs)) e ∙ take_at xs ys (length xs) refl

-- what stands at a place of the first list
begun_at : {A : Type 0} (xs ys : List A) (d : A) (k : ℕ) → Begins xs ys → k < length xs → get_or ys k d ≡ get_or xs k d
begun_at {A = A} xs ys d k b h = sym (get_or-take (length xs) ys k d h) ∙ ap (λ (l : List A). get_or l k d) b

-- ---- rows and observations, by their places

module _ {A B : Type 0} (f f' : A → ℕ → B) where
  from_append : (i : ℕ) (xs ys : List A) → ((x : A) (j : ℕ) → j < i + length xs → f' x j ≡ f x j) → Begins (map_from f i xs) (map_from f' i (xs ++ ys))
  unfolding map_from
  from_append i [] ys h = refl
  from_append i (x ∷ xs) ys h = λ j. h x i (omega arith) j ∷ from_append (suc i) xs ys (λ y k l. h y k (omega arith)) j

  from_begin : (xs xs' : List A) → Begins xs xs' → ((x : A) (j : ℕ) → j < length xs → f' x j ≡ f x j) → Begins (map_from f 0 xs) (map_from f' 0 xs')
  from_begin xs xs' b h =
      subst (λ (l : List A). Begins (map_from f 0 xs) (map_from f' 0 l)) (glue xs xs' b) (from_append 0 xs (drop (length xs) xs') (λ x j l. h x j (omega arith)))

rows_begin : {X : Type 0} (row row' : ℕ → X) (ks ks' : List ℤ) → Begins ks ks' → ((i : ℕ) → i < length ks → row' i ≡ row i) → Begins (rows_by row ks) (rows_by row' ks')
rows_begin row row' ks ks' b h = from_begin (λ (k : ℤ) (i : ℕ). (k, row i)) (λ (k : ℤ) (i : ℕ). (k, row' i)) ks ks' b (λ k i l j. (k, h i l j))

state_begun : (xs xs' : List Float) (n : ℕ) → Begins xs xs' → n + 6 ≤ length xs → state_in xs' n ≡ state_in xs n
unfolding state_in
state_begun xs xs' n b h = λ j. record {
  position = record { x = at n (omega arith) j; y = at (n + 1) (omega arith) j; z = at (n + 2) (omega arith) j };
  velocity = record { x = at (n + 3) (omega arith) j; y = at (n + 4) (omega arith) j; z = at (n + 5) (omega arith) j };
}
  where
    at : (k : ℕ) → k < length xs → get_or xs' k nan ≡ get_or xs k nan
    at k l = begun_at xs xs' nan k b l

module _ (l l' : Keyed) (keys : Begins l.keys l'.keys) (values : Begins l.values l'.values) where
  pub states_begin : length l.values ≡ 6 * length l.keys → Begins (states_in l) (states_in l')
  unfolding states_in
  states_begin e =
      rows_begin (λ (i : ℕ). state_in l.values (6 * i)) (λ (i : ℕ). state_in l'.values (6 * i)) l.keys l'.keys keys
      (λ i h. state_begun l.values l'.values (6 * i) values (omega arith))

  pub values_begin : length l.values ≡ length l.keys → Begins (values_in l) (values_in l')
  unfolding values_in
  values_begin e =
      rows_begin (λ (i : ℕ). get_or l.values i nan) (λ (i : ℕ). get_or l'.values i nan) l.keys l'.keys keys
      (λ i h. begun_at l.values l'.values nan i values (omega arith))

pub observed_begin : (obs obs' : Observed) → length obs.values ≡ length obs.obs_times → length obs.good ≡ length obs.obs_times →
    Begins obs.obs_times obs'.obs_times → Begins obs.values obs'.values → Begins obs.good obs'.good → Begins (observations_in obs) (observations_in obs')
unfolding observations_in
observed_begin obs obs' ev eg times values good =
    from_begin (λ (t : Float) (i : ℕ). observation t (get_or obs.values i nan) (get_or obs.good i 0))
    (λ (t : Float) (i : ℕ). observation t (get_or obs'.values i nan) (get_or obs'.good i 0)) obs.obs_times obs'.obs_times times
    (λ t i h j. observation t (begun_at obs.values obs'.values nan i values (omega arith) j) (begun_at obs.good obs'.good 0 i good (omega arith) j))
