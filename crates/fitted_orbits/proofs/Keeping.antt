-- Laws of the states that are kept, one after the other, in lists filled up with zeros. Assumes nothing.
use mathlib.Core.Path.{◌≡◌, refl, sym, ap, ◌∙◌, subst}
use mathlib.Core.Bool.{Bool, true, false, cond}
use mathlib.Core.List.{List, [], ◌∷◌, ◌++◌, map, append_assoc, append-nil}
use Prim.Native.Nat.{ℕ, zero, suc, ◌+◌, ◌*◌, ◌≤◌, ◌<◌}
use native.Mathlib.Numerals.{add-one}
use native.Mathlib.Omega.{arith}
use lib.IntN.{ℤ, pos}
use lib.Ieee.{Float}
use lib.ListN.{length, set, length-append, length-map, length-set}
use Rattle.laws.specs.Floats.{zero64}
use Rattle.laws.specs.Lists.{map_append}
use Rattle.laws.specs.Loops.{filled_up, filled_set}
use Rattle.laws.specs.Times.{Time, step_time}
use Rattle.laws.specs.Bools.{by}
use Rattle.laws.specs.Tables.{row}
use Rattle.numbers.specs.Seconds.{whole_second}
use Rattle.finality.specs.Tables.{Table, key_of}
use Rattle.finality.specs.Arcs.{inside}
use Rattle.integrate.specs.Room.{Run, Orbit, six, state_in}
use Rattle.integrate.specs.declared.kernel.State.{State}
use Rattle.windows.specs.Slots.{within}
use Rattle.windows.proofs.SlotStates.{kept_if, kept_to, kept_count, kept_inside, state_read, few}
use Rattle.fitted_orbits.specs.Orbits.{numbers_of}
use Rattle.fitted_orbits.specs.Work.{put_six, read_run, Tabled, Joins}

-- ---- lists filled up

-- six numbers more
six_set : (m : ℕ) (xs : List Float) (at : ℕ) (s : State) → at ≡ length xs → at + 6 ≤ m → put_six (filled_up zero64 m xs) at s ≡ filled_up zero64 m (xs ++ six s)
unfolding put_six
six_set m xs at s e h =
    let a = s.position.x in
    let b = s.position.y in
    let c = s.position.z in
    let d = s.velocity.x in
    let f = s.velocity.y in
    let g = s.velocity.z in
    let x1 : List Float = xs ++ (a ∷ []) in
    let x2 : List Float = x1 ++ (b ∷ []) in
    let x3 : List Float = x2 ++ (c ∷ []) in
    let x4 : List Float = x3 ++ (d ∷ []) in
    let x5 : List Float = x4 ++ (f ∷ []) in
    let l1 : length x1 ≡ at + 1 = length-append xs (a ∷ []) ∙ omega arith in
    let l2 : length x2 ≡ at + 2 = length-append x1 (b ∷ []) ∙ omega (arith, l1) in
    let l3 : length x3 ≡ at + 3 = length-append x2 (c ∷ []) ∙ omega (arith, l2) in
    let l4 : length x4 ≡ at + 4 = length-append x3 (d ∷ []) ∙ omega (arith, l3) in
    let l5 : length x5 ≡ at + 5 = length-append x4 (f ∷ []) ∙ omega (arith, l4) in
    ap (λ (l : List Float). set (set (set (set (set l (at + 1) b) (at + 2) c) (at + 3) d) (at + 4) f) (at + 5) g) (filled_set zero64 a m at xs e (omega arith))
    ∙ ap (λ (l : List Float). set (set (set (set l (at + 2) c) (at + 3) d) (at + 4) f) (at + 5) g) (filled_set zero64 b m (at + 1) x1 (sym l1) (omega arith))
    ∙ ap (λ (l : List Float). set (set (set l (at + 3) d) (at + 4) f) (at + 5) g) (filled_set zero64 c m (at + 2) x2 (sym l2) (omega arith))
    ∙ ap (λ (l : List Float). set (set l (at + 4) f) (at + 5) g) (filled_set zero64 d m (at + 3) x3 (sym l3) (omega arith))
    ∙ ap (λ (l : List Float). set l (at + 5) g) (filled_set zero64 f m (at + 4) x4 (sym l4) (omega arith))
    ∙ filled_set zero64 g m (at + 5) x5 (sym l5) (omega arith)
    ∙ ap (filled_up zero64 m) (joined_six xs a b c d f g)
  where
    joined_six : (xs : List Float) (a b c d f g : Float) → (((((xs ++ (a ∷ [])) ++ (b ∷ [])) ++ (c ∷ [])) ++ (d ∷ [])) ++ (f ∷ [])) ++ (g ∷ []) ≡ xs ++ (a ∷ b ∷ c ∷ d ∷ f ∷ g ∷ [])
    joined_six xs a b c d f g = simp append_assoc

pub numbers_append : (s t : Table State) → numbers_of (s ++ t) ≡ numbers_of s ++ numbers_of t
unfolding numbers_of
numbers_append [] t = refl
numbers_append (e ∷ s) t = ap (λ (l : List Float). six e.1 ++ l) (numbers_append s t)

pub numbers_length : (t : Table State) → length (numbers_of t) ≡ 6 * length t
unfolding numbers_of
numbers_length [] = refl
numbers_length (e ∷ t) = let h = numbers_length t in omega (arith, h)

-- ---- one state more

tabled_one : (m : ℕ) (table : Table State) (n : ℕ) (keys : List ℤ) (states : List Float) (second : ℤ) (state : State) → n < m → Tabled m table n keys states →
    Tabled m (table ++ ((second, state) ∷ [])) (n + 1) (set keys n second) (put_six states (6 * n) state)
unfolding numbers_of
tabled_one m table n keys states second state h t =
    let en : n ≡ length table = t.counted in
    record {
      counted = omega (arith, en, length-append table ((second, state) ∷ []));
      seconds = ap (λ (l : List ℤ). set l n second) t.seconds
          ∙ filled_set (pos 0) second m n (map key_of table) (omega (arith, en, length-map table (λ (e : ℤ × State). e.0))) h
          ∙ ap (filled_up (pos 0) m) (sym (map_append key_of table ((second, state) ∷ [])));
      numbers = ap (λ (l : List Float). put_six l (6 * n) state) t.numbers
          ∙ six_set (6 * m) (numbers_of table) (6 * n) state (omega (arith, en, numbers_length table)) (omega arith)
          ∙ ap (filled_up zero64 (6 * m)) (sym (numbers_append table ((second, state) ∷ [])));
    }

-- one state, after n others, where its time lies inside
pub record Kept (is_inside : Bool) (second : ℤ) (state : State) (n r : ℕ) (keys keys' : List ℤ) (states states' : List Float) : Type 0 where
  pub counted : r ≡ n + cond is_inside 1 0
  pub seconds : keys' ≡ cond is_inside (set keys n second) keys
  pub numbers : states' ≡ cond is_inside (put_six states (6 * n) state) states

module _ (b : Bool) (second : ℤ) (state : State) (n r : ℕ) (keys keys' : List ℤ) (states states' : List Float) (k : Kept b second state n r keys keys' states states') where
  tabled_more : (m : ℕ) (table : Table State) → (b ≡ true → n < m) → Tabled m table n keys states → Tabled m (table ++ kept_if b second state) r keys' states'
  tabled_more m table h t =
      by b
      (λ e.
      let one = tabled_one m table n keys states second state (h e) t in
      let er : r ≡ n + 1 = k.counted ∙ ap (λ (x : Bool). n + cond x 1 0) e in
      let ek : keys' ≡ set keys n second = k.seconds ∙ ap (λ (x : Bool). cond x (set keys n second) keys) e in
      let es : states' ≡ put_six states (6 * n) state = k.numbers ∙ ap (λ (x : Bool). cond x (put_six states (6 * n) state) states) e in
      subst (λ (x : Bool). Tabled m (table ++ kept_if x second state) r keys' states') (sym e)
      (record { counted = er ∙ one.counted; seconds = ek ∙ one.seconds; numbers = es ∙ one.numbers }))
      (λ e.
      let er : r ≡ n + 0 = k.counted ∙ ap (λ (x : Bool). n + cond x 1 0) e in
      let ek : keys' ≡ keys = k.seconds ∙ ap (λ (x : Bool). cond x (set keys n second) keys) e in
      let es : states' ≡ states = k.numbers ∙ ap (λ (x : Bool). cond x (put_six states (6 * n) state) states) e in
      let same : table ++ [] ≡ table = append-nil table in
      subst (λ (x : Bool). Tabled m (table ++ kept_if x second state) r keys' states') (sym e)
      (subst (λ (x : Table State). Tabled m x r keys' states') (sym same) (record { counted = omega (arith, er, t.counted); seconds = ek ∙ t.seconds; numbers = es ∙ t.numbers })))

  kept_keys : length keys' ≡ length keys
  kept_keys = by b
      (λ e. ap length (k.seconds ∙ ap (λ (x : Bool). cond x (set keys n second) keys) e) ∙ length-set keys n second)
      (λ e. ap length (k.seconds ∙ ap (λ (x : Bool). cond x (set keys n second) keys) e))

  kept_states : length states' ≡ length states
  unfolding put_six
  kept_states = by b
      (λ e. ap length (k.numbers ∙ ap (λ (x : Bool). cond x (put_six states (6 * n) state) states) e) ∙ simp length-set)
      (λ e. ap length (k.numbers ∙ ap (λ (x : Bool). cond x (put_six states (6 * n) state) states) e))

-- ---- the states of a run

-- what the loop over the steps keeps
pub record Keeping (t0 from to : Float) (s : List Float) (base first k n : ℕ) (keys keys' : List ℤ) (states states' : List Float) : Type 0 where
  pub all : (m : ℕ) (table : Table State) → first + 3500 ≤ m → Tabled m table first keys states → Tabled m (table ++ kept_to (read_run s base) t0 from to k) n keys' states'
  pub counted : n ≡ first + kept_count t0 from to k
  pub long_keys : length keys' ≡ length keys
  pub long_states : length states' ≡ length states

pub keeping_none : (t0 from to : Float) (s : List Float) (base first : ℕ) (keys : List ℤ) (states : List Float) → Keeping t0 from to s base first 0 first keys keys states states
unfolding kept_to kept_count
keeping_none t0 from to s base first keys states = record {
  all = λ m table h t. let same : table ++ [] ≡ table = append-nil table in subst (λ (x : Table State). Tabled m x first keys states) (sym same) t;
  counted = omega arith;
  long_keys = refl;
  long_states = refl;
}

-- how many of the first steps lie inside, with one more that does
pub few_more : (t0 from to : Float) (k m : ℕ) → Time from → Time to → ((run : Run) → length (inside t0 from to 0 (row run m)) ≤ 3500) → k < m → within from to (step_time t0 k) ≡ true
    → kept_count t0 from to k + 1 ≤ 3500
unfolding kept_count
few_more t0 from to k m ft ut h l e =
    let most = few t0 from to (suc k) m ft ut h l in
    let next : kept_count t0 from to (suc k) ≡ kept_count t0 from to k + 1 = ap (λ (x : Bool). kept_count t0 from to k + cond x 1 0) e in
    omega (arith, most, next)

pub keeping_more : (t0 from to : Float) (s : List Float) (base first k n r : ℕ) (keys keys₁ keys₂ : List ℤ) (states states₁ states₂ : List Float) →
    (within from to (step_time t0 k) ≡ true → kept_count t0 from to k + 1 ≤ 3500) → Keeping t0 from to s base first k n keys keys₁ states states₁ →
    Kept (within from to (step_time t0 k)) (whole_second (step_time t0 k)) (state_in s (base + 6 * k)) n r keys₁ keys₂ states₁ states₂ → Keeping t0 from to s base first (k + 1) r keys keys₂ states states₂
unfolding kept_to kept_count
keeping_more t0 from to s base first k n r keys keys₁ keys₂ states states₁ states₂ room f w =
    let b : Bool = within from to (step_time t0 k) in
    let next : kept_to (read_run s base) t0 from to (k + 1) ≡ kept_to (read_run s base) t0 from to k ++ kept_if b (whole_second (step_time t0 k)) (state_in s (base + 6 * k)) = rw add-one in
    record {
      all = λ m table h t.
          subst (λ (x : Table State). Tabled m x r keys₂ states₂)
          (append_assoc table (kept_to (read_run s base) t0 from to k) (kept_if b (whole_second (step_time t0 k)) (state_in s (base + 6 * k))) ∙ ap (λ (x : Table State). table ++ x) (sym next))
          (tabled_more b (whole_second (step_time t0 k)) (state_in s (base + 6 * k)) n r keys₁ keys₂ states₁ states₂ w m (table ++ kept_to (read_run s base) t0 from to k)
          (λ e. let q = room e in let c = f.counted in omega arith) (f.all m table h t));
      counted = rw add-one (w.counted ∙ (let c = f.counted in ap (λ (x : ℕ). x + cond b 1 0) c ∙ omega arith));
      long_keys = kept_keys b _ _ n r keys₁ keys₂ states₁ states₂ w ∙ f.long_keys;
      long_states = kept_states b _ _ n r keys₁ keys₂ states₁ states₂ w ∙ f.long_states;
    }

pub keeping_all : (t0 from to : Float) (s : List Float) (base first steps k r : ℕ) (keys keys' : List ℤ) (states states' : List Float) → Time from → Time to →
    ((run : Run) → length (inside t0 from to 0 (row run (steps + 1))) ≤ 3500) → k ≡ steps + 1 → Keeping t0 from to s base first k r keys keys' states states' →
    Joins (inside t0 from to 0 (row (read_run s base) (steps + 1))) first r keys keys' states states'
keeping_all t0 from to s base first steps k r keys keys' states states' ft ut h e f =
    let is : kept_to (read_run s base) t0 from to k ≡ inside t0 from to 0 (row (read_run s base) (steps + 1)) = ap (kept_to (read_run s base) t0 from to) e
    ∙ sym (kept_inside (read_run s base) t0 from to (steps + 1) ft ut) in
    let most = few t0 from to k (steps + 1) ft ut h (omega arith) in
    record {
      all = λ m table l t. subst (λ (x : Table State). Tabled m (table ++ x) r keys' states') is (f.all m table l t);
      few = omega (arith, most, f.counted);
      long_keys = f.long_keys;
      long_states = f.long_states;
    }

-- the states of a run are those that stand in the lent numbers
pub run_read : (s : List Float) (base : ℕ) (run : Run) (m : ℕ) → Orbit s base run m → (k : ℕ) → k ≤ m → row (read_run s base) k ≡ row run k
unfolding row
run_read s base run m o zero h = refl
run_read s base run m o (suc k) h = (λ i. run_read s base run m o k (omega arith) i ++ (state_read s base run m k o h i ∷ []))

-- ---- from what the calls gave

pub kept_in : (b b₁ : Bool) (t t₁ : Float) (state : State) (n : ℕ) (keys keys' : List ℤ) (states states' : List Float) → b₁ ≡ b → b₁ ≡ true → t₁ ≡ t → keys' ≡ set keys n (whole_second t₁)
    → states' ≡ put_six states (6 * n) state →
    Kept b (whole_second t) state n (n + 1) keys keys' states states'
kept_in b b₁ t t₁ state n keys keys' states states' eb e et ek es = subst (λ (x : Bool). Kept x (whole_second t) state n (n + 1) keys keys' states states') (sym e ∙ eb) (record {
  counted = refl;
  seconds = ek ∙ ap (λ (x : Float). set keys n (whole_second x)) et;
  numbers = es;
})

pub kept_out : (b b₁ : Bool) (second : ℤ) (state : State) (n : ℕ) (keys : List ℤ) (states : List Float) → b₁ ≡ b → b₁ ≡ false → Kept b second state n n keys keys states states
kept_out b b₁ second state n keys states eb e = subst (λ (x : Bool). Kept x second state n n keys keys states states) (sym e ∙ eb) (record { counted = omega arith; seconds = refl; numbers = refl })
