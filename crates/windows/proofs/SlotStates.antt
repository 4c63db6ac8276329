-- Laws of the states of a window in their slot. Assumes nothing.
use Rattle.std.proofs.Common.{◌≡◌, ℕ, zero, suc, ◌+◌, ◌*◌, ◌<◌, ◌≤◌, Bool, true, false, cond, T, eqb, List, [], ◌∷◌, ◌++◌, length, get_or, ℤ, pos, sym, refl, ap, ◌∙◌, subst, append-nil, add-one, arith, length-append, eqb-true}
use lib.Ieee.{Float, nan}
use lib.ListN.{get_or-append}
use lib.Seq.{get_or_at}
use borrow.Author.Tests.{eqb-false}
use Rattle.laws.specs.Times.{Time, second, step_time}
use Rattle.laws.specs.Bools.{by}
use Rattle.laws.specs.Tables.{row, row_length}
use Rattle.numbers.specs.Seconds.{whole_second}
use Rattle.finality.specs.Tables.{Table}
use Rattle.finality.specs.Arcs.{inside}
use Rattle.integrate.specs.declared.kernel.State.{State}
use Rattle.integrate.specs.Room.{run_size, Run, state_in, Only, Orbit}
use Rattle.integrate.proofs.Places.{only_then, only_wide, only_same, stays3}
use Rattle.windows.specs.Slots.{entries_room, within, nth, Entry, Entries, Entered, Keeps}
use Rattle.windows.proofs.Times.{held_inside}

-- ---- one state at its place

-- a state apart from a change stays
pub entry_stays : (a e at : ℕ) (s s' : List Float) (x : ℤ × State) → Only a e s s' → Entry s at x → ((k : ℕ) → at ≤ k → k < at + 7 → a ≤ k → k < e → ⊥) → Entry s' at x
entry_stays a e at s s' x o h f = record {
  second = o.same at (λ p q. f at (omega arith) (omega arith) p q) ∙ h.second;
  position = stays3 a e (at + 1) s s' x.1.position o h.position (λ k p q u v. f k (omega arith) (omega arith) u v);
  velocity = stays3 a e (at + 4) s s' x.1.velocity o h.velocity (λ k p q u v. f k (omega arith) (omega arith) u v);
}

entries_more : (s s' : List Float) (at : ℕ) (table : Table State) (second : ℤ) (state : State) → Entries s at table → Entered s s' (at + 7 * length table) second state
    → Entries s' at (table ++ ((second, state) ∷ []))
entries_more s s' at table second state h w = record {
  each = λ j l.
      let long : length (table ++ ((second, state) ∷ [])) ≡ length table + 1 = length-append table ((second, state) ∷ []) in
      by (eqb j (length table))
      (λ t. let e : j ≡ length table = eqb-true j (length table) t in
      subst (λ (y : ℤ × State). Entry s' (at + 7 * j) y) (sym (get_or_at table (second, state) [] (pos 0, state_in [] 0) j (sym e)))
      (subst (λ (n : ℕ). Entry s' (at + 7 * n) (second, state)) (sym e) w.entry))
      (λ t. let b : j < length table = omega (arith, eqb-false j (length table) t) in
      subst (λ (y : ℤ × State). Entry s' (at + 7 * j) y) (sym (get_or-append table ((second, state) ∷ []) (pos 0, state_in [] 0) j b))
      (entry_stays (at + 7 * length table) (at + 7 * length table + 7) (at + 7 * j) s s' (nth table j) w.only (h.each j b) (λ k p q u v. omega arith)));
}

abbrev pub kept_if : Bool → ℤ → State → Table State
kept_if b second state = cond b ((second, state) ∷ []) []

-- n states, and one more if its time lies inside
pub record Keeping (s s' : List Float) (at n : ℕ) (b : Bool) (second : ℤ) (state : State) (r : ℕ) : Type 0 where
  pub all : (table : Table State) → length table ≡ n → Entries s at table → Entries s' at (table ++ kept_if b second state)
  pub counted : r ≡ n + cond b 1 0
  pub only : Only at (at + 7 * n + 7) s s'

keeping_in : (s s' : List Float) (at n : ℕ) (b : Bool) (second : ℤ) (state : State) → b ≡ true → Entered s s' (at + 7 * n) second state → Keeping s s' at n b second state (n + 1)
keeping_in s s' at n b second state e w = subst (λ (x : Bool). Keeping s s' at n x second state (n + 1)) (sym e) (record {
  all = λ table l h. entries_more s s' at table second state h (subst (λ (m : ℕ). Entered s s' (at + 7 * m) second state) (sym l) w);
  counted = refl;
  only = only_wide at (at + 7 * n + 7) (at + 7 * n) (at + 7 * n + 7) s s' w.only (omega arith) (omega arith);
})

pub keeping_out : (s : List Float) (at n : ℕ) (b : Bool) (second : ℤ) (state : State) → b ≡ false → Keeping s s at n b second state n
keeping_out s at n b second state e = subst (λ (x : Bool). Keeping s s at n x second state n) (sym e) (record {
  all = λ table l h. subst (λ (x : Table State). Entries s at x) (sym (append-nil table)) h;
  counted = omega arith;
  only = only_same at (at + 7 * n + 7) s;
})

-- the same, from what the calls gave
pub keeping_at : (s s' : List Float) (at n : ℕ) (b : Bool) (t t₁ : Float) (state state₁ : State) → t₁ ≡ t → state₁ ≡ state → b ≡ true → Entered s s' (at + 7 * n) (whole_second t₁) state₁ →
    Keeping s s' at n b (whole_second t) state (n + 1)
keeping_at s s' at n b t t₁ state state₁ et es e w =
    keeping_in s s' at n b (whole_second t) state e
    (subst (λ (x : State). Entered s s' (at + 7 * n) (whole_second t) x) es (subst (λ (x : Float). Entered s s' (at + 7 * n) (whole_second x) state₁) et w))

-- ---- the states of a run, one after the other

-- those of the first k steps
unfoldable pub kept_to : Run → Float → Float → Float → ℕ → Table State
kept_to run t0 from to zero = []
kept_to run t0 from to (suc k) = kept_to run t0 from to k ++ kept_if (within from to (step_time t0 k)) (whole_second (step_time t0 k)) (run k)

-- how many there are
unfoldable pub kept_count : Float → Float → Float → ℕ → ℕ
kept_count t0 from to zero = 0
kept_count t0 from to (suc k) = kept_count t0 from to k + cond (within from to (step_time t0 k)) 1 0

inside_append : {X : Type 0} (t0 a b : Float) (i : ℕ) (xs ys : List X) → inside t0 a b i (xs ++ ys) ≡ inside t0 a b i xs ++ inside t0 a b (length xs + i) ys
unfolding inside
inside_append t0 a b i [] ys = ap (λ (j : ℕ). inside t0 a b j ys) (omega arith)
inside_append {X} t0 a b i (x ∷ xs) ys =
    by (within a b (step_time t0 i))
    (λ e. let shift : length xs + suc i ≡ suc (length xs) + i = omega arith in
    rw e (ap (λ (l : Table X). (second (step_time t0 i), x) ∷ l) (inside_append t0 a b (suc i) xs ys ∙ ap (λ (j : ℕ). inside t0 a b (suc i) xs ++ inside t0 a b j ys) shift)))
    (λ e. let shift : length xs + suc i ≡ suc (length xs) + i = omega arith in
    rw e (inside_append t0 a b (suc i) xs ys ∙ ap (λ (j : ℕ). inside t0 a b (suc i) xs ++ inside t0 a b j ys) shift))

-- where both ends of the window are times these are the states inside it
last_inside : (run : Run) (t0 from to : Float) (k : ℕ) → Time from → Time to →
    inside t0 from to k (run k ∷ []) ≡ kept_if (within from to (step_time t0 k)) (whole_second (step_time t0 k)) (run k)
unfolding inside step_time
last_inside run t0 from to k ft ut =
    by (within from to (step_time t0 k))
    (λ e. rw e (ap (λ (z : ℤ). (z, run k) ∷ []) (sym (held_inside from to (step_time t0 k) ft ut (subst T (sym e) tt)))))
    (λ e. rw e refl)

pub kept_inside : (run : Run) (t0 from to : Float) (k : ℕ) → Time from → Time to → inside t0 from to 0 (row run k) ≡ kept_to run t0 from to k
unfolding kept_to row inside
kept_inside run t0 from to zero ft ut = refl
kept_inside run t0 from to (suc k) ft ut =
    inside_append t0 from to 0 (row run k) (run k ∷ [])
    ∙ ap (λ (l : Table State). l ++ inside t0 from to (length (row run k) + 0) (run k ∷ [])) (kept_inside run t0 from to k ft ut)
    ∙ ap (λ (j : ℕ). kept_to run t0 from to k ++ inside t0 from to j (run k ∷ [])) (let h = row_length run k in omega arith)
    ∙ ap (λ (l : Table State). kept_to run t0 from to k ++ l) (last_inside run t0 from to k ft ut)

-- a state of the run, read from the lent numbers
pub state_read : (s : List Float) (base : ℕ) (run : Run) (m k : ℕ) → Orbit s base run m → k < m → state_in s (base + 6 * k) ≡ run k
unfolding state_in
state_read s base run m k o h =
    let p = o.position k h in
    let w = o.velocity k h in
    let ey : base + 6 * k + 4 ≡ base + 6 * k + 3 + 1 = omega arith in
    let ez : base + 6 * k + 5 ≡ base + 6 * k + 3 + 2 = omega arith in
    let vx = w.x in
    let vy = ap (λ (m : ℕ). get_or s m nan) ey ∙ w.y in
    let vz = ap (λ (m : ℕ). get_or s m nan) ez ∙ w.z in
    λ i. record { position = record { x = p.x i; y = p.y i; z = p.z i }; velocity = record { x = vx i; y = vy i; z = vz i } }

-- what the loop over the steps has put into the slot
pub record SlotSoFar (t0 from to : Float) (s s' : List Float) (base at k n : ℕ) : Type 0 where
  pub all : (run : Run) (m : ℕ) → Orbit s base run m → k ≤ m → Entries s' at (kept_to run t0 from to k)
  pub counted : n ≡ kept_count t0 from to k
  pub only : Only at (at + entries_room) s s'

pub slot_empty : (t0 from to : Float) (s : List Float) (base at : ℕ) → SlotSoFar t0 from to s s base at 0 0
unfolding kept_to kept_count
slot_empty t0 from to s base at = record {
  all = λ run m o h. record { each = λ j l. absurd (omega arith) };
  counted = refl;
  only = only_same at (at + entries_room) s;
}

kept_length : (run : Run) (t0 from to : Float) (k : ℕ) → length (kept_to run t0 from to k) ≡ kept_count t0 from to k
unfolding kept_to kept_count
kept_length run t0 from to zero = refl
kept_length run t0 from to (suc k) =
    length-append (kept_to run t0 from to k) (kept_if (within from to (step_time t0 k)) (whole_second (step_time t0 k)) (run k))
    ∙ by (within from to (step_time t0 k)) (λ e. simp (e, kept_length run t0 from to k)) (λ e. simp (e, kept_length run t0 from to k))

inside_length : (run : Run) (t0 from to : Float) (k : ℕ) → Time from → Time to → length (inside t0 from to 0 (row run k)) ≡ kept_count t0 from to k
inside_length run t0 from to k ft ut = ap (λ (l : Table State). length l) (kept_inside run t0 from to k ft ut) ∙ kept_length run t0 from to k

count_below : (t0 from to : Float) (k m : ℕ) → k ≤ m → kept_count t0 from to k ≤ kept_count t0 from to m
unfolding kept_count
count_below t0 from to k zero h = let e : k ≡ 0 = omega arith in rw e (omega arith)
count_below t0 from to k (suc m) h =
    by (eqb k (suc m))
    (λ t. rw (eqb-true k (suc m) t) (omega arith))
    (λ t. omega (arith, count_below t0 from to k m (omega (arith, eqb-false k (suc m) t))))

-- at most 3,500 after k steps where the whole run leaves no more
pub few : (t0 from to : Float) (k m : ℕ) → Time from → Time to → ((run : Run) → length (inside t0 from to 0 (row run m)) ≤ 3500) → k ≤ m → kept_count t0 from to k ≤ 3500
few t0 from to k m ft ut h l =
    let a = h (λ i. state_in [] 0) in
    let b = inside_length (λ i. state_in [] 0) t0 from to m ft ut in
    let c = count_below t0 from to k m l in
    omega (arith, a, b, c)

pub slot_more : (t0 from to : Float) (s s₁ s₂ : List Float) (base at k n r : ℕ) → base + run_size ≤ at → k ≤ 5302 → n ≤ 3500 → SlotSoFar t0 from to s s₁ base at k n →
    Keeping s₁ s₂ at n (within from to (step_time t0 k)) (whole_second (step_time t0 k)) (state_in s₁ (base + 6 * k)) r → SlotSoFar t0 from to s s₂ base at (k + 1) r
unfolding kept_to kept_count
slot_more t0 from to s s₁ s₂ base at k n r h lk ln f w = record {
  all = λ run m o l.
      let next : kept_to run t0 from to (k + 1) ≡ kept_to run t0 from to k ++ kept_if (within from to (step_time t0 k)) (whole_second (step_time t0 k)) (run k) = rw add-one in
      let same : state_in s₁ (base + 6 * k) ≡ run k = state_kept run m o (omega arith) in
      subst (λ (x : Table State). Entries s₂ at x) (ap (λ (x : State). kept_to run t0 from to k ++ kept_if (within from to (step_time t0 k)) (whole_second (step_time t0 k)) x) same ∙ sym next)
      (w.all (kept_to run t0 from to k) (kept_length run t0 from to k ∙ sym f.counted) (f.all run m o (omega arith)));
  counted = rw add-one (w.counted ∙ ap (λ (x : ℕ). x + cond (within from to (step_time t0 k)) 1 0) f.counted);
  only = only_then at (at + entries_room) at (at + entries_room) at (at + 7 * n + 7) s s₁ s₂ f.only w.only (omega arith) (omega arith) (omega arith) (omega arith);
}
  where
    state_kept : (run : Run) (m : ℕ) → Orbit s base run m → k < m → state_in s₁ (base + 6 * k) ≡ run k
    state_kept run m o l = state_read s₁ base run (k + 1) k (record {
      position = λ j q. stays3 at (at + entries_room) (base + 6 * j) s s₁ (run j).position f.only (o.position j (omega arith)) (λ i p u v x. omega arith);
      velocity = λ j q. stays3 at (at + entries_room) (base + 6 * j + 3) s s₁ (run j).velocity f.only (o.velocity j (omega arith)) (λ i p u v x. omega arith);
    }) (omega arith)

pub kept_all : (t0 from to : Float) (steps : ℕ) (s s' : List Float) (base at k n : ℕ) → Time from → Time to → k ≡ steps + 1 → SlotSoFar t0 from to s s' base at k n
    → Keeps t0 from to steps s s' base at n
kept_all t0 from to steps s s' base at k n ft ut e f = record {
  all = λ run o. subst (λ (l : Table State). Entries s' at l) (sym (kept_inside run t0 from to (steps + 1) ft ut))
      (subst (λ (m : ℕ). Entries s' at (kept_to run t0 from to m)) e (f.all run (steps + 1) o (omega arith)));
  counted = λ run. f.counted ∙ ap (kept_count t0 from to) e ∙ sym (inside_length run t0 from to (steps + 1) ft ut);
  only = f.only;
}
