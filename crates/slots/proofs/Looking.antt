-- A second is looked up by its float: exact for keys, so that halving over the floats finds what the table has. Assumes nothing.
use Rattle.std.proofs.Common.{◌≡◌, ℕ, zero, suc, ◌+◌, ◌*◌, ◌^◌, ◌<◌, ◌≤◌, take, drop, Bool, true, false, not, T, eqb, ltb, List, [], ◌∷◌, ◌++◌, map, length, get_or, ℤ, pos, negsuc, sym, refl, ap, ◌∙◌, subst, arith, ltb→lt, leb→le, ltb-false, eqb-true}
use Rattle.std.specs.Prelude.{Option, None, Some}
use Rattle.std.specs.Simd.{first_chunks}
use Rattle.std.specs.List.Sorted.{IsPartitionedBy, IsPartitionPoint}
use Rattle.std.proofs.lemmas.List.{get_or-take, get_or-drop}
use lib.Dec.{not_T}
use lib.Signed.{lt_z, le_z}
use lib.Ieee.{Float, nan, fin, lt}
use lib.Ieee.Fits.{and_l, and_r}
use lib.Ieee.Bits.{is_false, is_true}
use borrow.Author.Tests.{eqb-false}
use Rattle.laws.specs.Lists.{All, all_of_images}
use Rattle.laws.specs.Checks.{is_key, below_tr}
use Rattle.laws.specs.Times.{RisingSeconds, second_time, second_below}
use Rattle.laws.specs.WholeNumbers.{Is, number, number_is, is_lt}
use Rattle.laws.specs.Bools.{by, holds}
use Rattle.finality.specs.Tables.{Table, find, key_of, same_second}
use Rattle.finality.proofs.Lookup.{same_second_law}
use Rattle.integrate.specs.Room.{state_in}
use Rattle.integrate.specs.declared.kernel.State.{State}
use Rattle.windows.specs.Slots.{nth, Entry}
use Rattle.slots.specs.LookUp.{joined, SlotsHold, Looked, Sought, Searched, InSlot, InSlots}
use Rattle.inputs.specs.Inputs.{window_room}
use Rattle.numbers.specs.Numbers.{count_of}
use Rattle.numbers.proofs.Counts.{counted}

-- ---- the count, as a float between −1 and 2^64

minus_one : Is (fin true 1 (pos 0)) 0 1
minus_one = record { is_finite = tt; value = refl }

two_64 : Is (fin false 1 (pos 64)) (2 ^ 64) 0
two_64 = record { is_finite = tt; value = refl }

pub count_above : (n : ℕ) → n ≤ 3500 → T (lt (fin true 1 (pos 0)) (number n))
count_above n h = is_lt (fin true 1 (pos 0)) (number n) 0 1 n 0 minus_one (number_is n (omega arith)) (omega arith)

pub count_below : (n : ℕ) → n ≤ 3500 → T (lt (number n) (fin false 1 (pos 64)))
count_below n h = is_lt (number n) (fin false 1 (pos 64)) n 0 (2 ^ 64) 0 (number_is n (omega arith)) two_64 (omega arith)

-- ---- keys as floats

pub not_both : (b : Bool) → b ≡ false → T b → ⊥
not_both true e t = subst (λ (c : Bool). T (not c)) (sym e) tt
not_both false e t = t

exact : (i j : ℕ) → i ≤ 2147483648 → j ≤ 2147483648 → i < j → T (lt (second_time (pos i)) (second_time (pos j)))
unfolding number
exact i j p q h = is_lt (number i) (number j) i 0 j 0 (number_is i (omega arith)) (number_is j (omega arith)) (omega arith)

key_small : (i : ℕ) → is_key (pos i) ≡ true → i ≤ 2147483648
unfolding is_key
key_small i e = leb→le i 2147483648 (and_r (le_z (pos 0) (pos i)) (le_z (pos i) (pos 2147483648)) (holds _ e))

key_positive : (i : ℕ) → is_key (negsuc i) ≡ true → ⊥
unfolding is_key
key_positive i e = and_l (le_z (pos 0) (negsuc i)) (le_z (negsuc i) (pos 2147483648)) (holds _ e)

-- neither below the other: the same key
same_key : (i j : ℤ) → is_key i ≡ true → is_key j ≡ true → lt (second_time i) (second_time j) ≡ false → lt (second_time j) (second_time i) ≡ false → same_second i j ≡ true
same_key (negsuc i) j p q a b = absurd (key_positive i p)
same_key (pos i) (negsuc j) p q a b = absurd (key_positive j q)
same_key (pos i) (pos j) p q a b =
    let pi = key_small i p in
    let qj = key_small j q in
    by (eqb i j) (λ e. e)
    (λ e. by (ltb i j)
    (λ l. absurd (not_both _ a (exact i j pi qj (ltb→lt i j (holds _ l)))))
    (λ l. absurd (not_both _ b (exact j i qj pi (omega (arith, ltb-false i j l, eqb-false i j e))))))

irreflexive : (i : ℤ) → T (lt_z i i) → ⊥
irreflexive (pos i) h = omega (arith, ltb→lt i i h)
irreflexive (negsuc i) h = omega (arith, ltb→lt i i h)

below_other : (i k : ℤ) → T (lt_z i k) → same_second i k ≡ false
below_other i k h = is_false (same_second i k) (not_T (same_second i k) (λ t. irreflexive i (subst (λ (j : ℤ). T (lt_z i j)) (sym (same_second_law i k t)) h)))

above_other : (i k : ℤ) → T (lt_z k i) → same_second i k ≡ false
above_other i k h = is_false (same_second i k) (not_T (same_second i k) (λ t. irreflexive i (subst (λ (j : ℤ). T (lt_z j i)) (sym (same_second_law i k t)) h)))

-- ---- a table's rows

each : (P : ℤ × State → Type 0) (table : Table State) → All P table → (j : ℕ) → j < length table → P (nth table j)
each P [] a j h = absurd (omega arith)
each P (e ∷ es) a zero h = a.0
each P (e ∷ es) a (suc j) h = each P es a.1 j (omega arith)

rises : (table : Table State) → RisingSeconds (map key_of table) → (p q : ℕ) → p < q → q < length table → T (lt_z (nth table p).0 (nth table q).0)
rises [] r p q h l = absurd (omega arith)
rises (e ∷ es) r p zero h l = absurd (omega arith)
rises (e ∷ es) r zero (suc q) h l = each (λ (x : ℤ × State). T (lt_z e.0 x.0)) es (all_of_images key_of (λ (j : ℤ). T (lt_z e.0 j)) es r.0) q (omega arith)
rises (e ∷ es) r (suc p) (suc q) h l = rises es r.1 p q (omega arith) (omega arith)

find_missed : (k : ℤ) (table : Table State) → ((j : ℕ) → j < length table → same_second (nth table j).0 k ≡ false) → find k table ≡ None
unfolding find
find_missed k [] f = refl
find_missed k (e ∷ es) f = rw (f 0 (omega arith)) (find_missed k es (λ j h. f (suc j) (omega arith)))

find_met : (k : ℤ) (table : Table State) (m : ℕ) → m < length table → ((j : ℕ) → j < m → same_second (nth table j).0 k ≡ false) → same_second (nth table m).0 k ≡ true
    → find k table ≡ Some (nth table m).1
unfolding find
find_met k [] m h f e = absurd (omega arith)
find_met k (x ∷ xs) zero h f e = rw e refl
find_met k (x ∷ xs) (suc m) h f e = rw (f 0 (omega arith)) (find_met k xs m (omega arith) (λ j l. f (suc j) (omega arith)) e)

-- the state of a row of seven numbers
row_state : (s : List Float) (at : ℕ) (row : List Float) → ((i : ℕ) → i < 7 → get_or row i nan ≡ get_or s (at + i) nan) → (e : ℤ × State) → Entry s at e → state_in row 1 ≡ e.1
unfolding state_in
row_state s at row f e h =
    let p = h.position in
    let w = h.velocity in
    let place : (a b : ℕ) → a ≡ b → get_or s a nan ≡ get_or s b nan = λ a b q. ap (λ (m : ℕ). get_or s m nan) q in
    let px = f 1 (omega arith) ∙ p.x in
    let py = f 2 (omega arith) ∙ place (at + 2) (at + 1 + 1) (omega arith) ∙ p.y in
    let pz = f 3 (omega arith) ∙ place (at + 3) (at + 1 + 2) (omega arith) ∙ p.z in
    let vx = f 4 (omega arith) ∙ w.x in
    let vy = f 5 (omega arith) ∙ place (at + 5) (at + 4 + 1) (omega arith) ∙ w.y in
    let vz = f 6 (omega arith) ∙ place (at + 6) (at + 4 + 2) (omega arith) ∙ w.z in
    λ i. record { position = record { x = px i; y = py i; z = pz i }; velocity = record { x = vx i; y = vy i; z = vz i } }

-- ---- the search

-- a key below another has the lower float
lower_time : (i j : ℤ) → is_key i ≡ true → is_key j ≡ true → T (lt_z i j) → T (lt (second_time i) (second_time j))
lower_time (negsuc i) j p q h = absurd (key_positive i p)
lower_time (pos i) (negsuc j) p q h = absurd (key_positive j q)
lower_time (pos i) (pos j) p q h = exact i j (key_small i p) (key_small j q) (ltb→lt i j h)

chunk_number : (k : ℕ) (xs : List Float) (j i : ℕ) (d : List Float) → j < k → i < 7 → get_or (get_or (first_chunks 7 k xs) j d) i nan ≡ get_or xs (7 * j + i) nan
chunk_number zero xs j i d l m = absurd (omega arith)
chunk_number (suc k) xs zero i d l m =
    let e : i ≡ 7 * 0 + i = omega arith in
    get_or-take 7 xs i nan m ∙ ap (λ (q : ℕ). get_or xs q nan) e
chunk_number (suc k) xs (suc j) i d l m =
    let e : 7 + (7 * j + i) ≡ 7 * suc j + i = omega arith in
    chunk_number k (drop 7 xs) j i d (omega arith) m ∙ get_or-drop 7 xs (7 * j + i) nan ∙ ap (λ (q : ℕ). get_or xs q nan) e

-- n rows of seven numbers, end to end from a place on
pub record Rows (s : List Float) (at n : ℕ) (rows : List (List Float)) : Type 0 where
  pub count : length rows ≡ n
  pub number : (j i : ℕ) (d : List Float) → j < n → i < 7 → get_or (get_or rows j d) i nan ≡ get_or s (at + 7 * j + i) nan

rows_cut : (s : List Float) (at n m k : ℕ) (rows : List (List Float)) → m ≡ 7 * n → k ≡ n → length rows ≡ n → rows ≡ first_chunks 7 k (take m (drop at s)) → Rows s at n rows
rows_cut s at n m k rows em ek c e = record {
  count = c;
  number = λ j i d l r.
      let place : at + (7 * j + i) ≡ at + 7 * j + i = omega arith in
      ap (λ (ys : List (List Float)). get_or (get_or ys j d) i nan) e ∙ chunk_number k (take m (drop at s)) j i d (omega (arith, ek)) r
      ∙ get_or-take m (drop at s) (7 * j + i) nan (omega (arith, em)) ∙ get_or-drop at s (7 * j + i) nan ∙ ap (λ (q : ℕ). get_or s q nan) place;
}

-- whether a row's second is below t
abbrev pub sooner : Float → List Float → Bool
sooner t row = lt (get_or row 0 nan) t

-- the seconds of all rows in front of p are below t, and those of the others are not
pub record Parted (s : List Float) (at n : ℕ) (t : Float) (rows : List (List Float)) (p : ℕ) : Type 0 where
  pub held : Rows s at n rows
  pub bound : p ≤ length rows
  pub parts : IsPartitionedBy (sooner t) rows → IsPartitionPoint (λ row. sooner t row ≡ true) (λ row. sooner t row ≡ false) rows p

pub parted : (s : List Float) (at n m k : ℕ) (t : Float) (rows : List (List Float)) (p : ℕ) → m ≡ 7 * n → k ≡ n → length rows ≡ k → rows ≡ first_chunks 7 k (take m (drop at s)) → p ≤ length rows
    → (IsPartitionedBy (sooner t) rows → IsPartitionPoint (λ row. sooner t row ≡ true) (λ row. sooner t row ≡ false) rows p) → Parted s at n t rows p
parted s at n m k t rows p em ek el e b f = record { held = rows_cut s at n m k rows em ek (el ∙ ek) e; bound = b; parts = f }

module _ (s : List Float) (at n : ℕ) (t : Float) (rows : List (List Float)) (p : ℕ) (f : Parted s at n t rows p) where
  module _ (table : Table State) (k : ℤ) (h : Sought s at n t table k) where
    second_at : (j : ℕ) (d : List Float) → j < n → get_or (get_or rows j d) 0 nan ≡ second_time (nth table j).0
    second_at j d l =
        let place : at + 7 * j + 0 ≡ at + 7 * j = omega arith in
        f.held.number j 0 d l (omega arith) ∙ ap (λ (q : ℕ). get_or s q nan) place ∙ (h.entries.each j (omega (arith, h.count))).second

    a_key : (j : ℕ) → j < n → is_key (nth table j).0 ≡ true
    a_key j l = is_true (is_key (nth table j).0) (each (λ (y : ℤ × State). T (is_key y.0)) table h.orderly.keys j (omega (arith, h.count)))

    sooner_is : (j : ℕ) (d : List Float) → j < n → sooner t (get_or rows j d) ≡ lt (second_time (nth table j).0) (second_time k)
    sooner_is j d l = λ i. lt (second_at j d l i) (h.time i)

    below_key : (j : ℕ) (d : List Float) → j < n → sooner t (get_or rows j d) ≡ true → T (lt_z (nth table j).0 k)
    below_key j d l e = second_below (nth table j).0 k (holds _ (sym (sooner_is j d l) ∙ e))

    divided : IsPartitionedBy (sooner t) rows
    divided i j d le l e =
        let inside : j < n = omega (arith, f.held.count, l) in
        by (eqb i j)
        (λ q. subst (λ (m : ℕ). sooner t (get_or rows m d) ≡ true) (sym (eqb-true i j q)) e)
        (λ q.
        let early : i < j = omega (arith, eqb-false i j q, le) in
        let low : T (lt_z (nth table i).0 k) = below_tr (nth table i).0 (nth table j).0 k (rises table h.orderly.rises i j early (omega (arith, h.count))) (below_key j d inside e) in
        sooner_is i d (omega arith) ∙ is_true _ (lower_time (nth table i).0 k (a_key i (omega arith)) h.key low))

    before : (j : ℕ) → j < p → T (lt_z (nth table j).0 k)
    before j l = below_key j [] (omega (arith, f.bound, f.held.count)) ((f.parts divided).0 j [] (omega arith) l)

    after : (j : ℕ) → p ≤ j → j < n → sooner t (get_or rows j []) ≡ false
    after j l r = (f.parts divided).1 j [] l (omega (arith, f.held.count))

  -- all rows are below, or the first that is not lies above
  pub past_all : n ≤ p → Searched s at n t None
  past_all e = record {
    is = λ table k h. sym (find_missed k table (λ j l. below_other (nth table j).0 k (before table k h j (omega (arith, h.count)))));
  }

  pub past_some : p < n → (d : List Float) → lt t (get_or (get_or rows p d) 0 nan) ≡ true → Searched s at n t None
  past_some e d a = record {
    is = λ table k h.
        let high : T (lt_z k (nth table p).0) = second_below k (nth table p).0 (holds _ ((λ i. lt (sym h.time i) (sym (second_at table k h p d e) i)) ∙ a)) in
        sym (find_missed k table (λ j l.
        by (ltb j p)
        (λ u. below_other (nth table j).0 k (before table k h j (ltb→lt j p (holds _ u))))
        (λ u. above_other (nth table j).0 k (by (eqb j p)
        (λ q. subst (λ (m : ℕ). T (lt_z k (nth table m).0)) (sym (eqb-true j p q)) high)
        (λ q. below_tr k (nth table p).0 (nth table j).0 high (rises table h.orderly.rises p j (omega (arith, eqb-false j p q, ltb-false j p u)) l))))));
  }

  pub met : p < n → (d : List Float) → lt t (get_or (get_or rows p d) 0 nan) ≡ false → (state : State) → state ≡ state_in (get_or rows p d) 1
      → Searched s at n t (Some state)
  met e d a state r = record {
    is = λ table k h.
        let within : p < length table = omega (arith, h.count) in
        let same : same_second (nth table p).0 k ≡ true =
        same_key (nth table p).0 k (a_key table k h p e) h.key (sym (sooner_is table k h p [] e) ∙ after table k h p (omega arith) e)
        ((λ i. lt (sym h.time i) (sym (second_at table k h p d e) i)) ∙ a) in
        ap Some (r ∙ row_state s (at + 7 * p) (get_or rows p d) (λ i l. f.held.number p i d e l) (nth table p) (h.entries.each p within))
        ∙ sym (find_met k table p within (λ j l. below_other (nth table j).0 k (before table k h j l)) same);
  }

-- ---- a slot

-- ---- slot after slot

find_both : (k : ℤ) (t more : Table State) → find k t ≡ None → find k (t ++ more) ≡ find k more
unfolding find
find_both k [] more e = refl
find_both k (x ∷ t) more e =
    by (same_second x.0 k)
    (λ q. absurd (is_none (sym (rw q at e))))
    (λ q. rw q (find_both k t more (rw q at e)))
  where
    is_none : None ≡ Some x.1 → ⊥
    is_none h = subst (λ (o : Option State). kind o) h tt
      where
        kind : Option State → Type 0
        kind None = Unit
        kind (Some y) = ⊥

find_first : (k : ℤ) (t more : Table State) (x : State) → find k t ≡ Some x → find k (t ++ more) ≡ Some x
unfolding find
find_first k [] more x e = absurd (subst kind e tt)
  where
    kind : Option State → Type 0
    kind None = Unit
    kind (Some y) = ⊥
find_first k (y ∷ t) more x e = by (same_second y.0 k) (λ q. rw q (rw q at e)) (λ q. rw q (find_first k t more x (rw q at e)))

-- what the first windows hold stays found
joined_first : (k : ℤ) (tables : ℕ → Table State) (w n : ℕ) (x : State) → w ≤ n → find k (joined tables w) ≡ Some x → find k (joined tables n) ≡ Some x
unfolding joined
joined_first k tables w zero x l e = let q : 0 ≡ w = omega arith in ap (λ (m : ℕ). find k (joined tables m)) q ∙ e
joined_first k tables w (suc n) x l e =
    by (eqb w (suc n))
    (λ q. ap (λ (m : ℕ). find k (joined tables m)) (sym (eqb-true w (suc n) q)) ∙ e)
    (λ q. find_first k (joined tables n) (tables n) x (joined_first k tables w n x (omega (arith, eqb-false w (suc n) q, l)) e))

-- a slot's table is as long as its first number says
pub slot_searched : (s : List Float) (at n : ℕ) (t : Float) (r : Option State) → n ≡ count_of (get_or s at nan) 3500 → Searched s (at + 1) n t r → InSlot s at t r
slot_searched s at n t r e f = record {
  is = λ table k key time orderly slot.
      let few : length table ≤ 3500 = orderly.few in
      let long : length table ≡ n = sym (e ∙ ap (λ (x : Float). count_of x 3500) slot.count ∙ counted (length table) 3500 few (omega (arith, few))) in
      f.is table k (record { key = key; time = time; count = long; orderly = orderly; entries = slot.entries });
}

-- nothing in the first windows
pub record Empty (s : List Float) (first windows : ℕ) (t : Float) (w : ℕ) : Type 0 where
  pub is : (tables : ℕ → Table State) (k : ℤ) → is_key k ≡ true → t ≡ second_time k → SlotsHold s first tables windows → find k (joined tables w) ≡ None

pub empty_none : (s : List Float) (first windows : ℕ) (t : Float) → Empty s first windows t 0
unfolding joined find
empty_none s first windows t = record { is = λ tables k key time h. refl }

module _ (s : List Float) (first windows : ℕ) (t : Float) (w : ℕ) (empty : Empty s first windows t w) where
  next : w < windows → (r : Option State) → InSlot s (first + window_room * w) t r → (tables : ℕ → Table State) (k : ℤ) → is_key k ≡ true → t ≡ second_time k → SlotsHold s first tables windows
      → find k (joined tables (suc w)) ≡ r
  unfolding joined
  next l r f tables k key time h =
      find_both k (joined tables w) (tables w) (empty.is tables k key time h) ∙ sym (f.is (tables w) k key time (h.orderly w l) (h.slots w l))

  pub empty_next : w < windows → (r : Option State) → r ≡ None → InSlot s (first + window_room * w) t r → Empty s first windows t (w + 1)
  empty_next l r e f = record {
    is = λ tables k key time h.
        let q : suc w ≡ w + 1 = omega arith in
        ap (λ (m : ℕ). find k (joined tables m)) (sym q) ∙ next l r f tables k key time h ∙ e;
  }

  pub slot_found : w < windows → (r : Option State) (x : State) → r ≡ Some x → InSlot s (first + window_room * w) t r → InSlots s first windows t (Some x)
  slot_found l r x e f = record {
    is = λ tables k key time h.
        (sym (joined_first k tables (suc w) windows x l (next l r f tables k key time h ∙ e)));
  }

-- ---- the guard

pub no_room : (s : List Float) (first windows : ℕ) (k : ℤ) → ((tables : ℕ → Table State) → SlotsHold s first tables windows → windows ≡ 0) → Looked s first windows k None
unfolding joined find
no_room s first windows k e = record {
  is = λ tables key h. (sym (ap (λ (m : ℕ). find k (joined tables m)) (e tables h)));
}

pub looked : (s : List Float) (first windows : ℕ) (k : ℤ) (t : Float) (r : Option State) → t ≡ second_time k → InSlots s first windows t r → Looked s first windows k r
looked s first windows k t r e f = record { is = λ tables key h. f.is tables k key e h }
