-- The look-ups of one observation, and slots that stay. Assumes nothing.
use mathlib.Core.Path.{◌≡◌, ap, ◌∙◌, subst}
use mathlib.Core.Bool.{true}
use Rattle.std.specs.Prelude.{Option}
use mathlib.Core.List.{List, [], ◌∷◌}
use Prim.Native.Nat.{ℕ, zero, suc, ◌+◌, ◌*◌, ◌≤◌, ◌<◌}
use native.Mathlib.Omega.{arith}
use lib.IntN.{ℤ, pos}
use lib.Ieee.{Float, nan}
use lib.ListN.{length, get_or}
use borrow.Author.Tests.{le-leb}
use Rattle.std.specs.List.{list_all}
use Rattle.laws.specs.Checks.{is_time, is_key, time_says}
use Rattle.laws.specs.Times.{Time, natural, natural_bound, second_is}
use Rattle.laws.specs.Bools.{by, holds, left_true, right_true}
use Rattle.numbers.specs.Seconds.{is_held, whole_second}
use Rattle.finality.specs.Tables.{Table, find}
use Rattle.integrate.specs.Room.{Only}
use Rattle.integrate.specs.RowsBySecond.{values_in}
use Rattle.integrate.specs.declared.kernel.State.{State}
use Rattle.windows.specs.Windows.{slot_at}
use Rattle.windows.proofs.Filling.{slot_same}
use Rattle.slots.specs.LookUp.{joined, SlotsHold, Looked}
use Rattle.epoch.specs.Work.{sighting_of}
use Rattle.epoch.specs.declared.Sighting.{Sighting}
use Rattle.kept_epochs.specs.KeptEpochs.{Given, Stand, Found}
use Rattle.inputs.specs.Inputs.{window_room, slot_room, fit_room, Pair}

-- ---- the whole second of a time is a key

key_number : (n : ℕ) → n ≤ 2147483648 → is_key (pos n) ≡ true
unfolding is_key
key_number n h = rw (le-leb 0 n (omega arith), le-leb n 2147483648 h)

pub key_second : (t : Float) → is_time t ≡ true → is_key (whole_second t) ≡ true
unfolding whole_second
key_second t h =
    let at : Time t = time_says t (holds (is_time t) h) in
    by (is_held t)
    (λ e. rw e (ap is_key (second_is t at) ∙ key_number (natural t) (natural_bound t at)))
    (λ e. rw e (key_number 0 (omega arith)))

-- ---- a time of the list

pub time_at : (ts : List Float) (i : ℕ) → list_all is_time ts ≡ true → i < length ts → is_time (get_or ts i nan) ≡ true
time_at [] i h l = absurd (omega arith)
time_at (t ∷ ts) zero h l = left_true (is_time t) (list_all is_time ts) h
time_at (t ∷ ts) (suc i) h l = time_at ts i (right_true (is_time t) (list_all is_time ts) h) (omega arith)

-- ---- what was found

module _ (first windows : ℕ) (accs : Pair) (s : List Float) (t : Float) (k : ℤ) (ek : k ≡ whole_second t) where
  state_found : (at : ℕ) (h : Option State) → Looked s at windows k h → is_time t ≡ true → (c : ℕ → Table State) → SlotsHold s at c windows → h ≡ find (whole_second t) (joined c windows)
  state_found at h l tm c st = l.is c (ap is_key ek ∙ key_second t tm) st ∙ ap (λ (k : ℤ). find k (joined c windows)) ek

  pub found : (x y : Option State) (p q : Option Float) (r : Option Sighting) → Looked s first windows k x → Looked s (first + slot_room) windows k y →
      p ≡ find k (values_in accs.c) → q ≡ find k (values_in accs.d) → r ≡ sighting_of x y p q → Found first windows accs s t r
  found x y p q r l₁ l₂ ep eq er = record {
    is = λ tm c d sc sd. er ∙ (λ i. sighting_of (state_found first x l₁ tm c sc i) (state_found (first + slot_room) y l₂ tm d sd i)
        ((ep ∙ ap (λ (k : ℤ). find k (values_in accs.c)) ek) i) ((eq ∙ ap (λ (k : ℤ). find k (values_in accs.d)) ek) i));
  }

-- ---- slots behind a change stay

slots_stay : (base first : ℕ) (s s' : List Float) (c : ℕ → Table State) (windows : ℕ) → base ≤ first → Only 0 base s s' → SlotsHold s first c windows → SlotsHold s' first c windows
slots_stay base first s s' c windows h o st = record {
  room = omega (arith, st.room, o.long);
  slots = λ w l. slot_same (first + window_room * w) s s' (c w) (st.orderly w l).few (λ k p q. o.same k (λ a b. omega arith)) (st.slots w l);
  orderly = st.orderly;
}

pub stand_stays : (g : Given) (base : ℕ) (s s' : List Float) (c d : ℕ → Table State) → Only 0 base s s' → Stand g base s c d → Stand g base s' c d
stand_stays g base s s' c d o st = record {
  of_c = slots_stay base (slot_at base 0 0) s s' c g.windows (omega arith) o st.of_c;
  of_d = slots_stay base (slot_at base 1 0) s s' d g.windows (omega arith) o st.of_d;
}

-- the first slots, as the code has them
pub stand_found : (g : Given) (base : ℕ) (s : List Float) (t : Float) (r : Option Sighting) (c d : ℕ → Table State) → Found (base + fit_room) g.windows g.accs s t r → is_time t ≡ true
    → Stand g base s c d →
    r ≡ sighting_of (find (whole_second t) (joined c g.windows)) (find (whole_second t) (joined d g.windows))
    (find (whole_second t) (values_in g.accs.c)) (find (whole_second t) (values_in g.accs.d))
stand_found g base s t r c d f tm st =
    let ec : slot_at base 0 0 ≡ base + fit_room = omega arith in
    let ed : slot_at base 1 0 ≡ base + fit_room + slot_room = omega arith in
    f.is tm c d (subst (λ (at : ℕ). SlotsHold s at c g.windows) ec st.of_c) (subst (λ (at : ℕ). SlotsHold s at d g.windows) ed st.of_d)
