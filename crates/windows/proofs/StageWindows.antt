-- What a window leaves by the code's force and look-up is what the stage's window leaves. Assumes nothing.
use Rattle.std.specs.Prelude.{Option}
use Rattle.std.proofs.Common.{◌≡◌, ℕ, ◌*◌, ◌≤◌, Bool, true, false, ◌&&◌, T, leb, List, ℤ, pos, sym, refl, ap, ◌∙◌, subst, arith, le-leb}
use lib.Ieee.{Float, fin, le, lt}
use lib.Ieee.Bits.{is_true}
use lib.Ieee.Fits.{and_i}
use Rattle.inputs.specs.Inputs.{Model, Keyed}
use Rattle.laws.specs.Floats.{◌⊖◌}
use Rattle.laws.specs.Order.{lt→le}
use Rattle.laws.specs.WholeNumbers.{Is, is_le, is_lt}
use Rattle.laws.specs.Bools.{by}
use Rattle.laws.specs.Times.{step_time}
use Rattle.numbers.specs.Seconds.{is_held}
use Rattle.vectors.specs.declared.Vector.{Vector}
use Rattle.model.specs.Model.{field_at}
use Rattle.finality.specs.Brackets.{covers}
use Rattle.finality.specs.Tables.{find}
use Rattle.finality.specs.Arcs.{longest, start, steps, arc_of, inside, window_of}
use Rattle.finality.proofs.WindowTimes.{k_le, P-le, N-le, steps_le, step_is, steps_short}
use Rattle.integrate.specs.Force.{full_force}
use Rattle.integrate.specs.RowsBySecond.{states_in}
use Rattle.integrate.proofs.Published.{Sized}
use Rattle.integrate.specs.declared.kernel.State.{State}
use Rattle.fit.specs.Fit.{fit_of, orbit_of, state_for}
use Rattle.fit.proofs.Locality.{SameReads, fit_same, orbit_same}
use Rattle.windows.specs.Stage.{full_of, arc_struct, look_of, states_of, fit_from, fit_stage}
use Rattle.windows.specs.Windows.{window_by, Ends}
use Rattle.windows.proofs.Times.{start_is}
use Rattle.windows.proofs.Lawful.{states_same}
use Rattle.windows.proofs.Meaning.{full_is, look_is}

lower_is : Is (fin true 1 (pos 63)) 0 9223372036854775808
lower_is = record { is_finite = tt; value = refl }

upper_is : Is (fin false 1 (pos 63)) 9223372036854775808 0
upper_is = record { is_finite = tt; value = refl }

both_hold : (b c : Bool) → T b → T c → b && c ≡ true
both_hold b c q r = is_true (b && c) (and_i b c q r)

module _ (a b : Float) (e : Ends a b) where
  abbrev ab : T (le a b)
  ab = lt→le a b e.order

  -- every step's second is an i64
  held_step : (i : ℕ) → i ≤ steps a b → is_held (step_time (start a) i) ≡ true
  unfolding step_time
  held_step i h =
      let s = step_is a b e.from e.to ab i h in
      let p = P-le a b e.from e.to ab in
      let n = N-le a b e.from e.to ab in
      let kk = k_le a b e.from e.to ab in
      let m = steps_le a b e.from e.to ab in
      both_hold (le (fin true 1 (pos 63)) (step_time (start a) i)) (lt (step_time (start a) i) (fin false 1 (pos 63)))
      (is_le (fin true 1 (pos 63)) (step_time (start a) i) 0 9223372036854775808 _ _ lower_is s (omega (arith, n)))
      (is_lt (step_time (start a) i) (fin false 1 (pos 63)) _ _ 9223372036854775808 0 s upper_is (omega (arith, p, n, kk, m, h)))

  held_start : is_held (start a) ≡ true
  held_start =
      let s = start_is a b e.from e.to ab in
      let p = P-le a b e.from e.to ab in
      let n = N-le a b e.from e.to ab in
      let kk = k_le a b e.from e.to ab in
      both_hold (le (fin true 1 (pos 63)) (start a)) (lt (start a) (fin false 1 (pos 63))) (is_le (fin true 1 (pos 63)) (start a) 0 9223372036854775808 _ _ lower_is s (omega (arith, n)))
      (is_lt (start a) (fin false 1 (pos 63)) _ _ 9223372036854775808 0 s upper_is (omega (arith, p, n, kk)))

  module _ (covered : Float → Bool) (full : Float → Vector → Vector) (look look' : Float → Option State) (same : (i : ℕ) → i ≤ steps a b → look (step_time (start a) i) ≡ look' (step_time (start a) i))
      (first : look (start a) ≡ look' (start a)) where
    reads : SameReads covered covered full full look look' (arc_struct (arc_of a b))
    reads = record {
      first = refl;
      last = refl;
      force = record { start = λ i h x. refl; middle = λ i h x. refl; end = λ i h x. refl };
      start = first;
      places = λ i h. same (5 * i) (omega arith);
    }

    pub look_same : steps a b ≤ 5302 → states_of (fit_of covered full look (arc_struct (arc_of a b))) (orbit_of full look (arc_struct (arc_of a b))) (steps a b)
        ≡ states_of (fit_of covered full look' (arc_struct (arc_of a b))) (orbit_of full look' (arc_struct (arc_of a b))) (steps a b)
    look_same l =
        states_same _ _ _ _ (steps a b) (fit_same covered covered full full look look' (arc_struct (arc_of a b)) l reads)
        (λ i h. orbit_same covered covered full full look look' (arc_struct (arc_of a b)) l reads i (omega arith))

pub window_is : (M : Model) (l : Keyed) → Sized M → (a b : Float) → Ends a b →
    window_by (covers M.fields.field_times) (full_force M) (state_for l) a b
    ≡ window_of (fit_stage M.fixed) (covers M.fields.field_times) (field_at M) (λ (key : ℤ). find key (states_in l)) a b
unfolding window_by window_of fit_from
window_is M l fit a b e =
    by (lt (b ⊖ a) longest)
    (λ t.
    let short : T (lt (b ⊖ a) longest) = subst T (sym t) tt in
    let few : steps a b ≤ 5302 = let h = steps_short a b e.from e.to (lt→le a b e.order) short in omega (arith, h) in
    let within : leb (steps a b) 5302 ≡ true = le-leb (steps a b) 5302 few in
    let full : Float → Vector → Vector = full_of M.fixed (field_at M) in
    let look' : Float → Option State = look_of (λ (key : ℤ). find key (states_in l)) in
    rw (t, within) (ap (λ (l : List State). inside (start a) a b 0 l)
    ((λ i. states_of (fit_of (covers M.fields.field_times) (λ u x. full_is M fit u x i) (state_for l) (arc_struct (arc_of a b)))
    (orbit_of (λ u x. full_is M fit u x i) (state_for l) (arc_struct (arc_of a b))) (steps a b))
    ∙ look_same a b e (covers M.fields.field_times) full (state_for l) look' (λ i h. look_is l (step_time (start a) i) (held_step a b e i h))
    (look_is l (start a) (held_start a b e)) few)))
    (λ t. rw t refl)
