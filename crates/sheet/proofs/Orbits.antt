-- The windows that the code fits are those of the submission's stages, all of them end to end are its fitted orbits, and each can be searched. Assumes nothing.
use mathlib.Core.Path.{◌≡◌, refl, sym, ap, ◌∙◌, subst}
use mathlib.Core.Bool.{Bool}
use mathlib.Core.List.{List, [], ◌∷◌, ◌++◌}
use Rattle.std.specs.Prelude.{Option}
use Prim.Native.Nat.{ℕ, zero, suc, ◌+◌, ◌-◌, ◌≤◌}
use native.Mathlib.Numerals.{add-one}
use native.Mathlib.Omega.{arith}
use lib.Dec.{T, le→leb, ltb→lt}
use lib.IntN.{ℤ, pos, negsuc}
use lib.Signed.{lt_z, le_z}
use lib.ListN.{length, get_or}
use mathlib.Core.List.{append_assoc, append-nil}
use lib.Ieee.{Float, nan, le, lt, of_int}
use lib.Ieee.Fits.{and_i}
use Rattle.inputs.specs.Inputs.{Keyed, Fixed, Lists, model_in}
use Rattle.laws.specs.Floats.{zero⁺}
use Rattle.laws.specs.Lists.{All}
use Rattle.laws.specs.Order.{lt_le_tr}
use Rattle.laws.specs.Checks.{is_key}
use Rattle.laws.specs.Times.{Time, bound, second_time, second_below}
use Rattle.finality.specs.Tables.{Table, find}
use Rattle.finality.specs.Brackets.{covers}
use Rattle.finality.specs.Arcs.{window_of}
use Rattle.finality.specs.Kernels.{stages_of}
use Rattle.finality.specs.Sheet.{orbits, covered_in, field_in}
use Rattle.finality.proofs.ArcFits.{starts, ends, rises, leaves}
use Rattle.model.specs.Model.{field_at}
use Rattle.model.proofs.Stages.{timed_times, field_bracketed}
use Rattle.integrate.specs.Force.{full_force}
use Rattle.integrate.specs.RowsBySecond.{states_in}
use Rattle.integrate.proofs.Published.{Sized}
use Rattle.integrate.specs.declared.kernel.State.{State}
use Rattle.fit.specs.Fit.{state_for}
use Rattle.windows.specs.Stage.{fit_stage}
use Rattle.windows.specs.Windows.{window_by, Ends}
use Rattle.windows.proofs.Lawful.{lawful_fit}
use Rattle.windows.proofs.StageWindows.{window_is}
use Rattle.slots.specs.LookUp.{joined, Orderly}
use Rattle.sheet.specs.Stages.{kernels}
use Rattle.sheet.specs.Submission.{submission_of}

-- ---- the model

-- the lengths of a setting and of a submission's fields are those of an accepted model
abbrev pub ModelFits : Fixed → Lists → Type 0
ModelFits S l = Sized (model_in S l)

module _ (S : Fixed) (l : Lists) (few : 2 ≤ length l.fields.field_times) where
  pub field_is : (t : Float) → field_at (model_in S l) t ≡ field_in (stages_of (kernels S)) (submission_of S l) t
  field_is t = field_bracketed S.degree [] S.static S.a S.b l.fields.field_times l.fields.added t few

  pub covered_is : (t : Float) → covers l.fields.field_times t ≡ covered_in (stages_of (kernels S)) (submission_of S l) t
  covered_is t = ap (λ (ts : List Float). covers ts t) (sym (timed_times S.degree l.fields.field_times l.fields.added))

  -- ---- one window

  abbrev pub window_in : Keyed → Float → Float → Table State
  window_in states = window_of (fit_stage S) (covered_in (stages_of (kernels S)) (submission_of S l)) (field_in (stages_of (kernels S)) (submission_of S l)) (λ (k : ℤ). find k (states_in states))

  pub fitted_window : ModelFits S l → (states : Keyed) (a b : Float) → Ends a b →
      window_by (covers l.fields.field_times) (full_force (model_in S l)) (state_for states) a b ≡ window_in states a b
  fitted_window fits states a b e =
      window_is (model_in S l) states fits a b e
      ∙ (λ i. window_of (fit_stage S) (λ t. covered_is t i) (λ t. field_is t i) (λ (k : ℤ). find k (states_in states)) a b)

-- ---- all windows end to end

joined_front : {X : Type 0} (tables : ℕ → Table X) (n : ℕ) → joined tables (suc n) ≡ tables 0 ++ joined (λ (w : ℕ). tables (suc w)) n
unfolding joined
joined_front tables zero = sym (append-nil (tables 0))
joined_front {X} tables (suc n) = ap (λ (t : Table X). t ++ tables (suc n)) (joined_front tables n) ∙ append_assoc (tables 0) (joined (λ (w : ℕ). tables (suc w)) n) (tables (suc n))

module _ (S : Fixed) (c : Float → Bool) (m : Float → List Float) (g : ℤ → Option State) where
  -- window w of a list of nodes
  abbrev pub window_at : List Float → ℕ → Table State
  window_at nodes w = window_of (fit_stage S) c m g (get_or nodes w nan) (get_or nodes (w + 1) nan)

  abbrev later : List Float → ℕ → Table State
  later nodes w = window_of (fit_stage S) c m g (get_or nodes w nan) (get_or nodes (suc w) nan)

  later_joined : (a : Float) (ns : List Float) → joined (later (a ∷ ns)) (length ns) ≡ orbits (stages_of (kernels S)) c m g (a ∷ ns)
  unfolding joined orbits
  later_joined a [] = refl
  later_joined a (b ∷ ns) =
      joined_front (later (a ∷ b ∷ ns)) (length ns)
      ∙ ap (λ (t : Table State). window_of (fit_stage S) c m g a b ++ t) (later_joined b ns)

  pub windows_joined : (nodes : List Float) → joined (window_at nodes) (length nodes - 1) ≡ orbits (stages_of (kernels S)) c m g nodes
  unfolding joined orbits
  windows_joined [] = refl
  windows_joined (a ∷ ns) =
      let n : suc (length ns) - 1 ≡ length ns = omega arith in
      (λ i. joined (λ (w : ℕ). window_of (fit_stage S) c m g (get_or (a ∷ ns) w nan) (get_or (a ∷ ns) (add-one w i) nan)) (n i)) ∙ later_joined a ns

-- ---- a window's seconds are keys in order

below_zero : T (lt (second_time (negsuc 0)) zero⁺)
unfolding of_int lt
below_zero = tt

bound_is : second_time (pos 2147483648) ≡ bound
unfolding of_int
bound_is = refl

not_negative : (k : ℤ) → T (lt_z (negsuc 0) k) → T (le_z (pos 0) k)
not_negative (pos i) h = le→leb 0 i (omega arith)
not_negative (negsuc i) h = absurd (omega (arith, ltb→lt i 0 h))

at_most : (k : ℤ) (n : ℕ) → T (lt_z k (pos n)) → T (le_z k (pos n))
at_most (pos i) n h = le→leb i n (omega (arith, ltb→lt i n h))
at_most (negsuc i) n h = tt

is_key_law : (a b : Float) → Time a → Time b → (k : ℤ) → T (le a (second_time k)) → T (lt (second_time k) b) → T (is_key k)
unfolding is_key
is_key_law a b ta tb k h e =
    and_i (le_z (pos 0) k) (le_z k (pos 2147483648))
    (not_negative k (second_below (negsuc 0) k (lt_le_tr (second_time (negsuc 0)) a (second_time k) (lt_le_tr (second_time (negsuc 0)) zero⁺ a below_zero ta.from_zero) h)))
    (at_most k 2147483648 (second_below k (pos 2147483648) (subst (λ (x : Float). T (lt (second_time k) x)) (sym bound_is) (lt_le_tr (second_time k) b bound e tb.to_bound))))

both : {X : Type 0} (P Q R : X → Type 0) (xs : List X) → ((x : X) → P x → Q x → R x) → All P xs → All Q xs → All R xs
both P Q R [] f p q = tt
both P Q R (x ∷ xs) f p q = (f x p.0 q.0, both P Q R xs f p.1 q.1)

pub window_orderly : (S : Fixed) (c : Float → Bool) (m : Float → List Float) (g : ℤ → Option State) (a b : Float) → Ends a b → Orderly (window_of (fit_stage S) c m g a b)
window_orderly S c m g a b e = record {
  few = leaves (fit_stage S) (lawful_fit S) a b e.from e.to e.order c m g;
  rises = rises (fit_stage S) (lawful_fit S) a b e.from e.to e.order c m g;
  keys = both (λ (x : ℤ × State). T (le a (second_time x.0))) (λ (x : ℤ × State). T (lt (second_time x.0) b)) (λ (x : ℤ × State). T (is_key x.0)) (window_of (fit_stage S) c m g a b)
      (λ x. is_key_law a b e.from e.to x.0)
      (starts (fit_stage S) (lawful_fit S) a b e.from e.to e.order c m g) (ends (fit_stage S) (lawful_fit S) a b e.from e.to e.order c m g);
}
