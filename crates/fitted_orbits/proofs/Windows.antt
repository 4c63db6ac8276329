-- Laws of the windows that are added, one after the other. Assumes nothing.
use Rattle.std.specs.Prelude.{Err, Ok, Option}
use mathlib.Core.Path.{◌≡◌, refl, sym, ap, ◌∙◌, subst}
use mathlib.Core.Bool.{Bool, false}
use mathlib.Core.List.{List, [], ◌∷◌, ◌++◌, map, append_assoc, append-nil}
use Prim.Native.Nat.{ℕ, zero, suc, ◌+◌, ◌*◌, ◌≤◌, ◌<◌}
use native.Mathlib.Numerals.{add-one}
use native.Mathlib.Omega.{arith}
use lib.Dec.{T}
use lib.IntN.{ℤ, pos}
use lib.Ieee.{Float, nan, lt}
use lib.ListN.{length, take, get_or, set, replicate, length-append, length-map, length-set}
use lib.Ieee.Bits.{is_true}
use Rattle.slices.specs.declared.refusal.Refusal.{Refusal}
use Rattle.inputs.specs.Inputs.{front_size}
use Rattle.inputs.specs.Lent.{model_of, keyed_of}
use Rattle.finality.specs.Brackets.{covers}
use Rattle.integrate.specs.Force.{full_force}
use Rattle.windows.specs.declared.kernel.Track.{Track}
use Rattle.fit.specs.Room.{work_size}
use Rattle.laws.specs.Floats.{zero64, ◌⊖◌}
use Rattle.laws.specs.Lists.{map_append}
use Rattle.laws.specs.Tables.{row}
use Rattle.laws.specs.Loops.{filled_up, filled_set, filled_none}
use Rattle.finality.specs.Tables.{Table, key_of}
use Rattle.finality.specs.Arcs.{longest, start, steps, arc_of, inside}
use Rattle.vectors.specs.declared.Vector.{Vector}
use Rattle.integrate.specs.Room.{Run}
use Rattle.integrate.specs.declared.kernel.State.{State}
use Rattle.integrate.specs.declared.kernel.Arc.{Arc as ArcStruct}
use Rattle.fit.specs.Fit.{Fit, fit_of, orbit_of, state_for}
use Rattle.fit.specs.WorkLeaves.{arc_serves, Fits, ArcFit}
use Rattle.windows.specs.Stage.{arc_struct}
use Rattle.windows.specs.Windows.{arc_between}
use Rattle.windows.proofs.Arcs.{Fine}
use Rattle.windows.proofs.Filling.{arc_is, track_fits as windows_track_fits}
use Rattle.fitted_orbits.specs.declared.work.Done.{Done}
use Rattle.fitted_orbits.specs.Orbits.{Window, unless_refused, window_fit, between, joined, numbers_of}
use Rattle.fitted_orbits.specs.Calls.{Outputs, outputs, listed}
use Rattle.fitted_orbits.specs.Work.{read_run, Tabled, Joins, SoFar, Adds}
use Rattle.fitted_orbits.proofs.Keeping.{run_read}

abbrev pub start_done : Done
start_done = record { states = 0; windows = 0 }

-- ---- windows end to end

pub joined_append : (xs ys : List Window) → joined (xs ++ ys) ≡ joined xs ++ joined ys
unfolding joined
joined_append [] ys = refl
joined_append (w ∷ xs) ys = ap (λ (l : Table State). w.1 ++ l) (joined_append xs ys) ∙ sym (append_assoc w.1 (joined xs) (joined ys))

joined_one : (ws : List Window) (x : Float) (table : Table State) → joined (ws ++ ((x, table) ∷ [])) ≡ joined ws ++ table
unfolding joined
joined_one ws x table = joined_append ws ((x, table) ∷ []) ∙ ap (λ (l : Table State). joined ws ++ l) (append-nil table)

-- ---- one more

pub so_far_none : (k : ℕ) (o : Outputs) → o ≡ listed k [] → SoFar k [] start_done o
unfolding joined
so_far_none k o e = record { windows = refl; states = refl; outputs = e }

so_far_more : (k : ℕ) (ws : List Window) (done : Done) (o : Outputs) (x : Float) (table : Table State) (n : ℕ) (keys' : List ℤ) (states' : List Float) →
    done.states + 3500 ≤ 3500 * k → done.windows + 1 ≤ k → SoFar k ws done o → Joins table done.states n o.keys keys' o.states states' →
    SoFar k (ws ++ ((x, table) ∷ [])) (record { states = n; windows = done.windows + 1 }) (outputs keys' states' (set o.rms done.windows x))
unfolding listed
so_far_more k ws done o x table n keys' states' hs hw f j =
    let ew : done.windows ≡ length ws = f.windows in
    let is : joined (ws ++ ((x, table) ∷ [])) ≡ joined ws ++ table = joined_one ws x table in
    let t : Tabled (3500 * k) (joined ws ++ table) n keys' states' =
    j.all (3500 * k) (joined ws) hs (record { counted = f.states; seconds = ap (λ (y : Outputs). y.keys) f.outputs; numbers = ap (λ (y : Outputs). y.states) f.outputs }) in
    let rms : set o.rms done.windows x ≡ filled_up zero64 k (map (λ (w : Window). w.0) (ws ++ ((x, table) ∷ []))) =
    ap (λ (l : List Float). set l done.windows x) (ap (λ (y : Outputs). y.rms) f.outputs)
    ∙ filled_set zero64 x k done.windows (map (λ (w : Window). w.0) ws) (omega (arith, ew, length-map ws (λ (w : Window). w.0))) (omega arith)
    ∙ ap (filled_up zero64 k) (sym (map_append (λ (w : Window). w.0) ws ((x, table) ∷ []))) in
    record {
      windows = omega (arith, ew, length-append ws ((x, table) ∷ []));
      states = t.counted ∙ ap (λ (l : Table State). length l) (sym is);
      outputs = λ i. outputs
          ((t.seconds ∙ ap (λ (l : Table State). filled_up (pos 0) (3500 * k) (map key_of l)) (sym is)) i)
          ((t.numbers ∙ ap (λ (l : Table State). filled_up zero64 (6 * (3500 * k)) (numbers_of l)) (sym is)) i)
          (rms i);
    }

-- ---- what is added

pub adds_none : (n : ℕ) (done : Done) (o : Outputs) → Adds [] n done done o o
adds_none n done o = record {
  all = λ k ws hs hw f. let same : ws ++ [] ≡ ws = append-nil ws in subst (λ (l : List Window). SoFar k l done o) (sym same) f;
  states = omega arith;
  windows = omega arith;
  long_keys = refl;
  long_states = refl;
  long_rms = refl;
}

pub adds_then : (xs ys : List Window) (n : ℕ) (d r r' : Done) (o o' o'' : Outputs) → Adds xs n d r o o' → Adds ys 1 r r' o' o'' → Adds (xs ++ ys) (n + 1) d r' o o''
adds_then xs ys n d r r' o o' o'' f g = record {
  all = λ k ws hs hw s.
      let a = f.states in
      let b = f.windows in
      let first : SoFar k (ws ++ xs) r o' = f.all k ws (omega arith) (omega arith) s in
      subst (λ (l : List Window). SoFar k l r' o'') (append_assoc ws xs ys) (g.all k (ws ++ xs) (omega arith) (omega arith) first);
  states = let a = f.states in let b = g.states in omega arith;
  windows = let a = f.windows in let b = g.windows in omega arith;
  long_keys = g.long_keys ∙ f.long_keys;
  long_states = g.long_states ∙ f.long_states;
  long_rms = g.long_rms ∙ f.long_rms;
}

-- ---- one window

module _ (covered : Float → Bool) (full : Float → Vector → Vector) (look : Float → Option State) (a b : Float) where
  abbrev arc : ArcStruct
  arc = arc_struct (arc_of a b)

  abbrev table : Table State
  table = inside (start a) a b 0 (row (orbit_of full look arc) (suc (steps a b)))

  -- a long window is skipped
  pub long_adds : (done : Done) (o : Outputs) → lt (b ⊖ a) longest ≡ false → Adds (window_fit covered full look a b) 1 done done o o
  unfolding window_fit
  long_adds done o e = subst (λ (l : List Window). Adds l 1 done done o o) (sym none) (adds_none 1 done o)
    where
      none : window_fit covered full look a b ≡ []
      none = rw e refl

  short_window : T (lt (b ⊖ a) longest) → (answer : Fit) → answer ≡ fit_of covered full look arc → window_fit covered full look a b ≡ unless_refused answer table
  unfolding window_fit
  short_window short answer e = rw (is_true (lt (b ⊖ a) longest) short) (ap (λ (x : Fit). unless_refused x table) (sym e))

  module _ (sh : Fine a b) where
    -- a refused fit is skipped
    pub refused_adds : (N : ℕ) (s s₁ : List Float) (done : Done) (o : Outputs) (answer : Fit) (code : Refusal) → answer ≡ Err code → Fits covered full look arc s s₁ (front_size N) answer →
        Adds (window_fit covered full look a b) 1 done done o o
    refused_adds N s s₁ done o answer code e f = subst (λ (l : List Window). Adds l 1 done done o o) (sym (short_window sh.short (Err code) (sym e ∙ f.said))) (adds_none 1 done o)

    -- else its states and its rms are added
    fitted_adds : (N : ℕ) (s s₁ : List Float) (base : ℕ) (arc₁ : ArcStruct) (done : Done) (o : Outputs) (answer : Fit) (x : Float) (n : ℕ) (keys' : List ℤ) (states' : List Float) →
        answer ≡ Ok x → base ≡ front_size N → arc₁ ≡ arc_between a b → Fits covered full look arc s s₁ (front_size N) answer →
        Joins (inside arc₁.t0 a b 0 (row (read_run s₁ base) (arc₁.steps + 1))) done.states n o.keys keys' o.states states' →
        Adds (window_fit covered full look a b) 1 done (record { states = n; windows = done.windows + 1 }) o (outputs keys' states' (set o.rms done.windows x))
    fitted_adds N s s₁ base arc₁ done o answer x n keys' states' e eb ea f j = subst (λ (l : List Window). Adds l 1 done r o o') (sym (short_window sh.short (Ok x) (sym e ∙ f.said))) (record {
      all = λ k ws hs hw g. so_far_more k ws done o x table n keys' states' (omega arith) hw g j';
      states = omega (arith, j.few);
      windows = omega arith;
      long_keys = j.long_keys;
      long_states = j.long_states;
      long_rms = length-set o.rms done.windows x;
    })
      where
        r : Done
        r = record { states = n; windows = done.windows + 1 }

        o' : Outputs
        o' = outputs keys' states' (set o.rms done.windows x)

        run : Run
        run = orbit_of full look arc

        read : row (read_run s₁ base) (suc (steps a b)) ≡ row run (suc (steps a b))
        read = ap (λ (m : ℕ). row (read_run s₁ m) (suc (steps a b))) eb ∙ run_read s₁ (front_size N) run (steps a b + 1) (f.states x e) (suc (steps a b)) (omega arith)

        same : inside arc₁.t0 a b 0 (row (read_run s₁ base) (arc₁.steps + 1)) ≡ table
        same =
            ap (λ (y : ArcStruct). inside y.t0 a b 0 (row (read_run s₁ base) (y.steps + 1))) (arc_is a b sh arc₁ ea)
            ∙ ap (λ (m : ℕ). inside (start a) a b 0 (row (read_run s₁ base) m)) (add-one (steps a b))
            ∙ ap (λ (l : List State). inside (start a) a b 0 l) read

        j' : Joins table done.states n o.keys keys' o.states states'
        j' = subst (λ (l : Table State). Joins l done.states n o.keys keys' o.states states') same j

    -- the same, from what the calls gave
    pub fitted_adds_at : (N : ℕ) (s s₁ : List Float) (base : ℕ) (arc₁ : ArcStruct) (done : Done) (o : Outputs) (answer : Fit) (x : Float) (n : ℕ) (keys' : List ℤ) (states' : List Float) (w : ℕ)
        (rms' : List Float) →
        answer ≡ Ok x → base ≡ front_size N → arc₁ ≡ arc_between a b → Fits covered full look arc s s₁ (front_size N) answer →
        Joins (inside arc₁.t0 a b 0 (row (read_run s₁ base) (arc₁.steps + 1))) done.states n o.keys keys' o.states states' → w ≡ done.windows + 1 → rms' ≡ set o.rms done.windows x →
        Adds (window_fit covered full look a b) 1 done (record { states = n; windows = w }) o (outputs keys' states' rms')
    fitted_adds_at N s s₁ base arc₁ done o answer x n keys' states' w rms' e eb ea f j ew er =
        subst (λ (m : ℕ). Adds (window_fit covered full look a b) 1 done (record { states = n; windows = m }) o (outputs keys' states' rms')) (sym ew)
        (subst (λ (l : List Float). Adds (window_fit covered full look a b) 1 done (record { states = n; windows = done.windows + 1 }) o (outputs keys' states' l)) (sym er)
        (fitted_adds N s s₁ base arc₁ done o answer x n keys' states' e eb ea f j))

-- the fit of a window over the lists of a track
pub track_fits : (t : Track) (a b : Float) → Fine a b → (s s₁ : List Float) (x : ArcStruct) (answer : Fit) → t.base + work_size ≤ length s → x ≡ arc_between a b →
    ArcFit (arc_serves t.model.degree x.steps t.states.keys.now (length t.states.values.now) (length s)) (covers t.model.field_times.now) (full_force (model_of t.model))
    (state_for (keyed_of t.states)) x s s₁ (front_size t.model.degree) answer →
    Fits (covers t.model.field_times.now) (full_force (model_of t.model)) (state_for (keyed_of t.states)) (arc_struct (arc_of a b)) s s₁ (front_size t.model.degree) answer
track_fits t a b sh s s₁ x answer room e f =
    subst (λ (base : ℕ). Fits (covers t.model.field_times.now) (full_force (model_of t.model)) (state_for (keyed_of t.states)) (arc_struct (arc_of a b)) s s₁ base answer) t.placed
    (windows_track_fits t a b sh s s₁ x answer room e f)

-- ---- window after window

between_more : {X : Type 0} (f : Float → Float → List X) (nodes : List Float) (w : ℕ) → suc w < length nodes →
    between f (take (suc (suc w)) nodes) ≡ between f (take (suc w) nodes) ++ f (get_or nodes w nan) (get_or nodes (suc w) nan)
unfolding between
between_more f [] w h = absurd (omega arith)
between_more f (a ∷ []) w h = absurd (omega arith)
between_more f (a ∷ b ∷ nodes) zero h = append-nil (f a b)
between_more {X} f (a ∷ b ∷ nodes) (suc w) h =
    ap (λ (l : List X). f a b ++ l) (between_more f (b ∷ nodes) w (omega arith))
    ∙ sym (append_assoc (f a b) (between f (take (suc w) (b ∷ nodes))) (f (get_or (b ∷ nodes) w nan) (get_or (b ∷ nodes) (suc w) nan)))

between_first : {X : Type 0} (f : Float → Float → List X) (nodes : List Float) → between f (take 1 nodes) ≡ []
unfolding between
between_first f [] = refl
between_first f (a ∷ nodes) = refl

module _ (f : Float → Float → List Window) (nodes : List Float) where
  pub each_none : (o : Outputs) → Adds (between f (take (0 + 1) nodes)) 0 start_done start_done o o
  each_none o = subst (λ (l : List Window). Adds l 0 start_done start_done o o) (sym (between_first f nodes)) (adds_none 0 start_done o)

  pub each_more : (w : ℕ) (d r : Done) (o o' o'' : Outputs) → w + 1 < length nodes → Adds (between f (take (w + 1) nodes)) w start_done d o o' →
      Adds (f (get_or nodes w nan) (get_or nodes (w + 1) nan)) 1 d r o' o'' → Adds (between f (take (w + 1 + 1) nodes)) (w + 1) start_done r o o''
  each_more w d r o o' o'' h x y =
      subst (λ (l : List Window). Adds l (w + 1) start_done r o o'') (sym next)
      (adds_then (between f (take (w + 1) nodes)) (f (get_or nodes w nan) (get_or nodes (w + 1) nan)) w start_done d r o o' o'' x y)
    where
      one : w + 1 ≡ suc w
      one = add-one w

      two : w + 1 + 1 ≡ suc (suc w)
      two = omega arith

      next : between f (take (w + 1 + 1) nodes) ≡ between f (take (w + 1) nodes) ++ f (get_or nodes w nan) (get_or nodes (w + 1) nan)
      next =
          ap (λ (m : ℕ). between f (take m nodes)) two
          ∙ between_more f nodes w (omega arith)
          ∙ ap (λ (m : ℕ). between f (take m nodes) ++ f (get_or nodes w nan) (get_or nodes m nan)) (sym one)

-- ---- all windows, from empty outputs

pub cleared_listed : (k : ℕ) (keys keys' : List ℤ) (states states' rms rms' : List Float) → keys' ≡ replicate (length keys) (pos 0) → states' ≡ replicate (length states) zero64
    → rms' ≡ replicate (length rms) zero64 →
    length keys ≡ 3500 * k → length states ≡ 6 * (3500 * k) → length rms ≡ k → outputs keys' states' rms' ≡ listed k []
unfolding listed joined numbers_of
cleared_listed k keys keys' states states' rms rms' ek es er lk ls lr = λ i. outputs
    ((ek ∙ filled_none (pos 0) (length keys) (3500 * k) lk) i)
    ((es ∙ filled_none zero64 (length states) (6 * (3500 * k)) ls) i)
    ((er ∙ filled_none zero64 (length rms) k lr) i)

pub filled : (k : ℕ) (ws : List Window) (r : Done) (o o' : Outputs) → o ≡ listed k [] → Adds ws k start_done r o o' → SoFar k ws r o'
filled k ws r o o' e f = f.all k [] (omega arith) (omega arith) (so_far_none k o e)
