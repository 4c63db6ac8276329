-- Laws of a round of the fit.
use Rattle.std.proofs.Common.{◌≡◌, ℕ, ◌+◌, ◌*◌, ◌/◌, ◌%◌, ◌<◌, ◌≤◌, true, List, length, get_or, take, drop, sym, refl, ap, ◌∙◌, arith, length-drop, length-take-le, get_or-drop, get_or-take, ext_get_or, le-ltb, eq-eqb}
use lib.Ieee.{Float, nan}
use Rattle.std.specs.Prelude.{Option, Some, None, cond, option_map}
use mathlib.Core.Bool.{Bool, false}
use Rattle.vectors.specs.declared.Vector.{Vector}
use Rattle.integrate.specs.declared.kernel.Arc.{Arc}
use Rattle.integrate.specs.declared.kernel.Force.TheVariants.{Full, J2}
use Rattle.fit.specs.Fit.{Observed, axis, nth, moved_of, updated_of, misfit_at, misfits_of, partial_at, design_of, design_at, misfits_at, improved, regular}
use Rattle.fit.specs.Room.{observed_part, misfit_part, design_part, work_size, Observes, step_number, step_at, place_at}
use Rattle.fit.specs.WorkLeaves.{Linearised, Within, Rounded}
use Rattle.fit.proofs.Columns.{axis_of}
use Rattle.forces.specs.Forces.{j2_of}
use Rattle.inputs.specs.Inputs.{Model}
use Rattle.integrate.specs.Force.{attraction_of, full_force, run_of}
use Rattle.integrate.specs.Room.{Run}
use Rattle.laws.specs.Floats.{◌⊖◌}
use Rattle.laws.specs.Tables.{row, row_at, row_length}
use Rattle.least_squares.specs.Kernel.{shaped15, estimate15}
use Rattle.least_squares.specs.LeastSquares.{solvable, solved}

-- a part of scratch that holds a table
pub part_row : (s : List Float) (at k m : ℕ) (f : ℕ → Float) → k ≡ m → at + m ≤ length s → ((r : ℕ) → r < m → get_or s (at + r) nan ≡ f r) → take k (drop at s) ≡ row f m
part_row s at k m f e h g =
    ap (λ (n : ℕ). take n (drop at s)) e
    ∙ (let long : length (take m (drop at s)) ≡ m = length-take-le m (drop at s) (simp length-drop (omega arith)) in
    ext_get_or nan (take m (drop at s)) (row f m) (long ∙ sym (row_length f m))
    (λ i l. let l' : i < m = omega arith in get_or-take m (drop at s) i nan l' ∙ get_or-drop at s i nan ∙ g i l' ∙ sym (row_at f m i l')))

module _ (s : List Float) (b steps : ℕ) (obs : List Observed) (o : Observes s (b + observed_part) obs) (w : Within obs steps) (r : ℕ) (h : r < 3 * length obs) where
  pub row_step : step_at s b r ≡ (nth obs (r / 3)).step
  unfolding step_at
  row_step = ap step_number (o.step (r / 3) (omega arith)) ∙ (w (r / 3) (omega arith)).1

  pub row_place : place_at s b r ≡ axis (r % 3) (nth obs (r / 3)).place
  unfolding place_at
  row_place = axis_of s (b + observed_part + 4 * (r / 3) + 1) (r % 3) (nth obs (r / 3)).place (o.place (r / 3) (omega arith)) (omega arith)

  pub row_low : step_at s b r ≤ steps
  row_low = omega (arith, row_step, (w (r / 3) (omega arith)).0)

-- the misfits as a list
pub misfit_list : (full : Run) (s s' : List Float) (b n k steps : ℕ) (obs : List Observed) → k ≡ 3 * n → length obs ≡ n → n ≤ 1061 → b + work_size ≤ length s' → Observes s (b + observed_part) obs
    → Within obs steps →
    ((r : ℕ) → r < 3 * n → step_at s b r ≤ steps → get_or s' (b + misfit_part + r) nan ≡ place_at s b r ⊖ axis (r % 3) (full (step_at s b r)).position) →
    take k (drop (b + misfit_part) s') ≡ misfits_of full obs
unfolding misfits_of misfit_at
misfit_list full s s' b n k steps obs e l n≤ room o w g =
    part_row s' (b + misfit_part) k (3 * length obs) (misfit_at full obs) (omega arith) (omega arith)
    (λ r h. g r (omega arith) (row_low s b steps obs o w r h)
    ∙ ap (λ (x : Float). x ⊖ axis (r % 3) (full (step_at s b r)).position) (row_place s b steps obs o w r h)
    ∙ ap (λ (m : ℕ). axis (r % 3) (nth obs (r / 3)).place ⊖ axis (r % 3) (full m).position) (row_step s b steps obs o w r h))

pub design_list : (base : Run) (moved : ℕ → Run) (s s' : List Float) (b n k steps : ℕ) (obs : List Observed) → k ≡ 45 * n → length obs ≡ n → n ≤ 1061 → b + work_size ≤ length s'
    → Observes s (b + observed_part) obs → Within obs steps →
    ((r i : ℕ) → r < 3 * n → i < 15 → step_at s b r ≤ steps → get_or s' (b + design_part + (15 * r + i)) nan ≡ axis (r % 3) (moved i (step_at s b r)).position ⊖ axis (r % 3)
    (base (step_at s b r)).position) →
    take k (drop (b + design_part) s') ≡ design_of base moved obs
unfolding design_of partial_at
design_list base moved s s' b n k steps obs e l n≤ room o w g =
    part_row s' (b + design_part) k (45 * length obs) (λ (m : ℕ). partial_at base moved obs (m / 15) (m % 15)) (omega arith) (omega arith)
    (λ m h. let q : m ≡ 15 * (m / 15) + m % 15 = omega arith in
    let hr : m / 15 < 3 * length obs = omega arith in
    ap (λ (x : ℕ). get_or s' (b + design_part + x) nan) q
    ∙ g (m / 15) (m % 15) (omega arith) (omega arith) (row_low s b steps obs o w (m / 15) hr)
    ∙ ap (λ (x : ℕ). axis (m / 15 % 3) (moved (m % 15) x).position ⊖ axis (m / 15 % 3) (base x).position) (row_step s b steps obs o w (m / 15) hr))

-- the two forces
pub full_is : (M : Model) → attraction_of Full M ≡ full_force M
unfolding attraction_of
full_is M = refl

pub j2_is : (M : Model) → attraction_of J2 M ≡ (λ t. j2_of)
unfolding attraction_of
j2_is M = refl

shaped_true : (rows y n : ℕ) → rows ≡ 45 * n → y ≡ 3 * n → n ≤ 1061 → shaped15 rows y ≡ true
unfolding shaped15
shaped_true rows y n e f l = simp (le-ltb 100000 y (omega arith), eq-eqb rows (y * 15) (omega arith))

part_length : (s : List Float) (at k m : ℕ) → k ≡ m → at + m ≤ length s → length (take k (drop at s)) ≡ m
part_length s at k m e h = length-take-le k (drop at s) (simp length-drop (omega arith)) ∙ e

module _ (M : Model) (arc : Arc) (p s s' : List Float) (b n : ℕ) (l : n ≤ 1061) (room : b + work_size ≤ length s')
    (lin : Linearised (run_of (attraction_of Full M) arc p) (run_of (attraction_of J2 M) arc p) (λ (i : ℕ). run_of (attraction_of J2 M) arc (moved_of p i)) arc.steps s s' b (3 * n))
    (kd ky : ℕ) (ed : kd ≡ 45 * n) (ey : ky ≡ 3 * n) where
  abbrev rows_in : List Float
  rows_in = take kd (drop (b + design_part) s')

  abbrev misfits_in : List Float
  misfits_in = take ky (drop (b + misfit_part) s')

  module _ (obs : List Observed) (lo : length obs ≡ n) (o : Observes s (b + observed_part) obs) (w : Within obs arc.steps) where
    rows_are : rows_in ≡ design_at (full_force M) arc obs p
    unfolding design_at
    rows_are =
        design_list (run_of (attraction_of J2 M) arc p) (λ (i : ℕ). run_of (attraction_of J2 M) arc (moved_of p i)) s s' b n kd arc.steps obs ed lo l room o w lin.design
        ∙ ap (λ (pull : Float → Vector → Vector). design_of (run_of pull arc p) (λ (i : ℕ). run_of pull arc (moved_of p i)) obs) (j2_is M)

    misfits_are : misfits_in ≡ misfits_at (full_force M) arc obs p
    unfolding misfits_at
    misfits_are =
        misfit_list (run_of (attraction_of Full M) arc p) s s' b n ky arc.steps obs ey lo l room o w lin.misfits
        ∙ ap (λ (pull : Float → Vector → Vector). misfits_of (run_of pull arc p) obs) (full_is M)

    estimate_is : estimate15 rows_in misfits_in ≡ cond (regular (full_force M) arc obs p) (Some (solved (design_at (full_force M) arc obs p) (misfits_at (full_force M) arc obs p) 15)) None
    unfolding estimate15 regular
    estimate_is =
        simp (shaped_true (length rows_in) (length misfits_in) n (part_length s' (b + design_part) kd (45 * n) ed (omega arith))
        (part_length s' (b + misfit_part) ky (3 * n) ey (omega arith)) l)
        (λ i. cond (solvable (rows_are i) (misfits_are i) 15) (Some (solved (rows_are i) (misfits_are i) 15)) None)

  -- the parameters moved by an estimate, or none
  pub rounded : (e r : Option (List Float)) → e ≡ estimate15 rows_in misfits_in → r ≡ option_map (updated_of p) e → Rounded (full_force M) arc p s s' b n r
  unfolding improved
  rounded e r ee er = record {
    said = λ obs lo o w.
        er ∙ ap (option_map (updated_of p)) (ee ∙ estimate_is obs lo o w)
        ∙ map_cond (regular (full_force M) arc obs p) (solved (design_at (full_force M) arc obs p) (misfits_at (full_force M) arc obs p) 15);
    apart = lin.apart;
  }
    where
      map_cond : (b : Bool) (x : List Float) → option_map (updated_of p) (cond b (Some x) None) ≡ cond b (Some (updated_of p x)) None
      map_cond true x = refl
      map_cond false x = refl
