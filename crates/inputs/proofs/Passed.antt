-- What the tests say where they pass. Assumes nothing.
use mathlib.Core.Path.{◌≡◌}
use mathlib.Core.Bool.{Bool, true, ◌&&◌}
use mathlib.Core.List.{List}
use Prim.Native.Nat.{ℕ, ◌+◌, ◌*◌, ◌≤◌}
use native.Mathlib.Nat.{mul-le-mul}
use native.Mathlib.Omega.{arith}
use lib.Dec.{leb, eqb}
use lib.IntN.{ℤ}
use lib.Ieee.{Float}
use lib.ListN.{length}
use borrow.Author.Tests.{leb-true, eqb-true}
use Rattle.laws.specs.Checks.{rising, rising_seconds, degree_fine}
use Rattle.laws.specs.Bools.{both_true}
use Rattle.slices.proofs.Calls.{cond_passes}
use Rattle.slices.specs.Calls.{Verdict, accepted}
use Rattle.slices.specs.declared.refusal.Refusal.TheVariants.{Degree, Count, Length, Value, Order}
use Rattle.inputs.specs.Inputs.{Model, sizes_fit, fit_room, kind, field_size, few, first_of, counts_fine, model_fits, states_fit, least_scratch, scratch_fits, lengths_fit}
use Rattle.inputs.specs.Inputs.{rise}

-- all of five tests, and the rest
pub record AllPass (d k n v o : Bool) (r : Verdict) : Type 0 where
  pub degree : d ≡ true
  pub counts : k ≡ true
  pub lengths : n ≡ true
  pub values : v ≡ true
  pub order : o ≡ true
  pub rest : r ≡ accepted

pub all_pass : (d k n v o : Bool) (r : Verdict) → first_of d k n v o r ≡ accepted → AllPass d k n v o r
all_pass d k n v o r h =
    let a = cond_passes d _ Degree h in
    let b = cond_passes k _ Count a.1 in
    let e = cond_passes n _ Length b.1 in
    let f = cond_passes v _ Value e.1 in
    let g = cond_passes o _ Order f.1 in
    record { degree = a.0; counts = b.0; lengths = e.0; values = f.0; order = g.0; rest = g.1 }

pub degree_passes : (N : ℕ) → degree_fine N ≡ true → N ≤ 180
degree_passes N h = leb-true N 180 (both_true (leb 2 N) (leb N 180) h).1

pub record Few (c d p q : ℕ) : Type 0 where
  pub states_c : c ≤ 200000
  pub states_d : d ≤ 200000
  pub acc_c : p ≤ 200000
  pub acc_d : q ≤ 200000

pub counts_pass : (fields c d acc_c acc_d : ℕ) → counts_fine fields c d acc_c acc_d ≡ true → Few c d acc_c acc_d
unfolding counts_fine
counts_pass fields c d acc_c acc_d h =
    let all = (both_true (leb 2 fields && leb fields 32) ((few c && few d) && (few acc_c && few acc_d)) h).1 in
    let states = (both_true (few c && few d) (few acc_c && few acc_d) all).0 in
    let accs = (both_true (few c && few d) (few acc_c && few acc_d) all).1 in
    record {
      states_c = leb-true c 200000 (both_true (few c) (few d) states).0;
      states_d = leb-true d 200000 (both_true (few c) (few d) states).1;
      acc_c = leb-true acc_c 200000 (both_true (few acc_c) (few acc_d) accs).0;
      acc_d = leb-true acc_d 200000 (both_true (few acc_c) (few acc_d) accs).1;
    }

pub record Rise (times : List Float) (c d p q : List ℤ) : Type 0 where
  pub fields : rising times ≡ true
  pub states_c : rising_seconds c ≡ true
  pub states_d : rising_seconds d ≡ true
  pub acc_c : rising_seconds p ≡ true
  pub acc_d : rising_seconds q ≡ true

pub rise_passes : (times : List Float) (c d acc_c acc_d : List ℤ) → rise times c d acc_c acc_d ≡ true → Rise times c d acc_c acc_d
unfolding rise
rise_passes times c d acc_c acc_d h =
    let all = both_true (rising times) ((rising_seconds c && rising_seconds d) && (rising_seconds acc_c && rising_seconds acc_d)) h in
    let parts = both_true (rising_seconds c && rising_seconds d) (rising_seconds acc_c && rising_seconds acc_d) all.1 in
    record {
      fields = all.0;
      states_c = (both_true (rising_seconds c) (rising_seconds d) parts.0).0;
      states_d = (both_true (rising_seconds c) (rising_seconds d) parts.0).1;
      acc_c = (both_true (rising_seconds acc_c) (rising_seconds acc_d) parts.1).0;
      acc_d = (both_true (rising_seconds acc_c) (rising_seconds acc_d) parts.1).1;
    }

pub scratch_passes : (N fields count scratch : ℕ) → scratch_fits N fields count scratch ≡ true → least_scratch N fields count ≤ scratch
unfolding scratch_fits
scratch_passes N fields count scratch h =
    let a = (both_true (leb N 180) (leb fields 32 && (leb count 100000 && leb (least_scratch N fields count) scratch)) h).1 in
    let b = (both_true (leb fields 32) (leb count 100000 && leb (least_scratch N fields count) scratch) a).1 in
    leb-true (least_scratch N fields count) scratch (both_true (leb count 100000) (leb (least_scratch N fields count) scratch) b).1

pub states_pass : (n values : ℕ) → states_fit n values ≡ true → values ≡ 6 * n
unfolding states_fit
states_pass n values h = eqb-true values (6 * n) (both_true (few n) (eqb values (6 * n)) h).1

pub record Sizes (N fields field all p q : ℕ) : Type 0 where
  pub static : field ≡ field_size N
  pub added : all ≡ fields * field_size N
  pub a : p ≡ kind N
  pub b : q ≡ kind N

pub model_passes : (N fields field added a b : ℕ) → model_fits N fields field added a b ≡ true → Sizes N fields field added a b
unfolding model_fits
model_passes N fields field added a b h =
    let p = (both_true (leb N 180) (leb fields 32 && ((eqb field (field_size N) && eqb added (fields * field_size N)) && (eqb a (kind N) && eqb b (kind N)))) h).1 in
    let q = (both_true (leb fields 32) ((eqb field (field_size N) && eqb added (fields * field_size N)) && (eqb a (kind N) && eqb b (kind N))) p).1 in
    let r = both_true (eqb field (field_size N) && eqb added (fields * field_size N)) (eqb a (kind N) && eqb b (kind N)) q in
    let s = both_true (eqb field (field_size N)) (eqb added (fields * field_size N)) r.0 in
    let t = both_true (eqb a (kind N)) (eqb b (kind N)) r.1 in
    record {
      static = eqb-true field (field_size N) s.0;
      added = eqb-true added (fields * field_size N) s.1;
      a = eqb-true a (kind N) t.0;
      b = eqb-true b (kind N) t.1;
    }

pub lengths_pass : (N fields field added a b scratch : ℕ) → lengths_fit N fields field added a b scratch ≡ true → Sizes N fields field added a b
unfolding lengths_fit
lengths_pass N fields field added a b scratch h =
    model_passes N fields field added a b (both_true (model_fits N fields field added a b) (scratch_fits N fields 0 scratch) h).0

pub lengths_room : (N fields field added a b scratch : ℕ) → lengths_fit N fields field added a b scratch ≡ true → 8 * kind N + fit_room ≤ scratch
unfolding lengths_fit
lengths_room N fields field added a b scratch h =
    omega (arith, scratch_passes N fields 0 scratch (both_true (model_fits N fields field added a b) (scratch_fits N fields 0 scratch) h).1)

pub sizes_room : (M : Model) (scratch : ℕ) → sizes_fit M scratch ≡ true → 8 * kind M.fixed.degree + fit_room ≤ scratch
sizes_room M scratch h = lengths_room M.fixed.degree _ _ _ _ _ scratch h

-- the lengths of a model's lists
pub record Sized (M : Model) : Type 0 where
  pub static : length M.fixed.static ≡ field_size M.fixed.degree
  pub added : length M.fields.added ≡ length M.fields.field_times * field_size M.fixed.degree
  pub a : length M.fixed.a ≡ kind M.fixed.degree
  pub b : length M.fixed.b ≡ kind M.fixed.degree

pub sizes_pass : (M : Model) (scratch : ℕ) → sizes_fit M scratch ≡ true → Sized M
sizes_pass M scratch h = let l = lengths_pass M.fixed.degree _ _ _ _ _ scratch h in record { static = l.static; added = l.added; a = l.a; b = l.b }

pub product_small : (a b : ℕ) → a ≤ 32 → b ≤ 32944 → a * b ≤ 1054208
product_small a b h k = mul-le-mul {n₂ = 32} {m₂ = 32944} h k
