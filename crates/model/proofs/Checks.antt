-- Laws of the tests that come before the work, and of what the calls answer. Assumes nothing.
use mathlib.Core.Path.{◌≡◌, ap, ◌∙◌}
use mathlib.Core.List.{List}
use mathlib.Core.Bool.{◌&&◌}
use Prim.Native.Nat.{ℕ, ◌+◌}
use borrow.Author.Tests.{leb-true}
use lib.Dec.{leb}
use lib.ListN.{length}
use lib.Ieee.{Float}
use Rattle.laws.specs.Checks.{rising, degree_fine}
use Rattle.laws.specs.Tables.{tri, rows_length}
use Rattle.laws.specs.Bools.{both_true}
use Rattle.slices.specs.Calls.{accepted}
use Rattle.inputs.specs.Inputs.{Model, fields_fine, lengths_fit}
use Rattle.inputs.proofs.Passed.{all_pass, degree_passes, lengths_pass}
use Rattle.model.specs.Model.{bracket, weight, added_field, blended, blend_of, kind_at}
use Rattle.model.specs.Calls.{times_fine, values_fine, at_refusal, KindRoom}

-- ---- what follows from no refusal

pub record AtFits (M : Model) (c s : ℕ) : Type 0 where
  pub lists : KindRoom M
  pub cosines : c ≡ tri (M.fixed.degree + 1)
  pub sines : s ≡ tri (M.fixed.degree + 1)

pub at_passes : (M : Model) (t : Float) (c s w : ℕ) → at_refusal M t c s w ≡ accepted → AtFits M c s
unfolding at_refusal
at_passes M t c s w h =
    let N : ℕ = M.fixed.degree in
    let n : ℕ = length M.fields.field_times in
    let p = all_pass (degree_fine N) (fields_fine n) (lengths_fit N n (length M.fixed.static) (length M.fields.added) c s w)
    (values_fine M.fixed.static M.fields.added && times_fine M.fields.field_times t) (rising M.fields.field_times) accepted h in
    let sizes = lengths_pass N n (length M.fixed.static) (length M.fields.added) c s w p.lengths in
    record {
      lists = record {
        degree = degree_passes N p.degree;
        static = sizes.static;
        count = leb-true 2 n (both_true (leb 2 n) (leb n 32) p.counts).0;
        fields = sizes.added;
      };
      cosines = sizes.a;
      sines = sizes.b;
    }

-- ---- the work

pub kind_is_at : (M : Model) (start : ℕ) (t w : Float) (j : ℕ) (out : List Float) → out ≡ blend_of M.fixed.degree start M.fixed.static M.fields.added w j →
    w ≡ weight M.fields.field_times t j → j ≡ bracket M.fields.field_times t → out ≡ kind_at start M t
unfolding kind_at
kind_is_at M start t w j out e ew ej =
    let N : ℕ = M.fixed.degree in
    let static : List Float = M.fixed.static in
    let ts : List Float = M.fields.field_times in
    let added : List Float = M.fields.added in
    e ∙ ap (λ (x : Float). blend_of N start static added x j) ew ∙ ap (λ (i : ℕ). blend_of N start static added (weight ts t i) i) ej

pub kind_long : (k : ℕ) (M : Model) (t : Float) → length (kind_at k M t) ≡ tri (M.fixed.degree + 1)
unfolding kind_at blend_of
kind_long k M t =
    let N : ℕ = M.fixed.degree in
    let ts : List Float = M.fields.field_times in
    let added : List Float = M.fields.added in
    let j : ℕ = bracket ts t in
    rows_length (blended k (weight ts t j) M.fixed.static (added_field N added j) (added_field N added (j + 1))) (N + 1)
