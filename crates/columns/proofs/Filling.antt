-- The columns that follow from times and raw values: what comes out of the scratch, the zeros behind the first n entries, the guard. Assumes nothing.
use mathlib.Core.Path.{◌≡◌, sym, ap, ◌∙◌}
use mathlib.Core.Bool.{Bool, true, cond, ◌&&◌}
use mathlib.Core.List.{List, [], ◌∷◌, ◌++◌, append-nil}
use Prim.Native.Nat.{ℕ, ◌-◌, ◌*◌, ◌/◌, ◌≤◌}
use native.Mathlib.Omega.{arith}
use lib.Dec.{T, leb, eqb, leb→le, eqb→eq}
use lib.Ieee.{Float}
use lib.Ieee.Fits.{and_l, and_r}
use lib.ListN.{length, take, drop, replicate, length-drop, drop_of_length-le}
use lib.Seq.{take_at, length-take-le}
use borrow.Author.Tests.{eq-eqb, le-leb}
use borrow.Rule.Slice.PartMut.{mid_of, put_mid, same_len_mid}
use Rattle.laws.specs.Floats.{zero64}
use Rattle.laws.specs.Lists.{All, all_map}
use Rattle.std.specs.List.{list_all}
use Rattle.laws.specs.Checks.{all_says}
use Rattle.laws.specs.Bools.{holds, clash}
use Rattle.laws.specs.Loops.{cleared, filled_front}
use Rattle.finality.specs.Sheet.{published}
use Rattle.slices.specs.Slices.{copied}
use Rattle.slices.proofs.SliceLoops.{copied_all}
use Rattle.detrend.specs.Revolutions.{removed_of}
use Rattle.detrend.proofs.PartsInPlace.{length_mid}
use Rattle.detrend.proofs.SplitAtNodes.{removed_length}
use Rattle.filter.specs.Filter.{band_pass}
use Rattle.filter.specs.Calls.{band_fits, band_passed}
use Rattle.filter.proofs.Seam.{band_pass_length}
use Rattle.columns.specs.Columns.{columns_serve, first_detrended, ColumnsFilled}

-- ---- a column: its entries, and +0.0 behind them

module _ (n M : ℕ) (o y z : List Float) (h : n ≤ M) (lo : length o ≡ M) (ly : length y ≡ n) where
  abbrev o₁ : List Float
  o₁ = put_mid 0 (n - 0) o y

  pub column_is : z ≡ cleared (mid_of n (length o₁ - n) o₁) → put_mid n (length o₁ - n) o₁ z ≡ published M y
  column_is e =
      let zn : n - 0 ≡ n = omega arith in
      let l₁ : length o₁ ≡ M = same_len_mid 0 (n - 0) o y (ly ∙ sym (ap (λ (k : ℕ). length (mid_of 0 k o)) zn ∙ length_mid 0 n o (omega arith))) ∙ lo in
      let k : ℕ = length o₁ - n in
      let front : take n o₁ ≡ y = take_at y (drop (n - 0) o) n ly in
      let lm : length (mid_of n k o₁) ≡ M - length y = length_mid n k o₁ (omega arith) ∙ omega arith in
      let none : drop k (drop n o₁) ≡ [] = drop_of_length-le (drop n o₁) {i = k} (omega (arith, length-drop n o₁)) in
      (λ i. front i ++ ((e ∙ ap (λ (j : ℕ). replicate j zero64) lm) i ++ none i))
      ∙ ap (λ (x : List Float). y ++ x) (append-nil (replicate (M - length y) zero64))

-- the first n entries of a column
pub detrended_length : (nodes : List Float) (n : ℕ) (times raws : List Float) → n ≤ length times → length raws ≡ length times → length (first_detrended nodes n times raws) ≡ n
detrended_length nodes n times raws h e =
    let lt : length (take n times) ≡ n = length-take-le n times h in
    let lr : length (take n raws) ≡ n = length-take-le n raws (omega arith) in
    removed_length nodes (take n times) (take n raws) (lt ∙ sym lr) ∙ lr

pub detrended_column : (nodes : List Float) (n : ℕ) (times o y z : List Float) → n ≤ length times → length o ≡ length times →
    y ≡ removed_of nodes (take (n - 0) times) (take (n - 0) o) → z ≡ cleared (mid_of n (length (put_mid 0 (n - 0) o y) - n) (put_mid 0 (n - 0) o y)) →
    put_mid n (length (put_mid 0 (n - 0) o y) - n) (put_mid 0 (n - 0) o y) z ≡ published (length times) (first_detrended nodes n times o)
detrended_column nodes n times o y z h eo ey ez =
    let zn : n - 0 ≡ n = omega arith in
    let y_is : y ≡ first_detrended nodes n times o = ey ∙ ap (λ (k : ℕ). removed_of nodes (take k times) (take k o)) zn in
    column_is n (length times) o y z h eo (ap length y_is ∙ detrended_length nodes n times o h eo) ez ∙ ap (published (length times)) y_is

band_fits_law : (n times values places room : ℕ) → times ≡ n → values ≡ n → places ≡ n → 8 * n ≤ room → band_fits times values places room ≡ true
unfolding band_fits
band_fits_law n times values places room et ev ep h =
    simp (eq-eqb times values (omega arith), eq-eqb places values (omega arith), le-leb values (room / 3) (omega arith))

pub passed_column : (n : ℕ) (times d o y z : List Float) (room : ℕ) → n ≤ length times → length d ≡ length times → length o ≡ length times → 8 * n ≤ room →
    y ≡ band_passed (take (n - 0) times) (take (n - 0) d) (mid_of 0 (n - 0) o) room → z ≡ cleared (mid_of n (length (put_mid 0 (n - 0) o y) - n) (put_mid 0 (n - 0) o y)) →
    put_mid n (length (put_mid 0 (n - 0) o y) - n) (put_mid 0 (n - 0) o y) z ≡ published (length times) (band_pass (take n times) (take n d))
unfolding band_passed
passed_column n times d o y z room h ed eo r ey ez =
    let zn : n - 0 ≡ n = omega arith in
    let lt : length (take n times) ≡ n = length-take-le n times h in
    let ld : length (take n d) ≡ n = length-take-le n d (omega arith) in
    let lo : length (take n o) ≡ n = length-take-le n o (omega arith) in
    let y_is : y ≡ band_pass (take n times) (take n d) =
    ey ∙ ap (λ (k : ℕ). band_passed (take k times) (take k d) (take k o) room) zn
    ∙ ap (λ (b : Bool). cond b (band_pass (take n times) (take n d)) (take n o)) (band_fits_law n (length (take n times)) (length (take n d)) (length (take n o)) room lt ld lo r) in
    column_is n (length times) o y z h eo (ap length y_is ∙ band_pass_length (take n times) (take n d) (lt ∙ sym ld) ∙ ld) ez ∙ ap (published (length times)) y_is

-- ---- the guard

pub record Served (n times : ℕ) (others : List ℕ) (room : ℕ) : Type 0 where
  pub count : n ≤ times
  pub long : All (λ (k : ℕ). k ≡ times) others
  pub enough : 8 * n ≤ room

pub served : (n times : ℕ) (others : List ℕ) (room : ℕ) (b : Bool) → b ≡ columns_serve n times others room → b ≡ true → Served n times others room
unfolding columns_serve
served n times others room b e h =
    let count = leb n times in
    let long = list_all (λ (k : ℕ). eqb k times) others in
    let enough = leb n (room / 8) in
    let t : T (count && (long && enough)) = holds (count && (long && enough)) (sym e ∙ h) in
    let r : T (long && enough) = and_r count (long && enough) t in
    record {
      count = leb→le n times (and_l count (long && enough) t);
      long = all_map (λ (k : ℕ). T (eqb k times)) (λ (k : ℕ). k ≡ times) others (λ k q. eqb→eq k times q) (all_says (λ (k : ℕ). eqb k times) others (and_l long enough r));
      enough = let f : n ≤ room / 8 = leb→le n (room / 8) (and_r long enough r) in omega arith;
    }

-- ---- the call

-- c is the raw values, copied into their place
module _ (serves : Bool) (nodes : List Float) (n : ℕ) (times raws d c d' p p' s s' : List Float) (b : Bool) (e : b ≡ serves) where
  pub columns_filled : b ≡ true → n ≤ length times → length raws ≡ length times → length d ≡ length times → length s' ≡ length s →
      c ≡ copied raws d → d' ≡ published (length times) (first_detrended nodes n times c) →
      p' ≡ published (length times) (band_pass (take n times) (take n d')) → ColumnsFilled serves nodes n times raws (d ∷ p ∷ []) (d' ∷ p' ∷ []) s s' b
  columns_filled h hn er el l ec ed' ep = record {
    says = e;
    long = l;
    columns = λ _.
        let same : c ≡ raws = ec ∙ copied_all raws d (omega arith) in
        let ed : d' ≡ published (length times) (first_detrended nodes n times raws)
        = ed' ∙ ap (λ (x : List Float). published (length times) (first_detrended nodes n times x)) same in
        let first : take n d' ≡ first_detrended nodes n times raws
        = ap (take n) ed ∙ filled_front zero64 (length times) n (first_detrended nodes n times raws) (detrended_length nodes n times raws hn er) in
        λ i. ed i ∷ (ep ∙ ap (λ (x : List Float). published (length times) (band_pass (take n times) x)) first) i ∷ [];
    unfit = λ f. clash serves (sym e ∙ h) f;
  }
