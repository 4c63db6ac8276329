-- Laws of the reading of records into a work area: after i records, i times stand from place 0 on and i residuals from place n on. Assumes nothing.
use mathlib.Core.Path.{◌≡◌, refl, sym, ap, ◌∙◌}
use mathlib.Core.List.{List, [], ◌∷◌, ◌++◌, map}
use Prim.Native.Nat.{ℕ, zero, suc, ◌+◌, ◌<◌, ◌≤◌}
use native.Mathlib.Nat.{zero-add}
use native.Mathlib.Numerals.{add-one}
use native.Mathlib.Omega.{arith}
use lib.Ieee.{Float, nan}
use lib.ListN.{length, take, drop, get_or, set, length-set, length-map}
use lib.Seq.{set-append_left, take-set-lt, drop-set-lt, length-take-le, take_all, drop-drop, take_at, drop_at}
use borrow.Rule.Slice.PartMut.{put_mid, same_len_mid}
use Rattle.epoch_record.specs.EpochRecord.{time, residual, times_of, residuals_of}
use Rattle.epoch_record.specs.declared.Epoch.{Epoch}
use Rattle.detrend.proofs.PartsInPlace.{put_more, put_none, length_mid}
use Rattle.record_detrending.specs.Records.{read_into}

-- what stands past the end of a list: never read
abbrev pub none : Epoch
none = record { t = nan; residual = nan; terms = []; mid = []; vel = [] }

abbrev pub reading : List Epoch → List Float → ℕ → List Float
reading xs vs zero = vs
reading xs vs (suc i) = set (set (reading xs vs i) i (get_or xs i none).t) (length xs + i) (get_or xs i none).residual

pub length_reading : (xs : List Epoch) (vs : List Float) (i : ℕ) → length (reading xs vs i) ≡ length vs
length_reading xs vs zero = refl
length_reading xs vs (suc i) = simp length-set (length_reading xs vs i)

field_at : (f : Epoch → Float) (xs : List Epoch) (i : ℕ) → i < length xs → f (get_or xs i none) ≡ get_or (map f xs) i nan
field_at f [] i h = absurd (omega arith)
field_at f (x ∷ xs) zero h = refl
field_at f (x ∷ xs) (suc i) h = field_at f xs i (omega arith)

set_before : (a k i : ℕ) (s l : List Float) (v : Float) → i < a → a ≤ length s → set (put_mid a k s l) i v ≡ put_mid a k (set s i v) l
set_before a k i s l v h b =
    set-append_left (take a s) (l ++ drop k (drop a s)) i v (omega (arith, length-take-le a s b))
    ∙ (λ j. sym (take-set-lt a s i v h) j ++ (l ++ drop k (sym (drop-set-lt a s i v h) j)))

module _ (xs : List Epoch) (vs : List Float) (h : length xs + length xs ≤ length vs) where
  abbrev n : ℕ
  n = length xs

  abbrev firsts : ℕ → List Float
  firsts i = put_mid 0 i vs (take i (times_of xs))

  reading_is : (i : ℕ) → i ≤ n → reading xs vs i ≡ put_mid n i (firsts i) (take i (residuals_of xs))
  reading_is zero q = sym (put_none n (put_mid 0 0 vs []) ∙ put_none 0 vs)
  reading_is (suc i) q =
      let t : Float = (get_or xs i none).t in
      let r : Float = (get_or xs i none).residual in
      let lt' : length (take i (times_of xs)) ≡ i = length-take-le i (times_of xs) (omega (arith, length-map xs time)) in
      let lf : length (firsts i) ≡ length vs = same_len_mid 0 i vs (take i (times_of xs)) (lt' ∙ sym (length_mid 0 i vs (omega arith))) in
      let one : set (firsts i) i t ≡ firsts (suc i) =
      ap (λ (k : ℕ). set (firsts i) k t) (sym (zero-add i))
      ∙ put_more 0 i vs (times_of xs) nan t (omega arith) (omega (arith, length-map xs time)) (field_at time xs i q)
      ∙ ap (λ (k : ℕ). put_mid 0 k vs (take k (times_of xs))) (add-one i) in
      let lo : length (firsts (suc i)) ≡ length vs = sym (ap length one) ∙ length-set (firsts i) i t ∙ lf in
      ap (λ (l : List Float). set (set l i t) (n + i) r) (reading_is i (omega arith))
      ∙ ap (λ (l : List Float). set l (n + i) r) (set_before n i i (firsts i) (take i (residuals_of xs)) t (omega arith) (omega arith))
      ∙ ap (λ (l : List Float). set (put_mid n i l (take i (residuals_of xs))) (n + i) r) one
      ∙ put_more n i (firsts (suc i)) (residuals_of xs) nan r (omega arith) (omega (arith, length-map xs residual)) (field_at residual xs i q)
      ∙ ap (λ (k : ℕ). put_mid n k (firsts (suc i)) (take k (residuals_of xs))) (add-one i)

  -- all records are read
  pub reading_all : reading xs vs n ≡ read_into xs vs
  unfolding read_into
  reading_all =
      let et : take n (times_of xs) ≡ times_of xs = take_all n (times_of xs) (omega (arith, length-map xs time)) in
      let er : take n (residuals_of xs) ≡ residuals_of xs = take_all n (residuals_of xs) (omega (arith, length-map xs residual)) in
      let x : List Float = times_of xs ++ drop n vs in
      let ex : firsts n ≡ x = ap (λ (l : List Float). l ++ drop n vs) et in
      let lt' : length (times_of xs) ≡ n = length-map xs time in
      reading_is n (omega arith)
      ∙ (λ i. put_mid n n (ex i) (er i))
      ∙ (λ i. take_at (times_of xs) (drop n vs) n lt' i ++ (residuals_of xs ++ drop n (drop_at (times_of xs) (drop n vs) n lt' i)))
      ∙ ap (λ (l : List Float). times_of xs ++ (residuals_of xs ++ l)) (drop-drop n n vs)

  pub reading_done : (i : ℕ) (w : List Float) → i ≤ n → n ≤ i → w ≡ reading xs vs i → w ≡ read_into xs vs
  reading_done i w a b e =
      let j : i ≡ n = omega arith in
      e ∙ ap (reading xs vs) j ∙ reading_all
