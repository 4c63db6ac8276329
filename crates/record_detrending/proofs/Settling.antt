-- The work area: the values come down to its head, +0.0 behind them or throughout, and what the four steps of the call leave. Assumes nothing.
use mathlib.Core.Path.{◌≡◌, refl, sym, ap, ◌∙◌}
use mathlib.Core.Bool.{Bool, true, false}
use mathlib.Core.List.{List, [], ◌∷◌, ◌++◌, append-nil}
use Prim.Native.Nat.{ℕ, suc, ◌+◌, ◌-◌, ◌*◌, ◌≤◌}
use native.Mathlib.Omega.{arith}
use lib.Ieee.{Float}
use lib.Ieee.Scale.{finite}
use lib.ListN.{length, length-map, replicate-append-replicate, take, drop, replicate, length-drop, length-append, length-replicate, drop_of_length-le}
use lib.Seq.{take_at, drop_at, length-take-le}
use borrow.Rule.Slice.PartMut.{mid_of, put_mid}
use Rattle.std.specs.List.{list_all}
use Rattle.laws.specs.Floats.{zero64}
use Rattle.laws.specs.Loops.{cleared}
use Rattle.laws.specs.Bools.{by}
use Rattle.std.specs.Prelude.{Err}
use Rattle.slices.specs.Calls.{Verdict, accepted}
use Rattle.slices.specs.declared.refusal.Refusal.TheVariants.{NotFinite}
use Rattle.detrend.specs.Revolutions.{removed_of}
use Rattle.detrend.specs.Work.{RemovedWithin}
use Rattle.detrend.proofs.PartsInPlace.{length_mid}
use Rattle.detrend.proofs.SplitAtNodes.{removed_length}
use Rattle.epoch_record.specs.EpochRecord.{time, residual, times_of, residuals_of, with_residual, put_back}
use Rattle.epoch_record.specs.declared.Epoch.{Epoch}
use Rattle.record_detrending.specs.Calls.{LeftRecords, left_records, handed_by, detrended_residuals, handed_records}
use Rattle.record_detrending.specs.Records.{read_into, Settled, settled_by, values_of, settled_of}

-- ---- what is settled

settled_true : (ns : List Float) (n : ℕ) (w : List Float) → list_all finite (values_of ns n w) ≡ true → settled_of ns n w ≡ settled_by true (values_of ns n w) w
unfolding settled_of
settled_true ns n w e = ap (λ (b : Bool). settled_by b (values_of ns n w) w) e

settled_false : (ns : List Float) (n : ℕ) (w : List Float) → list_all finite (values_of ns n w) ≡ false → settled_of ns n w ≡ settled_by false (values_of ns n w) w
unfolding settled_of
settled_false ns n w e = ap (λ (b : Bool). settled_by b (values_of ns n w) w) e

module _ (ns : List Float) (n : ℕ) (w w1 : List Float) (room : 8 * n ≤ length w) (r : RemovedWithin n ns w w1) (b : Bool) (eb : b ≡ list_all finite (mid_of n (n + n - n) w1)) where
  new_is : mid_of n n w1 ≡ values_of ns n w
  new_is = (r.fits room).values

  test_is : list_all finite (values_of ns n w) ≡ b
  test_is = sym (eb ∙ (let z : n + n - n ≡ n = omega arith in ap (λ (k : ℕ). list_all finite (mid_of n k w1)) z) ∙ ap (list_all finite) new_is)

  pub settled_accepts : b ≡ true → accepted ≡ (settled_of ns n w).answer
  settled_accepts h = sym (ap (λ (s : Settled). s.answer) (settled_true ns n w (test_is ∙ h)))

  pub settled_refuses : b ≡ false → Err NotFinite ≡ (settled_of ns n w).answer
  settled_refuses h = sym (ap (λ (s : Settled). s.answer) (settled_false ns n w (test_is ∙ h)))

  pub settled_clear : (z : List Float) → b ≡ false → z ≡ cleared w1 → length w1 ≡ length w → z ≡ (settled_of ns n w).work
  settled_clear z h e l = e ∙ ap (λ (k : ℕ). replicate k zero64) l ∙ sym (ap (λ (s : Settled). s.work) (settled_false ns n w (test_is ∙ h)))

  pub settled_values : (w2 z : List Float) → b ≡ true → length w1 ≡ length w → length w2 ≡ length w1 → take n w2 ≡ mid_of n n w1 → z ≡ cleared (mid_of n (length w2 - n) w2) →
      put_mid n (length w2 - n) w2 z ≡ (settled_of ns n w).work
  settled_values w2 z h l1 l2 low ez =
      let k : ℕ = length w2 - n in
      let v : List Float = values_of ns n w in
      let lv : length v ≡ n = sym (ap length new_is) ∙ length_mid n n w1 (omega arith) in
      let lm : length (mid_of n k w2) ≡ k = length_mid n k w2 (omega arith) in
      let k' : k ≡ length w - length v = omega arith in
      let none : drop k (drop n w2) ≡ [] = drop_of_length-le (drop n w2) {i = k} (omega (arith, length-drop n w2)) in
      (λ i. (low ∙ new_is) i ++ ((ez ∙ ap (λ (j : ℕ). replicate j zero64) (lm ∙ k')) i ++ none i))
      ∙ ap (λ (x : List Float). v ++ x) (append-nil (replicate (length w - length v) zero64))
      ∙ sym (ap (λ (s : Settled). s.work) (settled_true ns n w (test_is ∙ h)))

-- the work area keeps its length
pub settled_length : (ns : List Float) (n : ℕ) (w : List Float) → n + n ≤ length w → length (settled_of ns n w).work ≡ length w
settled_length ns n w h =
    let v : List Float = values_of ns n w in
    let lt' : length (take n w) ≡ n = length-take-le n w (omega arith) in
    let lv : length v ≡ n = removed_length ns (take n w) (mid_of n n w) (lt' ∙ sym (length_mid n n w h)) ∙ length_mid n n w h in
    by (list_all finite v)
    (λ e. ap (λ (s : Settled). length s.work) (settled_true ns n w e) ∙ length-append v (replicate (length w - length v) zero64)
    ∙ ap (λ (k : ℕ). length v + k) (length-replicate (length w - length v) zero64) ∙ omega arith)
    (λ e. ap (λ (s : Settled). length s.work) (settled_false ns n w e) ∙ length-replicate (length w) zero64)

-- ---- the whole

pub length_put : (es : List Epoch) (vs : List Float) → length (put_back es vs) ≡ length es
unfolding put_back
length_put [] vs = refl
length_put (e ∷ es) [] = refl
length_put (e ∷ es) (v ∷ vs) = ap suc (length_put es vs)

-- what stands behind as many values as there are records is not read
put_front : (es : List Epoch) (vs ws : List Float) → length vs ≡ length es → put_back es (vs ++ ws) ≡ put_back es vs
unfolding put_back
put_front [] [] [] h = refl
put_front [] [] (w ∷ ws) h = refl
put_front [] (v ∷ vs) ws h = absurd (omega arith)
put_front (e ∷ es) [] ws h = absurd (omega arith)
put_front (e ∷ es) (v ∷ vs) ws h = ap (λ (l : List Epoch). with_residual e v ∷ l) (put_front es vs ws (omega arith))

module _ (es : List Epoch) (ns s : List Float) (h : 8 * length es ≤ length s) where
  abbrev Count : ℕ
  Count = length es

  pub read_length : length (read_into es s) ≡ length s
  unfolding read_into
  read_length =
      length-append (times_of es) (residuals_of es ++ drop (Count + Count) s)
      ∙ (λ i. length-map es time i + length-append (residuals_of es) (drop (Count + Count) s) i)
      ∙ (λ i. Count + (length-map es residual i + length-drop (Count + Count) s i))
      ∙ omega arith

  values_are : values_of ns Count (read_into es s) ≡ detrended_residuals es ns
  unfolding read_into
  values_are =
      let lt' : length (times_of es) ≡ Count = length-map es time in
      let lr : length (residuals_of es) ≡ Count = length-map es residual in
      let rest : List Float = drop (Count + Count) s in
      (λ i. removed_of ns (take_at (times_of es) (residuals_of es ++ rest) Count lt' i) (take Count (drop_at (times_of es) (residuals_of es ++ rest) Count lt' i)))
      ∙ ap (removed_of ns (times_of es)) (take_at (residuals_of es) rest Count lr)

  new_length : length (detrended_residuals es ns) ≡ Count
  new_length = removed_length ns (times_of es) (residuals_of es) (length-map es time ∙ sym (length-map es residual)) ∙ length-map es residual

  abbrev After : Settled
  After = settled_of ns Count (read_into es s)

  settled_is : (b : Bool) → list_all finite (detrended_residuals es ns) ≡ b → After ≡ settled_by b (detrended_residuals es ns) (read_into es s)
  unfolding settled_of
  settled_is b e = (λ i. settled_by (list_all finite (values_are i)) (values_are i) (read_into es s)) ∙ ap (λ (c : Bool). settled_by c (detrended_residuals es ns) (read_into es s)) e

  handed_is : (b : Bool) → list_all finite (detrended_residuals es ns) ≡ b → handed_records es ns s ≡ handed_by b (detrended_residuals es ns) es s
  unfolding handed_records
  handed_is b e = ap (λ (c : Bool). handed_by c (detrended_residuals es ns) es s) e

  zeros_split : (j k : ℕ) → replicate (j + k) zero64 ≡ replicate j zero64 ++ replicate k zero64
  zeros_split j k = sym (replicate-append-replicate j k zero64)

  -- what the four steps leave
  pub records_left : left_records After.answer (put_back es After.work) (replicate (length After.work) zero64) ≡ handed_records es ns s
  records_left =
      let new : List Float = detrended_residuals es ns in
      let w : List Float = read_into es s in
      let zs : replicate (length After.work) zero64 ≡ cleared s = ap (λ (k : ℕ). replicate k zero64) (settled_length ns Count w (omega (arith, read_length)) ∙ read_length) in
      by (list_all finite new)
      (λ e. (λ i. left_records (settled_is true e i).answer (put_back es (settled_is true e i).work) (zs i))
      ∙ ap (λ (l : List Epoch). left_records accepted l (cleared s)) (put_front es new (replicate (length w - length new) zero64) new_length)
      ∙ sym (handed_is true e))
      (λ e. (λ i. left_records (settled_is false e i).answer (put_back es (settled_is false e i).work) (zs i))
      ∙ (let k : length w ≡ length new + (length w - length new) = omega (arith, read_length, new_length) in
      ap (λ (l : List Epoch). left_records (Err NotFinite) l (cleared s))
      (ap (λ (j : ℕ). put_back es (replicate j zero64)) k ∙ ap (put_back es) (zeros_split (length new) (length w - length new))
      ∙ put_front es (cleared new) (replicate (length w - length new) zero64) (length-replicate (length new) zero64 ∙ new_length)))
      ∙ sym (handed_is false e))

  -- as many records and numbers as before
  pub handed_lengths : (length (handed_records es ns s).epochs ≡ Count) × (length (handed_records es ns s).scratch ≡ length s)
  handed_lengths =
      by (list_all finite (detrended_residuals es ns))
      (λ e. (
        ap (λ (l : LeftRecords). length l.epochs) (handed_is true e) ∙ length_put es (detrended_residuals es ns),
        ap (λ (l : LeftRecords). length l.scratch) (handed_is true e)
            ∙ length-replicate (length s) zero64,
      ))
      (λ e. (
        ap (λ (l : LeftRecords). length l.epochs) (handed_is false e) ∙ length_put es (cleared (detrended_residuals es ns)),
        ap (λ (l : LeftRecords). length l.scratch) (handed_is false e)
            ∙ length-replicate (length s) zero64,
      ))

  -- the four steps, one after another
  pub remove_leaves : (w w1 z : List Float) (es' : List Epoch) (o : Verdict) → w ≡ read_into es s → o ≡ (settled_of ns Count w).answer → w1 ≡ (settled_of ns Count w).work
      → es' ≡ put_back es w1 → z ≡ cleared w1 → left_records o es' z ≡ handed_records es ns s
  remove_leaves w w1 z es' o ew eo e1 e2 ez = rw (ez, e2, e1, eo, ew) records_left
