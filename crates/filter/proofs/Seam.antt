-- What holds of the band-pass: lengths stay, and where a run ends, what follows changes nothing of what stands before. Assumes nothing.
use mathlib.Core.Path.{◌≡◌, refl, ap, ◌∙◌}
use mathlib.Core.List.{List, [], ◌∷◌, ◌++◌}
use mathlib.Core.Bool.{Bool, true, false, cond}
use Prim.Native.Nat.{ℕ, zero, suc, ◌+◌, ◌-◌, ◌<◌, ◌≤◌, min}
use native.Mathlib.Omega.{arith}
use lib.ListN.{length, take, drop, get_or, length-append, length-take, length-drop, length-reverse, length-map, length-replicate}
use lib.Dec.{ltb}
use borrow.Author.Tests.{ltb-true}
use lib.Ieee.{Float}
use Rattle.laws.specs.Floats.{zero64}
use Rattle.laws.specs.Loops.{cleared}
use Rattle.laws.specs.Runs.{runs_of, ends_at, ends_run, grown, total, total_runs, passed_append, length_passed, front}
use Rattle.filter.specs.Filter.{rest, memory_of, through_one, through, pad_before, pad_after, padded, both_ways, filtfilt, pass_by, band, pass, band_pass}
use Rattle.filter.specs.declared.Biquad.{Biquad}
use Rattle.filter.specs.declared.BiquadMemory.{BiquadMemory}

-- ---- lengths

length_one : (s : Biquad) (m : BiquadMemory) (x : List Float) → length (through_one s m x) ≡ length x
length_one s m [] = refl
length_one s m (v ∷ x) = ap suc (length_one s (memory_of s m v) x)

pub length_through : (ss : List Biquad) (x : List Float) → length (through ss x) ≡ length x
length_through [] x = refl
length_through (s ∷ ss) x = length_through ss (through_one s rest x) ∙ length_one s rest x

length_padded : (p : ℕ) (x : List Float) → p < length x → length (padded p x) ≡ p + (length x + p)
unfolding pad_before pad_after
length_padded p x h = simp (length-append, length-map, length-reverse, length-take, length-drop) (omega arith)

length_both : (ss : List Biquad) (p : ℕ) (x : List Float) → p < length x → length (both_ways ss p x) ≡ length x
length_both ss p x h =
    let l : length (padded p x) ≡ p + (length x + p) = length_padded p x h in
    simp (length-take, length-drop, length-reverse, length_through) (rw l (omega arith))

pub length_filtfilt : (ss : List Biquad) (pad : ℕ) (x : List Float) → 0 < length x → length (filtfilt ss pad x) ≡ length x
length_filtfilt ss pad x h = length_both ss (min pad (length x - 1)) x (omega arith)

length_by : (b : Bool) (ss : List Biquad) (x : List Float) → ltb 64 (length x) ≡ b → length (cond b (filtfilt ss 1500 x) (cleared x)) ≡ length x
length_by true ss x h = length_filtfilt ss 1500 x (omega (arith, ltb-true 64 (length x) h))
length_by false ss x h = length-replicate (length x) zero64

pub length_pass_by : (ss : List Biquad) (x : List Float) → length (pass_by ss x) ≡ length x
unfolding pass_by
length_pass_by ss x = length_by (ltb 64 (length x)) ss x refl

-- a passed run is as long
pub pass_length : (x : List Float) → length (pass x) ≡ length x
pass_length x = length_pass_by band x

-- and so is a passed list
pub band_pass_length : (ts x : List Float) → length ts ≡ length x → length (band_pass ts x) ≡ length x
band_pass_length = length_passed pass pass_length

-- ---- the seam

-- two lists joined at a step that splits: the band-pass of the whole is that of the one, then that of the other
pub band_pass_joined : (ts us x y : List Float) → length ts ≡ length x → ends_run ts us ≡ true → band_pass (ts ++ us) (x ++ y) ≡ band_pass ts x ++ band_pass us y
band_pass_joined = passed_append pass

-- the first F entries, where a run ends at F
pub band_pass_front : (ts x : List Float) (F : ℕ) → length ts ≡ length x → F ≤ length x → ends_run (take F ts) (drop F ts) ≡ true →
    take F (band_pass ts x) ≡ band_pass (take F ts) (take F x)
band_pass_front = front pass pass_length

-- ---- where runs end

grown_positive : (b : Bool) (ks ls : List ℕ) (k : ℕ) → grown b ks ≡ k ∷ ls → 0 < k
grown_positive true ks ls k e = omega (arith, ap (λ (l : List ℕ). get_or l 0 0) e)
grown_positive false [] ls k e = omega (arith, ap (λ (l : List ℕ). get_or l 0 0) e)
grown_positive false (j ∷ ks) ls k e = omega (arith, ap (λ (l : List ℕ). get_or l 0 0) e)

ends_behind : (t : Float) (us : List Float) (m : ℕ) → (m ≡ 0 → ends_at t us ≡ true) → ends_run (take m us) (drop m us) ≡ true → ends_run (t ∷ take m us) (drop m us) ≡ true
ends_behind t us zero first later = first refl
ends_behind t [] (suc m) first later = refl
ends_behind t (u ∷ us) (suc m) first later = later

-- how many samples the first k runs have
abbrev pub samples_of : ℕ → List Float → ℕ
samples_of k ts = total (take k (runs_of ts))

ends_grown : (b : Bool) (t : Float) (us : List Float) (k : ℕ) → ends_at t us ≡ b → ((j : ℕ) → ends_run (take (samples_of j us) us) (drop (samples_of j us) us) ≡ true) →
    ends_run (take (total (take (suc k) (grown b (runs_of us)))) (t ∷ us)) (drop (total (take (suc k) (grown b (runs_of us)))) (t ∷ us)) ≡ true
ends_grown true t us k e later =
    let one : 1 + samples_of k us ≡ suc (samples_of k us) = omega arith in
    rw one (ends_behind t us (samples_of k us) (λ _. e) (later k))
ends_grown false t [] k e later = let z : ◌≡◌ {A = ℕ} 0 1 = cc in absurd (omega arith)
ends_grown false t (u ∷ us) k e later = longer (runs_of (u ∷ us)) refl
  where
    longer : (ks : List ℕ) → runs_of (u ∷ us) ≡ ks →
        ends_run (take (total (take (suc k) (grown false ks))) (t ∷ u ∷ us)) (drop (total (take (suc k) (grown false ks))) (t ∷ u ∷ us)) ≡ true
    longer [] f = absurd (omega (arith, ap total f, total_runs (u ∷ us)))
    longer (j ∷ ks) f =
        let m : ℕ = j + total (take k ks) in
        let e : suc j + total (take k ks) ≡ suc m = omega arith in
        let some : 0 < j = grown_positive (ends_at u us) (runs_of us) ks j f in
        rw e (ends_behind t (u ∷ us) m (λ (z : m ≡ 0). absurd (omega arith)) (rw f at (later (suc k))))

ends_next : (t : Float) (us : List Float) (k : ℕ) → ((j : ℕ) → ends_run (take (samples_of j us) us) (drop (samples_of j us) us) ≡ true) →
    ends_run (take (samples_of k (t ∷ us)) (t ∷ us)) (drop (samples_of k (t ∷ us)) (t ∷ us)) ≡ true
ends_next t us zero later = refl
ends_next t us (suc k) later = ends_grown (ends_at t us) t us k refl later

ends_none : (k : ℕ) → ends_run (take (samples_of k []) []) (drop (samples_of k []) []) ≡ true
ends_none zero = refl
ends_none (suc k) = refl

-- the sum of the first k run lengths is a place where a run ends
pub runs_end : (ts : List Float) (k : ℕ) → ends_run (take (samples_of k ts) ts) (drop (samples_of k ts) ts) ≡ true
runs_end [] k = ends_none k
runs_end (t ∷ us) k = ends_next t us k (λ j. runs_end us j)
