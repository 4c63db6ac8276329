-- Sums, one more, and of equal numbers. Assumes nothing.
use Rattle.laws.specs.Floats.{◌⊕◌, ◌⊖◌, ◌⊗◌, zero64, one64}
use Rattle.laws.specs.Tables.{row, row_at}
use Rattle.laws.specs.WholeNumbers.{number}
use Rattle.laws.specs.Sums.{sum_to, sum_same}
use Rattle.legendre.specs.Field.{totals}
use Rattle.legendre.specs.declared.Totals.{Totals}
use Rattle.legendre.specs.Sums.{Degree, RowSums, even, odd, Evaluation, degrees, AllSums, power, all_v, all_r, all_lat, all_lon}
use Prim.Native.Nat.{ℕ, ◌+◌, ◌<◌}
use mathlib.Core.Path.{◌≡◌, refl, sym, ap, ◌∙◌, subst}
use native.Mathlib.Numerals.{add-one}
use lib.Ieee.{Float, nan, of_int, of_bits, round, add}
use lib.ListN.{get_or}
use mathlib.Core.List.{List}

-- the orders as floats begin at +0.0 and count up by one
pub number_first : zero64 ≡ number 0
unfolding number of_int of_bits round
number_first = refl

counted : row (λ (m : ℕ). number m ⊕ one64) 182 ≡ row (λ (m : ℕ). number (m + 1)) 182
unfolding row number of_int of_bits round add
counted = refl

pub number_next : (m : ℕ) → m < 182 → number m ⊕ one64 ≡ number (m + 1)
number_next m h =
    sym (row_at (λ (i : ℕ). number i ⊕ one64) 182 m h) ∙ ap (λ (l : List Float). get_or l m nan) counted ∙ row_at (λ (i : ℕ). number (i + 1)) 182 m h

-- one order more, k being m as a float
pub sums_more : {r : Degree} {m : ℕ} {v lat lon k : Float} → RowSums r m v lat lon → k ≡ number m → RowSums r (m + 1) (v ⊕ r.p m ⊗ even r m) (lat ⊕ r.d m ⊗ even r m) (lon ⊕ r.p m ⊗ k ⊗ odd r m)
unfolding sum_to
sums_more s ek = record { sv = rw add-one (cc); slat = rw add-one (cc); slon = rw add-one (cc) }

-- one degree more
pub all_more : {f : Evaluation} {q qn v r lat lon sv slat slon w : Float} {n : ℕ} → AllSums f q n v r lat lon qn → RowSums (degrees f n) (n + 1) sv slat slon → w ≡ number (n + 1)
    → AllSums f q (n + 1) (v ⊕ qn ⊗ sv) (r ⊖ w ⊗ qn ⊗ sv) (lat ⊕ qn ⊗ slat) (lon ⊕ qn ⊗ slon) (qn ⊗ q)
unfolding all_v all_r all_lat all_lon sum_to power
all_more {n = n} a s ew = record {
  av = rw add-one (cc);
  ar = rw add-one (cc);
  alat = rw add-one (cc);
  alon = rw add-one (cc);
  aq = rw add-one (cc);
}

-- the sums are determined by what they read
-- (c and s are the same)
pub sums_as : {c s x y p d x' y' p' d' : ℕ → Float} {j : ℕ} {v lat lon : Float} → ((i : ℕ) → i < j → x i ≡ x' i) → ((i : ℕ) → i < j → y i ≡ y' i) → ((i : ℕ) → i < j → p i ≡ p' i)
    → ((i : ℕ) → i < j → d i ≡ d' i) → RowSums (record { c = c; s = s; x = x; y = y; p = p; d = d }) j v lat lon → RowSums (record { c = c; s = s; x = x'; y = y'; p = p'; d = d' }) j v lat lon
sums_as {c} {s} {x} {y} {p} {d} {x'} {y'} {p'} {d'} {j} ex ey ep ed r = record {
  sv = r.sv ∙ sum_same j (λ i l. λ h. ep i l h ⊗ (c i ⊗ ex i l h ⊕ s i ⊗ ey i l h));
  slat = r.slat ∙ sum_same j (λ i l. λ h. ed i l h ⊗ (c i ⊗ ex i l h ⊕ s i ⊗ ey i l h));
  slon = r.slon ∙ sum_same j (λ i l. λ h. ep i l h ⊗ number i ⊗ (s i ⊗ ex i l h ⊖ c i ⊗ ey i l h));
}

pub sums_at : {f : Evaluation} {q v r lat lon qn : Float} {j : ℕ} (i : ℕ) → AllSums f q j v r lat lon qn → j ≡ i → AllSums f q i v r lat lon qn
sums_at {f} {q} {v} {r} {lat} {lon} {qn} i s e = subst (λ (x : ℕ). AllSums f q x v r lat lon qn) e s

pub total_of : (f : Evaluation) (q : Float) (j : ℕ) {v r lat lon qn : Float} → AllSums f q j v r lat lon qn → ◌≡◌ {A = Totals} (record { v = v; r = r; lat = lat; lon = lon }) (totals (degrees f) q j)
total_of f q j s = λ i. record { v = s.av i; r = s.ar i; lat = s.alat i; lon = s.alon i }
