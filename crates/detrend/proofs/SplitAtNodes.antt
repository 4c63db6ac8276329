-- The removal of each revolution's fit is the function that splits the samples at the nodes, so that a list joined at a node is detrended part by part. Assumes nothing.
use mathlib.Core.Path.{◌≡◌, refl, sym, ap, ◌∙◌, subst}
use mathlib.Core.List.{List, [], ◌∷◌, ◌++◌, map}
use mathlib.Core.Bool.{Bool, true, false, cond}
use Prim.Native.Nat.{ℕ, zero, suc, ◌+◌}
use native.Mathlib.Omega.{arith}
use lib.Dec.{T}
use lib.Ieee.{Float, lt, le}
use lib.Ieee.Bits.{is_false}
use lib.ListN.{length, take, drop, length-append, length-map}
use Rattle.laws.specs.Order.{lt_tr, le→nlt}
use Rattle.laws.specs.Lists.{All}
use Rattle.laws.specs.Times.{Rising}
use Rattle.finality.specs.Detrending.{Sample, moment, value, before, from, one_revolution, from_node, detrend}
use Rattle.finality.proofs.Revolutions.{detrend_parts, detrend_length}
use Rattle.detrend.specs.Revolutions.{count_before, revolved_of, windows_of, removed_of}
use Rattle.detrend.proofs.RevolutionFit.{length_revolved}

-- the samples of two lists
abbrev pub samples_of : List Float → List Float → List Sample
samples_of [] vs = []
samples_of (t ∷ ts) [] = []
samples_of (t ∷ ts) (v ∷ vs) = (t, v) ∷ samples_of ts vs

moments_are : (ts vs : List Float) → length ts ≡ length vs → map moment (samples_of ts vs) ≡ ts
moments_are [] [] h = refl
moments_are [] (v ∷ vs) h = absurd (omega arith)
moments_are (t ∷ ts) [] h = absurd (omega arith)
moments_are (t ∷ ts) (v ∷ vs) h = ap (λ (l : List Float). t ∷ l) (moments_are ts vs (omega arith))

values_are : (ts vs : List Float) → length ts ≡ length vs → map value (samples_of ts vs) ≡ vs
values_are [] [] h = refl
values_are [] (v ∷ vs) h = absurd (omega arith)
values_are (t ∷ ts) [] h = absurd (omega arith)
values_are (t ∷ ts) (v ∷ vs) h = ap (λ (l : List Float). v ∷ l) (values_are ts vs (omega arith))

before_is : (b : Float) (ts vs : List Float) → length ts ≡ length vs → before b (samples_of ts vs) ≡ samples_of (take (count_before b ts) ts) (take (count_before b ts) vs)
unfolding before count_before
before_is b [] [] h = refl
before_is b [] (v ∷ vs) h = absurd (omega arith)
before_is b (t ∷ ts) [] h = absurd (omega arith)
before_is b (t ∷ ts) (v ∷ vs) h = go (lt t b) (before_is b ts vs (omega arith))
  where
    go : (c : Bool) → before b (samples_of ts vs) ≡ samples_of (take (count_before b ts) ts) (take (count_before b ts) vs) →
        cond c ((t, v) ∷ before b (samples_of ts vs)) [] ≡ samples_of (take (cond c (suc (count_before b ts)) 0) (t ∷ ts)) (take (cond c (suc (count_before b ts)) 0) (v ∷ vs))
    go true e = ap (λ (l : List Sample). (t, v) ∷ l) e
    go false e = refl

from_is : (b : Float) (ts vs : List Float) → length ts ≡ length vs → from b (samples_of ts vs) ≡ samples_of (drop (count_before b ts) ts) (drop (count_before b ts) vs)
unfolding from count_before
from_is b [] [] h = refl
from_is b [] (v ∷ vs) h = absurd (omega arith)
from_is b (t ∷ ts) [] h = absurd (omega arith)
from_is b (t ∷ ts) (v ∷ vs) h = go (lt t b) (from_is b ts vs (omega arith))
  where
    go : (c : Bool) → from b (samples_of ts vs) ≡ samples_of (drop (count_before b ts) ts) (drop (count_before b ts) vs) →
        cond c (from b (samples_of ts vs)) ((t, v) ∷ samples_of ts vs) ≡ samples_of (drop (cond c (suc (count_before b ts)) 0) (t ∷ ts)) (drop (cond c (suc (count_before b ts)) 0) (v ∷ vs))
    go true e = e
    go false e = refl

same_take : (k : ℕ) (ts vs : List Float) → length ts ≡ length vs → length (take k ts) ≡ length (take k vs)
same_take zero ts vs h = refl
same_take (suc k) [] [] h = refl
same_take (suc k) [] (v ∷ vs) h = absurd (omega arith)
same_take (suc k) (t ∷ ts) [] h = absurd (omega arith)
same_take (suc k) (t ∷ ts) (v ∷ vs) h = ap suc (same_take k ts vs (omega arith))

same_drop : (k : ℕ) (ts vs : List Float) → length ts ≡ length vs → length (drop k ts) ≡ length (drop k vs)
same_drop zero ts vs h = h
same_drop (suc k) [] [] h = refl
same_drop (suc k) [] (v ∷ vs) h = absurd (omega arith)
same_drop (suc k) (t ∷ ts) [] h = absurd (omega arith)
same_drop (suc k) (t ∷ ts) (v ∷ vs) h = same_drop k ts vs (omega arith)

windows_split : (a : Float) (ns ts vs : List Float) → length ts ≡ length vs → windows_of a ns ts vs ≡ from_node revolved_of a ns (samples_of ts vs)
unfolding windows_of from_node
windows_split a [] ts vs h = sym (values_are ts vs h)
windows_split a (b ∷ ns) ts vs h =
    let k : ℕ = count_before b ts in
    let ht : length (take k ts) ≡ length (take k vs) = same_take k ts vs h in
    (λ i. revolved_of a b (sym (moments_are (take k ts) (take k vs) ht) i) (sym (values_are (take k ts) (take k vs) ht) i) ++ windows_split b ns (drop k ts) (drop k vs) (same_drop k ts vs h) i)
    ∙ (λ i. one_revolution revolved_of a b (sym (before_is b ts vs h) i) ++ from_node revolved_of b ns (sym (from_is b ts vs h) i))

-- the values with each revolution's fit removed are the samples split at the nodes, each part detrended
pub removed_split : (ns ts vs : List Float) → length ts ≡ length vs → removed_of ns ts vs ≡ detrend revolved_of ns (samples_of ts vs)
unfolding removed_of detrend
removed_split [] ts vs h = sym (values_are ts vs h)
removed_split (a ∷ ns) ts vs h =
    let k : ℕ = count_before a ts in
    let ht : length (take k ts) ≡ length (take k vs) = same_take k ts vs h in
    (λ i. sym (values_are (take k ts) (take k vs) ht) i ++ windows_split a ns (drop k ts) (drop k vs) (same_drop k ts vs h) i)
    ∙ (λ i. map value (sym (before_is a ts vs h) i) ++ from_node revolved_of a ns (sym (from_is a ts vs h) i))

-- lengths stay
pub removed_length : (ns ts vs : List Float) → length ts ≡ length vs → length (removed_of ns ts vs) ≡ length vs
removed_length ns ts vs h =
    ap length (removed_split ns ts vs h)
    ∙ detrend_length revolved_of length_revolved ns (samples_of ts vs)
    ∙ sym (length-map (samples_of ts vs) value) ∙ ap length (values_are ts vs h)

-- ---- lists joined at a node

abbrev pub Before : Float → List Float → Type 0
Before z ts = All (λ (t : Float). T (lt t z)) ts

abbrev pub After : Float → List Float → Type 0
After z ts = All (λ (t : Float). T (le z t)) ts

samples_join : (ts us vs ws : List Float) → length ts ≡ length vs → samples_of (ts ++ us) (vs ++ ws) ≡ samples_of ts vs ++ samples_of us ws
samples_join [] us [] ws h = refl
samples_join [] us (v ∷ vs) ws h = absurd (omega arith)
samples_join (t ∷ ts) us [] ws h = absurd (omega arith)
samples_join (t ∷ ts) us (v ∷ vs) ws h = ap (λ (l : List Sample). (t, v) ∷ l) (samples_join ts us vs ws (omega arith))

all_samples : (P : Float → Type 0) (ts vs : List Float) → All P ts → All (λ (s : Sample). P (moment s)) (samples_of ts vs)
all_samples P [] vs a = tt
all_samples P (t ∷ ts) [] a = tt
all_samples P (t ∷ ts) (v ∷ vs) a = (a.0, all_samples P ts vs a.1)

none_before : (z : Float) (us : List Float) → After z us → count_before z us ≡ 0
unfolding count_before
none_before z [] a = refl
none_before z (u ∷ us) a = ap (λ (c : Bool). cond c (suc (count_before z us)) 0) (is_false (lt u z) (le→nlt z u a.0))

removed_later : (z : Float) (ms us ws : List Float) → After z us → windows_of z ms us ws ≡ removed_of (z ∷ ms) us ws
unfolding removed_of
removed_later z ms us ws a = sym (ap (λ (k : ℕ). take k ws ++ windows_of z ms (drop k us) (drop k ws)) (none_before z us a))

-- the fits of a list joined at node z are those of its two parts, where z is no NaN and the nodes ns lie before it
pub removed_joined : (ns : List Float) (z : Float) (ms ts us vs ws : List Float) → length ts ≡ length vs → length us ≡ length ws →
    T (le z z) → Before z ns → Before z ts → After z us →
    removed_of (ns ++ (z ∷ ms)) (ts ++ us) (vs ++ ws) ≡ removed_of (ns ++ (z ∷ [])) ts vs ++ removed_of (z ∷ ms) us ws
removed_joined ns z ms ts us vs ws h k zz n b a =
    let hk : length (ts ++ us) ≡ length (vs ++ ws) = length-append ts us ∙ (λ i. h i + k i) ∙ sym (length-append vs ws) in
    removed_split (ns ++ (z ∷ ms)) (ts ++ us) (vs ++ ws) hk
    ∙ ap (detrend revolved_of (ns ++ (z ∷ ms))) (samples_join ts us vs ws h)
    ∙ detrend_parts revolved_of ns z ms (samples_of ts vs) (samples_of us ws) zz n (all_samples (λ (t : Float). T (lt t z)) ts vs b) (all_samples (λ (t : Float). T (le z t)) us ws a)
    ∙ (λ i. sym (removed_split (ns ++ (z ∷ [])) ts vs h) i ++ sym (windows_split z ms us ws k) i)
    ∙ ap (λ (l : List Float). removed_of (ns ++ (z ∷ [])) ts vs ++ l) (removed_later z ms us ws a)

-- ---- counting on a rising list

-- how many of a list's times lie before b
unfoldable pub number_before : Float → List Float → ℕ
number_before b [] = 0
number_before b (t ∷ ts) = cond (lt t b) (suc (number_before b ts)) (number_before b ts)

none_of : (b t : Float) (us : List Float) → lt t b ≡ false → All (λ (u : Float). T (lt t u)) us → number_before b us ≡ 0
unfolding number_before
none_of b t [] h a = refl
none_of b t (u ∷ us) h a = go (lt u b) refl (none_of b t us h a.1)
  where
    go : (c : Bool) → lt u b ≡ c → number_before b us ≡ 0 → cond c (suc (number_before b us)) (number_before b us) ≡ 0
    go true e q = absurd (subst T h (lt_tr t u b a.0 (subst T (sym e) tt)))
    go false e q = q

-- of a rising list, the times at its head that lie before b are all that do
pub count_rising : (b : Float) (ts : List Float) → Rising ts → count_before b ts ≡ number_before b ts
unfolding count_before number_before
count_rising b [] r = refl
count_rising b (t ∷ ts) r = go (lt t b) refl (count_rising b ts r.2)
  where
    go : (c : Bool) → lt t b ≡ c → count_before b ts ≡ number_before b ts → cond c (suc (count_before b ts)) 0 ≡ cond c (suc (number_before b ts)) (number_before b ts)
    go true e q = ap suc q
    go false e q = sym (none_of b t ts e r.1)
