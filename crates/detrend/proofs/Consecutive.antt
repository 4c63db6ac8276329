-- Detrending by the revolutions that `revolutions` gives is the removal of each revolution's fit. Assumes nothing.
use mathlib.Core.Path.{◌≡◌, refl, sym, ap, ◌∙◌, subst}
use mathlib.Core.List.{List, [], ◌∷◌, ◌++◌, append_assoc}
use mathlib.Core.Bool.{Bool, true, false, cond}
use Prim.Native.Nat.{ℕ, suc, ◌+◌, ◌-◌, ◌≤◌}
use native.Mathlib.Nat.{zero-add, suc-add}
use native.Mathlib.Omega.{arith}
use lib.Dec.{T, leb}
use lib.Ieee.{Float, lt}
use lib.Ieee.Bits.{is_true}
use lib.ListN.{length, take, drop, length-append, take-append-drop}
use lib.Seq.{drop-drop, take_at, length-take-le}
use borrow.Rule.Slice.PartMut.{mid_of, put_mid, put_same, same_len_mid}
use Rattle.laws.specs.Order.{lt_tr}
use Rattle.laws.specs.Floats.{◌⊖◌}
use Rattle.laws.specs.Checks.{rising}
use Rattle.laws.specs.Bools.{by, left_true, right_true}
use Rattle.detrend.specs.Fit.{revolution_of}
use Rattle.detrend.specs.Revolutions.{count_before, revolved_of, windows_of, removed_of, revolutions_of, detrended_in, detrended_by}
use Rattle.detrend.proofs.PartsInPlace.{length_mid, drop_mid}
use Rattle.detrend.proofs.RevolutionFit.{length_revolved}

pub count_le : (b : Float) (ts : List Float) → count_before b ts ≤ length ts
unfolding count_before
count_le b [] = omega arith
count_le b (t ∷ ts) = go (lt t b) (count_le b ts)
  where
    go : (c : Bool) → count_before b ts ≤ length ts → cond c (suc (count_before b ts)) 0 ≤ suc (length ts)
    go true h = omega arith
    go false h = omega arith

-- a later node counts on from an earlier one
pub count_on : (a b : Float) (ts : List Float) → T (lt a b) → count_before b ts ≡ count_before a ts + count_before b (drop (count_before a ts) ts)
unfolding count_before
count_on a b [] h = refl
count_on a b (t ∷ ts) h = go (lt t a) refl (count_on a b ts h)
  where
    go : (c : Bool) → lt t a ≡ c → count_before b ts ≡ count_before a ts + count_before b (drop (count_before a ts) ts) →
        cond (lt t b) (suc (count_before b ts)) 0 ≡ cond c (suc (count_before a ts)) 0 + count_before b (drop (cond c (suc (count_before a ts)) 0) (t ∷ ts))
    go true e q =
        ap (λ (d : Bool). cond d (suc (count_before b ts)) 0) (is_true (lt t b) (lt_tr t a b (subst T (sym e) tt) h))
        ∙ ap suc q ∙ sym (suc-add (count_before a ts) (count_before b (drop (count_before a ts) ts)))
    go false e q = sym (zero-add (cond (lt t b) (suc (count_before b ts)) 0))

-- the values after one revolution, whether it has 50 epochs or not
step_is : (a b : Float) (ns ts vs : List Float) (p c : ℕ) → length ts ≡ length vs → p ≡ count_before a ts → p + c ≡ count_before b ts →
    detrended_by (revolutions_of ts (a ∷ b ∷ ns)) ts vs ≡ detrended_by (revolutions_of ts (b ∷ ns)) ts (put_mid p c vs (revolved_of a b (mid_of p c ts) (mid_of p c vs)))
unfolding revolutions_of detrended_by detrended_in revolved_of
step_is a b ns ts vs p c h ep ec =
    let le : p + c ≤ length ts = subst (λ (k : ℕ). k ≤ length ts) (sym ec) (count_le b ts) in
    let k : count_before b ts - count_before a ts ≡ c = omega arith in
    let l : length (mid_of p c ts) ≡ c = length_mid p c ts le in
    by (leb 50 c)
    (λ e. simp (k, l, e) (λ i. detrended_by (revolutions_of ts (b ∷ ns)) ts (put_mid (sym ep i) (k i) vs (revolution_of a (b ⊖ a) (mid_of (sym ep i) (k i) ts) (mid_of (sym ep i) (k i) vs)))))
    (λ e. simp (k, l, e) (ap (detrended_by (revolutions_of ts (b ∷ ns)) ts) (sym (put_same p c vs))))

pub windows_are : (a b : Float) (ns ts vs : List Float) (c : ℕ) → c ≡ count_before b ts →
    windows_of a (b ∷ ns) ts vs ≡ revolved_of a b (take c ts) (take c vs) ++ windows_of b ns (drop c ts) (drop c vs)
unfolding windows_of
windows_are a b ns ts vs c e = ap (λ (j : ℕ). revolved_of a b (take j ts) (take j vs) ++ windows_of b ns (drop j ts) (drop j vs)) (sym e)

last_is : (a : Float) (ts vs : List Float) (p : ℕ) → detrended_by (revolutions_of ts (a ∷ [])) ts vs ≡ take p vs ++ windows_of a [] (drop p ts) (drop p vs)
unfolding revolutions_of detrended_by windows_of
last_is a ts vs p = sym (take-append-drop p vs)

from_node_law : (a : Float) (ns ts vs : List Float) (p : ℕ) → length ts ≡ length vs → rising (a ∷ ns) ≡ true → p ≡ count_before a ts →
    detrended_by (revolutions_of ts (a ∷ ns)) ts vs ≡ take p vs ++ windows_of a ns (drop p ts) (drop p vs)
from_node_law a [] ts vs p h r ep = last_is a ts vs p
from_node_law a (b ∷ ns) ts vs p h r ep =
    let c : ℕ = count_before b (drop p ts) in
    let ab : T (lt a b) = subst T (sym (left_true (lt a b) (rising (b ∷ ns)) r)) tt in
    let ec : p + c ≡ count_before b ts = sym (count_on a b ts ab ∙ ap (λ (k : ℕ). k + count_before b (drop k ts)) (sym ep)) in
    let le : p + c ≤ length ts = subst (λ (k : ℕ). k ≤ length ts) (sym ec) (count_le b ts) in
    let x : List Float = revolved_of a b (mid_of p c ts) (mid_of p c vs) in
    let v' : List Float = put_mid p c vs x in
    let lx : length x ≡ c =
    length_revolved a b (mid_of p c ts) (mid_of p c vs) (length_mid p c ts le ∙ sym (length_mid p c vs (omega arith))) ∙ length_mid p c vs (omega arith) in
    let lv : length v' ≡ length vs = same_len_mid p c vs x (lx ∙ sym (length_mid p c vs (omega arith))) in
    let front : length (take p vs ++ x) ≡ p + c = length-append (take p vs) x ∙ rw (length-take-le p vs (omega arith), lx) in
    let done : take (p + c) v' ≡ take p vs ++ x =
    ap (take (p + c)) (sym (append_assoc (take p vs) x (drop c (drop p vs)))) ∙ take_at (take p vs ++ x) (drop c (drop p vs)) (p + c) front in
    let left : drop (p + c) v' ≡ drop (p + c) vs = drop_mid (p + c) p c vs x (omega arith) (omega arith) lx in
    step_is a b ns ts vs p c h ep ec
    ∙ from_node_law b ns ts v' (p + c) (h ∙ sym lv) (right_true (lt a b) (rising (b ∷ ns)) r) ec
    ∙ (λ i. done i ++ windows_of b ns (drop (p + c) ts) (left i))
    ∙ append_assoc (take p vs) x (windows_of b ns (drop (p + c) ts) (drop (p + c) vs))
    ∙ ap (λ (y : List Float). take p vs ++ y)
    (sym (windows_are a b ns (drop p ts) (drop p vs) c refl ∙ (λ i. x ++ windows_of b ns (drop-drop c p ts i) (drop-drop c p vs i))))

no_revolution : (ts vs : List Float) → detrended_by (revolutions_of ts []) ts vs ≡ vs
unfolding revolutions_of detrended_by
no_revolution ts vs = refl

-- detrending by the revolutions between rising nodes splits the list at the nodes
pub consecutive : (ns ts vs : List Float) → length ts ≡ length vs → rising ns ≡ true → detrended_by (revolutions_of ts ns) ts vs ≡ removed_of ns ts vs
unfolding removed_of
consecutive [] ts vs h r = no_revolution ts vs
consecutive (a ∷ ns) ts vs h r = from_node_law a ns ts vs (count_before a ts) h r refl
