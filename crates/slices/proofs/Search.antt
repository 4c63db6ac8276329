-- A search by halves in a rising list of keys, and the linear search that it equals. Assumes nothing.
use Rattle.std.specs.Prelude.{◌≡◌, refl, ℕ, zero, suc, ◌+◌, ◌<◌, ◌≤◌, Bool, true, false, cond, ◌||◌, List, [], ◌∷◌, length, get_or, ℤ, pos, negsuc, Some, None, Result, Ok, Err}
use Rattle.std.proofs.Common.{sym, ap, ◌∙◌, ⊎_elim, arith, Less, Equal, Greater}
use Rattle.std.specs.Int.Signed.{lt_z}
use Rattle.std.specs.Result.{result_ok}
use Rattle.std.specs.Ordering.{int_cmp, is_lt}
use Rattle.std.specs.List.Sorted.{IsBinarySearchResult, IsSearchInRange}
use Rattle.std.proofs.lemmas.Cmp.{int_cmp_total}
use Rattle.std.proofs.lemmas.Bool.Decides.{nat_tests}
use Rattle.std.proofs.lemmas.List.Sorted.{searchable_from_sorted}
use lib.Ieee.Bits.{is_true}
use Rattle.laws.specs.Bools.{holds, left_true, right_true}
use Rattle.laws.specs.Checks.{rising_seconds, below_tr}
use Rattle.laws.specs.Signed.{lt_or_ge}
use Rattle.slices.specs.Slices.{lookup, lookup_from}

below_below : (a b c : ℤ) → lt_z a b ≡ true → lt_z b c ≡ true → lt_z a c ≡ true
below_below a b c h k = is_true (lt_z a c) (below_tr a b c (holds (lt_z a b) h) (holds (lt_z b c) k))

one_way : (a b : ℤ) → lt_z a b ≡ true → lt_z b a ≡ false
one_way (pos a) (pos b) h = grind (arith, nat_tests)
one_way (pos a) (negsuc b) h = grind (arith, nat_tests)
one_way (negsuc a) (pos b) h = refl
one_way (negsuc a) (negsuc b) h = grind (arith, nat_tests)

-- a is below b, and c is not above b
not_above : (a b c : ℤ) → lt_z a b ≡ true → lt_z c b ≡ false → lt_z a c ≡ true
not_above (pos a) (pos b) (pos c) h k = grind (arith, nat_tests)
not_above (pos a) (pos b) (negsuc c) h k = grind (arith, nat_tests)
not_above (pos a) (negsuc b) c h k = grind (arith, nat_tests)
not_above (negsuc a) b (pos c) h k = refl
not_above (negsuc a) (pos b) (negsuc c) h k = grind (arith, nat_tests)
not_above (negsuc a) (negsuc b) (negsuc c) h k = grind (arith, nat_tests)

-- ---- in a rising list an earlier key is below a later one
above_first : (x : ℤ) (xs : List ℤ) (d : ℤ) → rising_seconds (x ∷ xs) ≡ true → (q : ℕ) → q < length xs → lt_z x (get_or xs q d) ≡ true
above_first x [] d e q h = absurd (omega arith)
above_first x (y ∷ ys) d e zero h = left_true (lt_z x y) (rising_seconds (y ∷ ys)) e
above_first x (y ∷ ys) d e (suc q) h =
    below_below x y (get_or ys q d) (left_true (lt_z x y) (rising_seconds (y ∷ ys)) e) (above_first y ys d (right_true (lt_z x y) (rising_seconds (y ∷ ys)) e) q (omega arith))

rising_rest : (x : ℤ) (xs : List ℤ) → rising_seconds (x ∷ xs) ≡ true → rising_seconds xs ≡ true
rising_rest x [] e = refl
rising_rest x (y ∷ ys) e = right_true (lt_z x y) (rising_seconds (y ∷ ys)) e

rises : (ks : List ℤ) (d : ℤ) → rising_seconds ks ≡ true → (p q : ℕ) → p < q → q < length ks → lt_z (get_or ks p d) (get_or ks q d) ≡ true
rises [] d e p q h l = absurd (omega arith)
rises (x ∷ xs) d e p zero h l = absurd (omega arith)
rises (x ∷ xs) d e zero (suc q) h l = above_first x xs d e q (omega arith)
rises (x ∷ xs) d e (suc p) (suc q) h l = rises xs d (rising_rest x xs e) p q (omega arith) (omega arith)

-- ---- the linear search: the key at k is not the one sought
Other : List ℤ → ℤ → ℕ → Type 0
Other ks key k = (lt_z (get_or ks k (pos 0)) key || lt_z key (get_or ks k (pos 0))) ≡ true

missed : (i : ℕ) (ks : List ℤ) (key : ℤ) → ((k : ℕ) → k < length ks → Other ks key k) → lookup_from i ks key ≡ None
unfolding lookup_from Other
missed i [] key f = refl
missed i (x ∷ xs) key f = rw (f 0 (omega arith)) (missed (suc i) xs key (λ k h. f (suc k) (omega arith)))

met : (i : ℕ) (ks : List ℤ) (key : ℤ) (m : ℕ) → m < length ks → ((k : ℕ) → k < m → Other ks key k)
    → lt_z (get_or ks m (pos 0)) key ≡ false → lt_z key (get_or ks m (pos 0)) ≡ false → lookup_from i ks key ≡ Some (m + i)
unfolding lookup_from Other
met i [] key m h f a b = absurd (omega arith)
met i (x ∷ xs) key zero h f a b = rw (a, b) (ap Some (omega arith))
met i (x ∷ xs) key (suc m) h f a b = rw (f 0 (omega arith)) (met (suc i) xs key m (omega arith) (λ k l. f (suc k) (omega arith)) a b ∙ ap Some (omega arith))

-- ---- the search by halves
or_l : (a b : Bool) → a ≡ true → (a || b) ≡ true
or_l a b e = rw e

or_r : (a b : Bool) → b ≡ true → (a || b) ≡ true
or_r true b e = refl
or_r false b e = e

-- an answer `Equal` of `int_cmp`, with its two tests
equal : (a b : Bool) → cond a Less (cond b Greater Equal) ≡ Equal → (a ≡ false) × (b ≡ false)
equal true b e = cc
equal false true e = cc
equal false false e = (refl, refl)

before : (a b : Bool) → cond a Less (cond b Greater Equal) ≡ Less → (a || b) ≡ true
before true b e = refl
before false true e = cc
before false false e = cc

behind : (a b : Bool) → cond a Less (cond b Greater Equal) ≡ Greater → (a || b) ≡ true
behind true b e = refl
behind false true e = refl
behind false false e = cc

in_order : (a b : Bool) → b ≡ true → a ≡ false → is_lt (cond a Less (cond b Greater Equal)) ≡ false
in_order a b h k = rw (h, k)

pub searched : (ks : List ℤ) (key : ℤ) (r : Result ℕ ℕ) → IsSearchInRange r (length ks) → IsBinarySearchResult (λ y. int_cmp y key) ks r → rising_seconds ks ≡ true
    → result_ok r ≡ lookup ks key
unfolding lookup Other
searched ks key (Ok m) h f e =
    let (low, high) = equal (lt_z (get_or ks m (pos 0)) key) (lt_z key (get_or ks m (pos 0))) (f (pos 0)) in
    sym (met 0 ks key m h (λ k l. or_l _ _ (not_above (get_or ks k (pos 0)) (get_or ks m (pos 0)) key (rises ks (pos 0) e k m l h) high)) low high ∙ ap Some (omega arith))
searched ks key (Err i) h f e =
    let up = searchable_from_sorted int_cmp_total (λ (x : ℤ). x) ks key (λ k d g l. let r = rises ks d e k (k + 1) (omega arith) l in in_order _ _ r (one_way (get_or ks k d) (get_or ks (k + 1) d) r)) in
    let parted = f up in
    sym (missed 0 ks key (λ k l. ⊎_elim (λ (s : k < i). before _ _ (parted.0 k (pos 0) (omega arith) s)) (λ (s : i ≤ k). behind _ _ (parted.1 k (pos 0) s l)) (lt_or_ge k i)))
