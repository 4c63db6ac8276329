-- What one turn of a loop does to a list: filled, cleared or tested from the front. Stated as invariants, tests and `ensures` give them. Assumes nothing.
use Rattle.std.specs.Prelude.{◌≡◌, refl, List, [], ◌∷◌, ◌++◌, map, Bool, true, false, not, ◌&&◌, ℕ, suc, ◌+◌, ◌-◌, ◌<◌, ◌≤◌, length, take, drop, get_or, set, replicate, Float}
use Rattle.std.specs.List.{list_all}
use Rattle.std.proofs.Common.{sym, ap, ◌∙◌, append-nil, append_assoc, add-one, le_refl, arith, drop_of_length-le, length-append, take-suc-set, drop-set-lt, drop-cons, take_all, take_at}
use Rattle.std.proofs.lemmas.Bool.{not-true, not-false}
use Rattle.std.proofs.lemmas.List.{length-replicate, set_at}
use Rattle.std.proofs.lemmas.List.Folds.{list_all-map}
use Rattle.std.proofs.Math.Seq.{append_snoc}
use Rattle.laws.specs.Floats.{zero64}
use Rattle.laws.specs.Checks.{ascending}

-- +0.0 in each place of a list
abbrev pub cleared : List Float → List Float
cleared x = replicate (length x) zero64

pub same_cleared : (x y : List Float) → length x ≡ length y → cleared x ≡ cleared y
same_cleared x y e = ap (λ (n : ℕ). replicate n zero64) e

-- ---- values at the front of m places, z in the rest

replicate_step {ℓ} : {A : Type ℓ} (n i : ℕ) (a : A) → i < n → replicate (n - i) a ≡ a ∷ replicate (n - (i + 1)) a
replicate_step n i a h = let e : n - i ≡ suc (n - (i + 1)) = omega arith in rw e

replicate_none {ℓ} : {A : Type ℓ} (n i : ℕ) (a : A) → n ≤ i → replicate (n - i) a ≡ []
replicate_none n i a h = let e : n - i ≡ 0 = omega arith in ap (λ (k : ℕ). replicate k a) e

abbrev pub filled_up {ℓ} : {A : Type ℓ} → A → ℕ → List A → List A
filled_up z m xs = xs ++ replicate (m - length xs) z

pub filled_length {ℓ} : {A : Type ℓ} (z : A) (m : ℕ) (xs : List A) → length xs ≤ m → length (filled_up z m xs) ≡ m
filled_length z m xs h = length-append xs (replicate (m - length xs) z) ∙ omega (arith, length-replicate (m - length xs) z)

pub filled_front {ℓ} : {A : Type ℓ} (z : A) (m n : ℕ) (xs : List A) → length xs ≡ n → take n (filled_up z m xs) ≡ xs
filled_front z m n xs e = take_at xs (replicate (m - length xs) z) n e

pub filled_none {ℓ} : {A : Type ℓ} (z : A) (n m : ℕ) → n ≡ m → replicate n z ≡ filled_up z m []
filled_none z n m e = let g : n ≡ m - 0 = omega arith in ap (λ (k : ℕ). replicate k z) g

-- one more at the place after the last
pub filled_set {ℓ} : {A : Type ℓ} (z v : A) (m n : ℕ) (xs : List A) → n ≡ length xs → n < m → set (filled_up z m xs) n v ≡ filled_up z m (xs ++ (v ∷ []))
filled_set {A = A} z v m n xs e h =
    let g : m - length (xs ++ (v ∷ [])) ≡ m - (length xs + 1) = omega (arith, length-append xs (v ∷ [])) in
    ap (λ (l : List A). set (xs ++ l) n v) (replicate_step m (length xs) z (omega arith)) ∙ set_at xs z (replicate (m - (length xs + 1)) z) v n (sym e)
    ∙ sym (append_assoc xs (v ∷ []) (replicate (m - (length xs + 1)) z)) ∙ ap (λ (k : ℕ). (xs ++ (v ∷ [])) ++ replicate k z) (sym g)

-- ---- a loop that goes up

pub head_at {ℓ} : {A : Type ℓ} (x : List A) (i : ℕ) (d : A) → i < length x → drop i x ≡ get_or x i d ∷ drop (i + 1) x
head_at x i d h = rw add-one (drop-cons x i d h)

-- what is done is `take i x`, what is to do is a function of `drop i x`
pub turn {ℓ} : {A : Type ℓ} (f : List A → List A) (x : List A) (i : ℕ) (y : A) → i < length x →
    take (i + 1) (set x i y) ++ f (drop (i + 1) (set x i y)) ≡ take i x ++ (y ∷ f (drop (i + 1) x))
turn f x i y h = rw (add-one, take-suc-set x i y h, drop-set-lt (suc i) x i y (le_refl (suc i))) (append_snoc (take i x) y (f (drop (suc i) x)))

pub turn_done {ℓ} : {A : Type ℓ} (x t : List A) (i : ℕ) → length x ≤ i → t ≡ [] → take i x ++ t ≡ x
turn_done x t i h e = rw (e, take_all i x h) (append-nil x)

-- one more value from the front
pub take_set {ℓ} : {A : Type ℓ} (x : List A) (i : ℕ) (y : A) → i < length x → take (i + 1) (set x i y) ≡ take i x ++ (y ∷ [])
take_set x i y h = rw add-one (take-suc-set x i y h)

-- ---- filling: what stands there, and what is still to come

pub fill_turn {ℓ} : {A : Type ℓ} (x rest rest' goal : List A) (i : ℕ) (y : A) → i < length x →
    take i x ++ rest ≡ goal → rest ≡ y ∷ rest' → take (i + 1) (set x i y) ++ rest' ≡ goal
fill_turn {A = A} x rest rest' goal i y h inv e = turn (λ (l : List A). rest') x i y h ∙ ap (λ (l : List A). take i x ++ l) (sym e) ∙ inv

pub fill_done {ℓ} : {A : Type ℓ} (x rest goal : List A) (i : ℕ) → length x ≤ i → rest ≡ [] → take i x ++ rest ≡ goal → x ≡ goal
fill_done x rest goal i h e inv = sym (turn_done x rest i h e) ∙ inv

pub copy_turn {ℓ} : {A : Type ℓ} (d : A) (x out out₀ : List A) (k : ℕ) → length out ≡ length out₀ → length out₀ ≡ length x → k < length x
    → take k out ++ drop k x ≡ x →
    take (k + 1) (set out k (get_or x k d)) ++ drop (k + 1) x ≡ x
copy_turn d x out out₀ k l l₀ h inv = fill_turn out (drop k x) (drop (k + 1) x) x k (get_or x k d) (omega arith) inv (head_at x k d h)

pub copy_done {ℓ} : {A : Type ℓ} (x out out₀ : List A) (k : ℕ) → length out ≡ length out₀ → length out₀ ≡ length x → length x ≤ k → take k out ++ drop k x ≡ x
    → out ≡ x
copy_done x out out₀ k l l₀ h inv = fill_done out (drop k x) x k (omega arith) (drop_of_length-le x h) inv

pub clear_turn {ℓ} : {A : Type ℓ} (z : A) (a a₀ : List A) (i : ℕ) → length a ≡ length a₀ → i < length a
    → take i a ++ replicate (length a₀ - i) z ≡ replicate (length a₀) z →
    take (i + 1) (set a i z) ++ replicate (length a₀ - (i + 1)) z ≡ replicate (length a₀) z
clear_turn z a a₀ i l h inv = fill_turn a _ (replicate (length a₀ - (i + 1)) z) _ i z h inv (replicate_step (length a₀) i z (omega arith))

pub clear_done {ℓ} : {A : Type ℓ} (z : A) (a a₀ : List A) (i : ℕ) → length a ≡ length a₀ → length a ≤ i
    → take i a ++ replicate (length a₀ - i) z ≡ replicate (length a₀) z →
    a ≡ replicate (length a₀) z
clear_done z a a₀ i l h inv = fill_done a _ _ i h (replicate_none (length a₀) i z (omega arith)) inv

-- ---- testing each element, in any universe: std's `list_all`, which is for the lowest, is asked of the answers

abbrev pub each_holds {ℓ} : {A : Type ℓ} → (A → Bool) → List A → Bool
each_holds p x = list_all (λ (b : Bool). b) (map p x)

each_at {ℓ} : {A : Type ℓ} (d : A) (p : A → Bool) (x : List A) (i : ℕ) → i < length x → each_holds p (drop i x) ≡ (p (get_or x i d) && each_holds p (drop (i + 1) x))
each_at d p x i h = rw (head_at x i d h)

pub all_stops_each {ℓ} : {A : Type ℓ} (d : A) (p : A → Bool) (x : List A) (b g : Bool) (i : ℕ) → i < length x → b ≡ p (get_or x i d) → not b ≡ true
    → each_holds p (drop i x) ≡ g → false ≡ g
all_stops_each d p x b g i h e f inv = sym (each_at d p x i h ∙ ap (λ (b : Bool). b && each_holds p (drop (i + 1) x)) (sym e ∙ not-true b f)) ∙ inv

pub all_goes_each {ℓ} : {A : Type ℓ} (d : A) (p : A → Bool) (x : List A) (b g : Bool) (i : ℕ) → i < length x → b ≡ p (get_or x i d) → not b ≡ false
    → each_holds p (drop i x) ≡ g → each_holds p (drop (i + 1) x) ≡ g
all_goes_each d p x b g i h e f inv = sym (each_at d p x i h ∙ ap (λ (b : Bool). b && each_holds p (drop (i + 1) x)) (sym e ∙ not-false b f)) ∙ inv

pub all_done_each {ℓ} : {A : Type ℓ} (p : A → Bool) (x : List A) (b : Bool) (i : ℕ) → length x ≤ i → each_holds p (drop i x) ≡ b → true ≡ b
all_done_each p x b i h e = sym (ap (each_holds p) (drop_of_length-le x h)) ∙ e

each_is : {A : Type 0} (p : A → Bool) (x : List A) → each_holds p x ≡ list_all p x
each_is p x = list_all-map (λ (b : Bool). b) p x

pub all_stops : {A : Type 0} (d : A) (p : A → Bool) (x : List A) (b g : Bool) (i : ℕ) → i < length x → b ≡ p (get_or x i d) → not b ≡ true
    → list_all p (drop i x) ≡ g → false ≡ g
all_stops d p x b g i h e f inv = all_stops_each d p x b g i h e f (each_is p (drop i x) ∙ inv)

pub all_goes : {A : Type 0} (d : A) (p : A → Bool) (x : List A) (b g : Bool) (i : ℕ) → i < length x → b ≡ p (get_or x i d) → not b ≡ false
    → list_all p (drop i x) ≡ g → list_all p (drop (i + 1) x) ≡ g
all_goes d p x b g i h e f inv = sym (each_is p (drop (i + 1) x)) ∙ all_goes_each d p x b g i h e f (each_is p (drop i x) ∙ inv)

pub all_done : {A : Type 0} (p : A → Bool) (x : List A) (b : Bool) (i : ℕ) → length x ≤ i → list_all p (drop i x) ≡ b → true ≡ b
all_done p x b i h e = all_done_each p x b i h (each_is p (drop i x) ∙ e)

-- ---- testing neighbours

ascending_at {ℓ} : {A : Type ℓ} (d : A) (below : A → A → Bool) (x : List A) (i : ℕ) → i + 1 < length x →
    ascending below (drop i x) ≡ (below (get_or x i d) (get_or x (i + 1) d) && ascending below (drop (i + 1) x))
ascending_at {A = A} d below x i h =
    let u : A = get_or x (i + 1) d in
    let s : drop (i + 1) x ≡ u ∷ drop (i + 1 + 1) x = head_at x (i + 1) d h in
    rw (head_at x i d (omega arith), s)

pub ascending_goes {ℓ} : {A : Type ℓ} (d : A) (below : A → A → Bool) (x : List A) (g : Bool) (i : ℕ) → i + 1 < length x
    → below (get_or x i d) (get_or x (i + 1) d) ≡ true →
    ascending below (drop i x) ≡ g → ascending below (drop (i + 1) x) ≡ g
ascending_goes d below x g i h e inv = sym (ascending_at d below x i h ∙ ap (λ (b : Bool). b && ascending below (drop (i + 1) x)) e) ∙ inv

pub ascending_stops {ℓ} : {A : Type ℓ} (d : A) (below : A → A → Bool) (x : List A) (g : Bool) (i : ℕ) → i + 1 < length x
    → below (get_or x i d) (get_or x (i + 1) d) ≡ false →
    ascending below (drop i x) ≡ g → false ≡ g
ascending_stops d below x g i h e inv = sym (ascending_at d below x i h ∙ ap (λ (b : Bool). b && ascending below (drop (i + 1) x)) e) ∙ inv

pub ascending_done {ℓ} : {A : Type ℓ} (d : A) (below : A → A → Bool) (x : List A) (g : Bool) (i : ℕ) → i < length x → length x - i ≤ 1
    → ascending below (drop i x) ≡ g → true ≡ g
ascending_done d below x g i h k inv = sym (rw (head_at x i d h, drop_of_length-le x {i = i + 1} (omega arith))) ∙ inv

pub ascending_none {ℓ} : {A : Type ℓ} (below : A → A → Bool) (x : List A) → length x ≡ 0 → true ≡ ascending below x
ascending_none below [] h = refl
ascending_none below (u ∷ x) h = absurd (omega arith)
