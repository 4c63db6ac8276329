-- What is kept of a list: of an appended one, how much at most, by two functions that agree. Assumes nothing.
use mathlib.Core.Path.{◌≡◌, refl, ap, ◌∙◌}
use Rattle.std.specs.Prelude.{Option, None, Some}
use mathlib.Core.List.{List, [], ◌∷◌, ◌++◌}
use Prim.Native.Nat.{ℕ, suc, ◌≤◌}
use native.Mathlib.Omega.{arith}
use lib.ListN.{length}
use Rattle.laws.specs.Lists.{All}
use Rattle.finality.specs.Sheet.{keep, kept_of}

keep_append : {A : Type 0} (o : Option A) (xs ys : List A) → keep o (xs ++ ys) ≡ keep o xs ++ ys
keep_append None xs ys = refl
keep_append (Some x) xs ys = refl

pub kept_append : {X Y : Type 0} (f : X → Option Y) (xs ys : List X) → kept_of f (xs ++ ys) ≡ kept_of f xs ++ kept_of f ys
unfolding kept_of
kept_append f [] ys = refl
kept_append f (x ∷ xs) ys = ap (keep (f x)) (kept_append f xs ys) ∙ keep_append (f x) (kept_of f xs) (kept_of f ys)

keep_length : {A : Type 0} (o : Option A) (xs : List A) (n : ℕ) → length xs ≤ n → length (keep o xs) ≤ suc n
keep_length None xs n h = omega arith
keep_length (Some x) xs n h = omega arith

pub kept_length : {X Y : Type 0} (f : X → Option Y) (xs : List X) → length (kept_of f xs) ≤ length xs
unfolding kept_of
kept_length f [] = omega arith
kept_length f (x ∷ xs) = keep_length (f x) (kept_of f xs) (length xs) (kept_length f xs)

pub kept_same : {X Y : Type 0} (f g : X → Option Y) (xs : List X) → All (λ (x : X). f x ≡ g x) xs → kept_of f xs ≡ kept_of g xs
unfolding kept_of
kept_same f g [] a = refl
kept_same f g (x ∷ xs) a = λ i. keep (a.0 i) (kept_same f g xs a.1 i)
