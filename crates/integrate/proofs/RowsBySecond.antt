-- Rows by whole second: how many there are and which, and that the row found by its key is the row at the place of the key. Assumes nothing.
use Rattle.std.proofs.Common.{◌≡◌, ℕ, zero, suc, ◌+◌, ◌<◌, Bool, true, false, cond, not, ◌||◌, List, [], ◌∷◌, map, length, get_or, ℤ, refl, ap, ◌∙◌, arith}
use Rattle.std.specs.Prelude.{Option, None, Some, option_map}
use lib.Signed.{lt_z}
use Rattle.laws.specs.Bools.{by}
use Rattle.slices.specs.Slices.{lookup, lookup_from}
use Rattle.finality.specs.Tables.{find, key_of}
use Rattle.finality.proofs.Lookup.{same_order}
use Rattle.inputs.specs.Inputs.{Keyed}
use Rattle.integrate.specs.RowsBySecond.{map_from, rows_by, states_in, values_in}

-- ---- f of each entry and its place

module _ {A B : Type 0} (f : A → ℕ → B) where
  pub from_length : (i : ℕ) (xs : List A) → length (map_from f i xs) ≡ length xs
  unfolding map_from
  from_length i [] = refl
  from_length i (x ∷ xs) = ap suc (from_length (suc i) xs)

  pub from_at : (i : ℕ) (xs : List A) (j k : ℕ) (d : B) (e : A) → j < length xs → i + j ≡ k → get_or (map_from f i xs) j d ≡ f (get_or xs j e) k
  unfolding map_from
  from_at i [] j k d e h p = absurd (omega arith)
  from_at i (x ∷ xs) zero k d e h p = ap (f x) (omega arith)
  from_at i (x ∷ xs) (suc j) k d e h p = from_at (suc i) xs j k d e (omega arith) (omega arith)

  -- the entries again
  pub from_back : (g : B → A) → ((x : A) (i : ℕ) → g (f x i) ≡ x) → (i : ℕ) (xs : List A) → map g (map_from f i xs) ≡ xs
  unfolding map_from
  from_back g h i [] = refl
  from_back g h i (x ∷ xs) = λ j. h x i j ∷ from_back g h (suc i) xs j

-- the keys
pub states_keys : (l : Keyed) → map key_of (states_in l) ≡ l.keys
unfolding states_in
states_keys l = from_back _ key_of (λ k i. refl) 0 l.keys

pub values_keys : (l : Keyed) → map key_of (values_in l) ≡ l.keys
unfolding values_in
values_keys l = from_back _ key_of (λ k i. refl) 0 l.keys

-- ---- the look-up

either : {X : Type 0} (row : ℕ → X) (b : Bool) (i : ℕ) (o : Option X) (f : Option ℕ) → o ≡ option_map row f → cond (not b) (Some (row i)) o ≡ option_map row (cond b f (Some i))
either row true i o f h = h
either row false i o f h = refl

find_from : {X : Type 0} (row : ℕ → X) (i : ℕ) (ks : List ℤ) (k : ℤ) → find k (map_from (λ (k : ℤ) (i : ℕ). (k, row i)) i ks) ≡ option_map row (lookup_from i ks k)
unfolding find map_from lookup_from
find_from row i [] k = refl
find_from {X} row i (x ∷ xs) k =
    let rest : Option X = find k (map_from (λ (k : ℤ) (i : ℕ). (k, row i)) (suc i) xs) in
    ap (λ (b : Bool). cond b (Some (row i)) rest) (same_order x k) ∙ either row (lt_z x k || lt_z k x) i rest (lookup_from (suc i) xs k) (find_from row (suc i) xs k)

pub find_row : {X : Type 0} (row : ℕ → X) (ks : List ℤ) (k : ℤ) → find k (rows_by row ks) ≡ option_map row (lookup ks k)
unfolding lookup
find_row row ks k = find_from row 0 ks k

pub row_found : {X : Type 0} (row : ℕ → X) (ks : List ℤ) (k : ℤ) (i : ℕ) → lookup ks k ≡ Some i → find k (rows_by row ks) ≡ Some (row i)
row_found row ks k i h = find_row row ks k ∙ ap (option_map row) h

pub row_missing : {X : Type 0} (row : ℕ → X) (ks : List ℤ) (k : ℤ) → lookup ks k ≡ None → find k (rows_by row ks) ≡ None
row_missing row ks k h = find_row row ks k ∙ ap (option_map row) h

-- a place that is found is one of the list
found_from : (i : ℕ) (ks : List ℤ) (k : ℤ) (j : ℕ) → lookup_from i ks k ≡ Some j → j < i + length ks
unfolding lookup_from
found_from i [] k j e = let z : ◌≡◌ {A = ℕ} 0 1 = cc in absurd (omega arith)
found_from i (x ∷ xs) k j e =
    by (lt_z x k || lt_z k x)
    (λ t. let h : j < suc i + length xs = found_from (suc i) xs k j (rw t at e) in omega arith)
    (λ t. let f : Some i ≡ Some j = rw t at e in let q : i ≡ j = cc in omega arith)

pub found_below : (ks : List ℤ) (k : ℤ) (j : ℕ) → lookup ks k ≡ Some j → j < length ks
unfolding lookup
found_below ks k j e = let h : j < 0 + length ks = found_from 0 ks k j e in omega arith
