-- Laws of lists of which a part is put in place: `put_mid a k s l` is s with l in the place of the k numbers from a on. Assumes nothing.
use mathlib.Core.Path.{◌≡◌, sym, ap, ◌∙◌}
use mathlib.Core.List.{List, [], ◌∷◌, ◌++◌, append_assoc}
use Prim.Native.Nat.{ℕ, suc, ◌+◌, ◌-◌, ◌<◌, ◌≤◌}
use native.Mathlib.Numerals.{add-one}
use native.Mathlib.Omega.{arith}
use lib.ListN.{length, take, drop, get_or, set, length-drop, length-append, take-append-drop, get_or-append}
use lib.Seq.{take-suc, drop-append-le, take-append-le, take-append-add, drop-append-add, get_or-take, get_or-drop, length-take-le, take-take, take-add, drop-drop, take_at, drop_at, set_split}
use borrow.Rule.Slice.PartMut.{mid_of, put_mid, same_len_mid}

module _ {A : Type 0} where
  -- what is left of the first m + r after m
  pub drop_take : (m r : ℕ) (s : List A) → m ≤ length s → drop m (take (m + r) s) ≡ take r (drop m s)
  drop_take m r s h = ap (drop m) (take-add m r s) ∙ drop_at (take m s) (take r (drop m s)) m (length-take-le m s h)

  pub take_mid : (n a k : ℕ) (s l : List A) → n ≤ a → a ≤ length s → take n (put_mid a k s l) ≡ take n s
  take_mid n a k s l h b =
      take-append-le n (take a s) (l ++ drop k (drop a s)) (rw (length-take-le a s b) h) ∙ take-take n a s h

  pub drop_mid : (n a k : ℕ) (s l : List A) → a + k ≤ n → n ≤ length s → length l ≡ k → drop n (put_mid a k s l) ≡ drop n s
  drop_mid n a k s l h b e =
      let r : ℕ = n - (a + k) in
      let f : List A = take a s ++ l in
      let lf : length f ≡ a + k = length-append (take a s) l ∙ rw (length-take-le a s (omega arith), e) in
      let q : n ≡ length f + r = omega arith in
      let z : a + (k + r) ≡ n = omega arith in
      ap (drop n) (sym (append_assoc (take a s) l (drop k (drop a s))))
      ∙ ap (λ (j : ℕ). drop j (f ++ drop k (drop a s))) q
      ∙ drop-append-add f (drop k (drop a s)) r
      ∙ drop-drop r k (drop a s) ∙ drop-drop (k + r) a s
      ∙ ap (λ (j : ℕ). drop j s) z

  -- l, then m, put behind each other
  pub put_on : (a k j : ℕ) (s l m : List A) → a ≤ length s → length l ≡ k → put_mid (a + k) j (put_mid a k s l) m ≡ put_mid a (k + j) s (l ++ m)
  put_on a k j s l m h e =
      let d : List A = drop k (drop a s) in
      let f : List A = take a s ++ l in
      let lf : length f ≡ a + k = length-append (take a s) l ∙ rw (length-take-le a s h, e) in
      ap (λ (x : List A). take (a + k) x ++ (m ++ drop j (drop (a + k) x))) (sym (append_assoc (take a s) l d))
      ∙ rw (take_at f d (a + k) lf, drop_at f d (a + k) lf)
      (append_assoc (take a s) l (m ++ drop j d)
      ∙ ap (λ (x : List A). take a s ++ x) (sym (append_assoc l m (drop j d)) ∙ ap (λ (x : List A). (l ++ m) ++ x) (drop-drop j k (drop a s))))

  pub put_none : (a : ℕ) (s : List A) → put_mid a 0 s [] ≡ s
  put_none a s = take-append-drop a s

  pub set_is : (s : List A) (k : ℕ) (v : A) → k < length s → set s k v ≡ put_mid k 1 s (v ∷ [])
  set_is s k v h =
      let z : suc k ≡ k + 1 = omega arith in
      set_split s k v h ∙ ap (λ (x : List A). take k s ++ (v ∷ x)) (ap (λ (j : ℕ). drop j s) z ∙ sym (drop-drop 1 k s))

  pub get_before : (a k i : ℕ) (s l : List A) (d : A) → i < a → a ≤ length s → get_or (put_mid a k s l) i d ≡ get_or s i d
  get_before a k i s l d h b =
      get_or-append (take a s) (l ++ drop k (drop a s)) d i (rw (length-take-le a s b) h) ∙ get_or-take a s i d h

  pub get_after : (a k i : ℕ) (s l : List A) (d : A) → a + k ≤ i → i < length s → length l ≡ k → get_or (put_mid a k s l) i d ≡ get_or s i d
  get_after a k i s l d h b e =
      let x : List A = put_mid a k s l in
      let z : i + 0 ≡ i = omega arith in
      ap (λ (j : ℕ). get_or x j d) (sym z) ∙ sym (get_or-drop i x 0 d)
      ∙ ap (λ (y : List A). get_or y 0 d) (drop_mid i a k s l h (omega arith) e)
      ∙ get_or-drop i s 0 d ∙ ap (λ (j : ℕ). get_or s j d) z

  pub length_mid : (a k : ℕ) (s : List A) → a + k ≤ length s → length (mid_of a k s) ≡ k
  length_mid a k s h = length-take-le k (drop a s) (rw (length-drop a s) (omega arith))

  -- the part that was put, and one behind it
  pub mid_same : (a k : ℕ) (s l : List A) → a ≤ length s → length l ≡ k → mid_of a k (put_mid a k s l) ≡ l
  mid_same a k s l h e =
      ap (take k) (drop_at (take a s) (l ++ drop k (drop a s)) a (length-take-le a s h)) ∙ take_at l (drop k (drop a s)) k e

  pub mid_behind : (b j a k : ℕ) (s l : List A) → a + k ≤ b → b ≤ length s → length l ≡ k → mid_of b j (put_mid a k s l) ≡ mid_of b j s
  mid_behind b j a k s l h q e = ap (take j) (drop_mid b a k s l h q e)

  pub mid_ahead : (b j a k : ℕ) (s l : List A) → b + j ≤ a → a ≤ length s → length l ≡ k → mid_of b j (put_mid a k s l) ≡ mid_of b j s
  mid_ahead b j a k s l h q e =
      sym (drop_take b j (put_mid a k s l) (omega (arith, length-append (take a s) (l ++ drop k (drop a s)), length-take-le a s q)))
      ∙ ap (drop b) (take_mid (b + j) a k s l h q) ∙ drop_take b j s (omega arith)

  -- a part of a part
  pub mid_mid : (n m a k : ℕ) (s : List A) → a + k ≤ m → n + m ≤ length s → mid_of a k (mid_of n m s) ≡ mid_of (n + a) k s
  mid_mid n m a k s h b =
      let y : List A = drop n s in
      let q : m ≡ a + (m - a) = omega arith in
      ap (λ (j : ℕ). take k (drop a (take j y))) q
      ∙ ap (take k) (drop_take a (m - a) y (rw (length-drop n s) (omega arith)))
      ∙ take-take k (m - a) (drop a y) (omega arith)
      ∙ ap (take k) (drop-drop a n s)

  -- what is put in the second part of a list is put in that part
  drop_put_in : (n a k : ℕ) (s l : List A) → n + a ≤ length s → drop n (put_mid (n + a) k s l) ≡ put_mid a k (drop n s) l
  drop_put_in n a k s l h =
      drop-append-le n (take (n + a) s) (l ++ drop k (drop (n + a) s)) (rw (length-take-le (n + a) s h) (omega arith))
      ∙ ap (λ (x : List A). x ++ (l ++ drop k (drop (n + a) s))) (drop_take n a s (omega arith))
      ∙ ap (λ (x : List A). take a (drop n s) ++ (l ++ drop k x)) (sym (drop-drop a n s))

  take_put_in : (n a k : ℕ) (s l : List A) → a + k ≤ n → n ≤ length s → length l ≡ k → take n (put_mid a k s l) ≡ put_mid a k (take n s) l
  take_put_in n a k s l h b e =
      let r : ℕ = n - (a + k) in
      let f : List A = take a s ++ l in
      let d : List A = drop k (drop a s) in
      let lf : length f ≡ a + k = length-append (take a s) l ∙ rw (length-take-le a s (omega arith), e) in
      let q : n ≡ length f + r = omega arith in
      let q' : n ≡ a + k + r = omega arith in
      let w : drop k (drop a (take n s)) ≡ take r d =
      drop-drop k a (take n s) ∙ ap (λ (j : ℕ). drop (a + k) (take j s)) q' ∙ drop_take (a + k) r s (omega arith) ∙ ap (take r) (sym (drop-drop k a s)) in
      ap (take n) (sym (append_assoc (take a s) l d))
      ∙ ap (λ (j : ℕ). take j (f ++ d)) q
      ∙ take-append-add f d r
      ∙ append_assoc (take a s) l (take r d)
      ∙ ap (λ (x : List A). take a s ++ (l ++ x)) (sym w)
      ∙ ap (λ (x : List A). x ++ (l ++ drop k (drop a (take n s)))) (sym (take-take a n s (omega arith)))

  pub mid_put_in : (n m a k : ℕ) (s l : List A) → a + k ≤ m → n + m ≤ length s → length l ≡ k → mid_of n m (put_mid (n + a) k s l) ≡ put_mid a k (mid_of n m s) l
  mid_put_in n m a k s l h b e =
      ap (take m) (drop_put_in n a k s l (omega arith)) ∙ take_put_in m a k (drop n s) l h (rw (length-drop n s) (omega arith)) e

  -- one more of the list l is put
  pub put_more : (a i : ℕ) (s l : List A) (d v : A) → a + i < length s → i < length l → v ≡ get_or l i d →
      set (put_mid a i s (take i l)) (a + i) v ≡ put_mid a (i + 1) s (take (i + 1) l)
  put_more a i s l d v h b e =
      let x : List A = put_mid a i s (take i l) in
      let lt' : length (take i l) ≡ i = length-take-le i l (omega arith) in
      let lx : length x ≡ length s = same_len_mid a i s (take i l) (lt' ∙ sym (length_mid a i s (omega arith))) in
      set_is x (a + i) v (rw lx h)
      ∙ put_on a i 1 s (take i l) (v ∷ []) (omega arith) lt'
      ∙ ap (λ (y : List A). put_mid a (i + 1) s y) (ap (λ (y : A). take i l ++ (y ∷ [])) e ∙ sym (take-suc l i d b) ∙ ap (λ (j : ℕ). take j l) (sym (add-one i)))
