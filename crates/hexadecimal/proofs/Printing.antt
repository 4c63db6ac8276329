-- Laws of printed pieces, as loops and calls give their premises. Assumes nothing.
use mathlib.Core.Path.{◌≡◌, sym, ap, ◌∙◌}
use mathlib.Core.Bool.{Bool, true, false, cond}
use mathlib.Core.List.{List, [], ◌∷◌, ◌++◌, append_assoc}
use Prim.Native.Nat.{ℕ, zero, suc, ◌+◌, ◌-◌, ◌/◌, ◌≤◌}
use native.Mathlib.Omega.{arith}
use borrow.Author.Tests.{le-leb}
use lib.Dec.{leb, ltb}
use lib.ListN.{length, take, drop, length-append, length-take}
use borrow.Rule.Slice.PartMut.{post_of, put_mid}
use lib.Seq.{take_at, length-take-le}
use Rattle.laws.specs.Lists.{cond_ind}
use Rattle.hexadecimal.specs.Digits.{written, places_in, places_of, decimal_of, Put}
use Rattle.hexadecimal.specs.Printing.{line_feed, refused_text, Printed}
use Rattle.hexadecimal.proofs.DigitLoops.{digits_length}

-- ---- bytes

pub bytes_put : (bytes out : List ℕ) (at end : ℕ) → at + length bytes ≤ length out → end ≡ at + length bytes → Printed bytes out at (put_mid at (end - at) out bytes) end
bytes_put bytes out at end h e =
    let l : length (take at out ++ bytes) ≡ end = length-append (take at out) bytes ∙ rw (length-take-le at out (let q : at ≤ length out = omega arith in q)) (sym e) in
    record { ends = e; text = ap (take end) (sym (append_assoc (take at out) bytes (post_of at (end - at) out))) ∙ take_at (take at out ++ bytes) (post_of at (end - at) out) end l }

-- one piece after another
pub then : (b1 b2 o o1 o2 : List ℕ) (at r s : ℕ) → Printed b1 o at o1 r → Printed b2 o1 r o2 s → Printed (b1 ++ b2) o at o2 s
then b1 b2 o o1 o2 at r s p q = record {
  ends = q.ends ∙ simp length-append (omega (arith, p.ends));
  text = q.text ∙ ap (λ (x : List ℕ). x ++ b2) p.text ∙ append_assoc (take at o) b1 b2;
}

-- ---- digits

places_few : (k n : ℕ) → places_in k n ≤ k + 1
unfolding places_in
places_few zero n = omega arith
places_few (suc k) n = cond_ind (λ (m : ℕ). m ≤ suc k + 1) (ltb n 10) 1 (suc (places_in k (n / 10))) (λ _. omega arith) (λ _. omega (arith, places_few k (n / 10)))

pub written_prints : (o ys : List ℕ) (at e : ℕ) → e ≡ at + length ys → e ≤ length o → Printed ys o at (written o at ys) e
unfolding written
written_prints o ys at e h g =
    let f : length ys ≤ length o - at = omega arith in
    let l : length (take at o ++ ys) ≡ e = simp length-append (rw (length-take-le at o (omega arith)) (sym h)) in
    record {
      ends = h;
      text = rw (le-leb (length ys) (length o - at) f) (ap (take e) (sym (append_assoc (take at o) ys (drop (at + length ys) o))) ∙ take_at (take at o ++ ys) (drop (at + length ys) o) e l);
    }

cond_few : (b : Bool) (k : ℕ) → k ≤ 20 → cond b k 0 ≤ 20
cond_few true k h = h
cond_few false k h = omega arith

pub count_few : {n : ℕ} {o : List ℕ} {at : ℕ} {o' : List ℕ} {k : ℕ} → Put n o at o' k → k ≤ 20
count_few {n} {o} {at} p = rw p.count (cond_few (leb (places_of n) (length o - at)) (places_of n) (places_few 19 n))

pub count_prints : (n at k : ℕ) (o o' : List ℕ) → at + 20 ≤ length o → Put n o at o' k → Printed (decimal_of n) o at o' (at + k)
count_prints n at k o o' h p =
    let f : places_of n ≤ 20 = places_few 19 n in
    let c : k ≡ places_of n = p.count ∙ rw (le-leb (places_of n) (length o - at) (omega arith)) in
    let d : length (decimal_of n) ≡ places_of n = digits_length 10 (places_of n) n in
    let w = written_prints o (decimal_of n) at (at + k) (omega (arith, c, d)) (omega (arith, c)) in
    record { ends = w.ends; text = ap (take (at + k)) p.text ∙ w.text }

-- ---- sentences

pub refused_prints : (n : ℕ) (o o1 o2 o3 : List ℕ) (a b r : ℕ) → Printed (114 ∷ 101 ∷ 102 ∷ 117 ∷ 115 ∷ 101 ∷ 100 ∷ 32 ∷ []) o 0 o1 a → Printed (decimal_of n) o1 a o2 b → Printed line_feed o2 b o3 r →
    Printed (refused_text n) o 0 o3 r
unfolding refused_text
refused_prints n o o1 o2 o3 a b r p q s =
    then (114 ∷ 101 ∷ 102 ∷ 117 ∷ 115 ∷ 101 ∷ 100 ∷ 32 ∷ []) (decimal_of n ++ line_feed) o o1 o3 0 a r p (then (decimal_of n) line_feed o1 o2 o3 a b r q s)

-- where a text ends counts bytes of the list it is printed in
pub printed_counts : (bytes before after : List ℕ) (r : ℕ) → Printed bytes before 0 after r → (r ≤ length after) × (r ≡ length (take r after))
printed_counts bytes before after r p =
    let h : r ≤ length after = omega (arith, p.ends, simp length-append at (ap length p.text), length-take r after) in
    (h, sym (length-take-le r after h))
