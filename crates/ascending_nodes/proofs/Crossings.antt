-- Laws of the ascending nodes. Assumes nothing.
use Rattle.std.proofs.Common.{◌≡◌, ℕ, ◌+◌, ◌-◌, ◌<◌, ◌≤◌, Bool, true, false, List, [], ◌∷◌, ◌++◌, length, set, replicate, ℤ, sym, refl, ap, ◌∙◌, append-nil, add-one, arith, length-append}
use lib.Ieee.{Float}
use Rattle.laws.specs.Floats.{zero64}
use Rattle.laws.specs.Loops.{filled_up, filled_none, filled_set}
use Rattle.ascending_nodes.specs.Nodes.{crosses_at, crossing_at, nodes_to}

-- ---- one pair more

nodes_yes : (ks : List ℤ) (st : List Float) (k : ℕ) → crosses_at ks st k ≡ true → nodes_to ks st (k + 1) ≡ nodes_to ks st k ++ (crossing_at ks st k ∷ [])
unfolding nodes_to
nodes_yes ks st k e = rw add-one (simp e)

nodes_no : (ks : List ℤ) (st : List Float) (k : ℕ) → crosses_at ks st k ≡ false → nodes_to ks st (k + 1) ≡ nodes_to ks st k
unfolding nodes_to
nodes_no ks st k e = rw add-one (simp e (append-nil (nodes_to ks st k)))

-- the state of the loop after k pairs
pub record Upto (ks : List ℤ) (st : List Float) (k count : ℕ) (out : List Float) : Type 0 where
  pub few : count ≤ k
  pub counted : count ≡ length (nodes_to ks st k)
  pub held : out ≡ filled_up zero64 (length ks) (nodes_to ks st k)

pub upto_none : (ks : List ℤ) (st out out₀ : List Float) → length out₀ ≡ length ks → out ≡ replicate (length out₀) zero64 → Upto ks st 0 0 out
unfolding nodes_to
upto_none ks st out out₀ l e = record {
  few = omega arith;
  counted = refl;
  held = e ∙ filled_none zero64 (length out₀) (length ks) l;
}

pub upto_yes : (ks : List ℤ) (st : List Float) (k count : ℕ) (out : List Float) (b : Bool) (v : Float) → k < length ks - 1 → Upto ks st k count out → b ≡ crosses_at ks st k → b ≡ true →
    v ≡ crossing_at ks st k → Upto ks st (k + 1) (count + 1) (set out count v)
upto_yes ks st k count out b v h u eb q ev =
    let n : nodes_to ks st (k + 1) ≡ nodes_to ks st k ++ (crossing_at ks st k ∷ []) = nodes_yes ks st k (sym eb ∙ q) in
    let l : List Float = nodes_to ks st k in
    let c : count < length ks = omega (arith, u.few) in
    record {
      few = omega (arith, u.few);
      counted = omega (arith, u.counted, ap length n, length-append l (crossing_at ks st k ∷ []));
      held =
          ap (λ (x : List Float). set x count v) u.held ∙ filled_set zero64 v (length ks) count l u.counted c
          ∙ ap (λ (x : Float). filled_up zero64 (length ks) (l ++ (x ∷ []))) ev ∙ ap (filled_up zero64 (length ks)) (sym n);
    }

pub upto_no : (ks : List ℤ) (st : List Float) (k count : ℕ) (out : List Float) (b : Bool) → Upto ks st k count out → b ≡ crosses_at ks st k → b ≡ false → Upto ks st (k + 1) count out
upto_no ks st k count out b u eb q =
    let n : nodes_to ks st (k + 1) ≡ nodes_to ks st k = nodes_no ks st k (sym eb ∙ q) in
    record {
      few = omega (arith, u.few);
      counted = u.counted ∙ sym (ap length n);
      held = u.held ∙ ap (filled_up zero64 (length ks)) (sym n);
    }
