-- `windows::kernel::ceil`: the number cut, and one more where the cut lies below, is the least not below x, by the laws of proofs/CutNumbers.antt. Assumes nothing.
use Rattle.std.proofs.Common.{◌≡◌, ℕ, ◌+◌, not, T, pos, sym, ap, ◌∙◌, subst, arith}
use lib.Ieee.{Float, binary64, of_int, to_unsigned, lt}
use Rattle.laws.specs.WholeNumbers.{number}
use Rattle.windows.proofs.CutNumbers.{above_cut, below_cut, cut_bound, ceil_next, ceil_same}
use Rattle.windows.proofs.kernel.ceil.Goals as goal

pub truncating_f64_to_u64-n-requires : goal.truncating_f64_to_u64-n-requires
truncating_f64_to_u64-n-requires c =
    record { lower_bound = above_cut c.args.x c.requires.0; upper_bound = below_cut c.args.x c.requires.1 }

pub overflow_add-result : goal.overflow_add-result
overflow_add-result c =
    let h = cut_bound c.args.x c.requires.0 c.requires.1 in let e =
    c.truncating_f64_to_u64-n.ensures in omega (arith, h, e)

pub returns-then-nearest_u64_to_f64-x : goal.returns-then-nearest_u64_to_f64-x
unfolding number
returns-then-nearest_u64_to_f64-x c =
    let x = c.args.x in
    let pre = c.requires in
    let cut : c.truncating_f64_to_u64-n.result ≡ to_unsigned 64 x = c.truncating_f64_to_u64-n.ensures in
    let f : c.nearest_u64_to_f64.result ≡ number (to_unsigned 64 x) = c.nearest_u64_to_f64.ensures ∙ ap (λ (n : ℕ). of_int binary64 (pos n)) cut in
    ap (λ (n : ℕ). n + 1) cut ∙ ceil_next x pre.0 pre.1 (subst T (sym (ap (λ (y : Float). lt y x) (sym f) ∙ c.if-nearest_u64_to_f64-x.true)) tt)

pub returns : goal.returns
unfolding number
returns c =
    let x = c.args.x in
    let pre = c.requires in
    let cut : c.truncating_f64_to_u64-n.result ≡ to_unsigned 64 x = c.truncating_f64_to_u64-n.ensures in
    let f : c.nearest_u64_to_f64.result ≡ number (to_unsigned 64 x) = c.nearest_u64_to_f64.ensures ∙ ap (λ (n : ℕ). of_int binary64 (pos n)) cut in
    cut ∙ ceil_same x pre.0 pre.1 (subst (λ b. T (not b)) (sym (ap (λ (y : Float). lt y x) (sym f) ∙ c.if-nearest_u64_to_f64-x.false)) tt)
