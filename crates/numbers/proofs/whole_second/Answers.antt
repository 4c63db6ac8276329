-- `numbers::whole_second` meets its contract. Assumes nothing.
use Rattle.std.proofs.Common.{◌≡◌, true, false, T, pos, sym, subst, w64}
use lib.Ieee.{fin, le, lt, of_bits, neg}
use mir.ValLaws.{to_z-of_z}
use Rattle.numbers.specs.Seconds.{whole_second}
use Rattle.numbers.proofs.whole_second.Goals as goal

pub truncating_f64_to_i64-n-requires : goal.truncating_f64_to_i64-n-requires
unfolding of_bits neg
truncating_f64_to_i64-n-requires c = record { lower_bound = subst T (sym c.if-x.true) tt; upper_bound = subst T (sym c.if-x-2.true) tt }

pub returns-then-x-2 : goal.returns-then-x-2
unfolding whole_second of_bits neg
returns-then-x-2 c =
    let a : le (fin true 1 (pos 63)) c.args.t.0 ≡ true = c.if-x.true in
    let b : lt c.args.t.0 (fin false 1 (pos 63)) ≡ true = c.if-x-2.true in
    rw (to_z-of_z w64 c.truncating_f64_to_i64-n.result (record { sfits = c.truncating_f64_to_i64-n.type_inv }), c.truncating_f64_to_i64-n.ensures, a, b)

pub returns-else-x-2 : goal.returns-else-x-2
unfolding whole_second of_bits neg
returns-else-x-2 c =
    let a : le (fin true 1 (pos 63)) c.args.t.0 ≡ true = c.if-x.true in
    let b : lt c.args.t.0 (fin false 1 (pos 63)) ≡ false = c.if-x-2.false in
    rw (a, b)

pub returns-else-x : goal.returns-else-x
unfolding whole_second of_bits neg
returns-else-x c =
    let a : le (fin true 1 (pos 63)) c.args.t.0 ≡ false = c.if-x.false in
    rw a
