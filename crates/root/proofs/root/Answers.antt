-- `root::root` meets its contract: `proofs/Cases.antt` has each case. Assumes nothing.
use mathlib.Core.Path.{◌≡◌, sym, subst, ◌∙◌}
use native.Mathlib.Omega.{arith}
use Prim.Native.Nat.{◌-◌, ◌<◌}
use mathlib.Core.Bool.{true}
use lib.Dec.{T}
use lib.Ieee.{Float, binary64, fits, to_bits, lt}
use Rattle.root.proofs.Cases.{naught, Shifted, bits_pos, shifted, subnormal_units, subnormal_root, worth, digits, normal_root, top_root}
use Rattle.root.proofs.root.Goals as goal

-- what owning an `f64` tells: the format holds it
held : (x : Float) → fits binary64 x ≡ true → T (fits binary64 x)
held _ f = subst T (sym f) tt

bits : (x : Float) → fits binary64 x ≡ true → lt naught x ≡ true → 0 < to_bits binary64 x
bits x f h = bits_pos x (held x f) h

shift : (x : Float) → fits binary64 x ≡ true → lt naught x ≡ true → to_bits binary64 x < 4503599627370496 → Shifted (to_bits binary64 x)
shift x f h l = shifted (to_bits binary64 x) (bits x f h) l

pub overflow_sub-s : goal.overflow_sub-s
overflow_sub-s c = (shift c.args.x c.well_formed.0.1 c.if-x.true c.if-b-ge-HID.false).least

pub overflow_sub-s-else-b-ge-HID : goal.overflow_sub-s-else-b-ge-HID
overflow_sub-s-else-b-ge-HID c = (shift c.args.x c.well_formed.0.1 c.if-x.true c.if-b-ge-HID.false).most

pub tail-requires : goal.tail-requires
tail-requires c = let s = shift c.args.x c.well_formed.0.1 c.if-x.true c.if-b-ge-HID.false in omega (arith, s.exact, s.from, s.to)

pub returns-then-k-lt1023 : goal.returns-then-k-lt1023
returns-then-k-lt1023 c =
    let x = c.args.x in
    let b = to_bits binary64 x in
    c.root.ensures (worth b) (digits b (b - 4503599627370496) (omega arith)) ∙ sym (normal_root x (held _ c.well_formed.0.1) c.if-b-ge-HID.true (omega arith))

pub returns-else-k-lt1023 : goal.returns-else-k-lt1023
returns-else-k-lt1023 c =
    top_root c.args.x (held _ c.well_formed.0.1) c.if-x.true (omega arith)

pub returns-else-b-ge-HID : goal.returns-else-b-ge-HID
returns-else-b-ge-HID c =
    let x = c.args.x in
    let p = bits x c.well_formed.0.1 c.if-x.true in
    c.tail.ensures (to_bits binary64 x) (subnormal_units (to_bits binary64 x) p c.if-b-ge-HID.false) ∙ sym (subnormal_root x (held _ c.well_formed.0.1) p c.if-b-ge-HID.false)
