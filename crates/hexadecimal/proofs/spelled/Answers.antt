-- Assumes nothing.
use Rattle.std.proofs.Common.{arith, rules, refl, ◌≡◌, ◌+◌, ◌*◌, ◌∙◌}
use Rattle.hexadecimal.proofs.DigitLoops.{read_starts, read_on, read_bad, read_over, read_done, some_digit, no_digit}
use Rattle.hexadecimal.proofs.spelled.Goals as goal

pub loop-b-init : goal.loop-b-init
loop-b-init c = record { fits = omega arith; says = read_starts _ _ }

pub returns-in_err-d : goal.returns-in_err-d
returns-in_err-d c =
    let k = no_digit _ c.in_err-d.ensures in
    c.from_residual.ensures ∙ read_bad c.args.base.of c.loop-b.value _ _ c.args.text.now _ c.loop-b-test.true refl (omega arith) c.loop-b.invariant.says

pub returns-then-d-base : goal.returns-then-d-base
returns-then-d-base c =
    let k = some_digit _ _ c.in_ok-d.ensures in
    read_bad c.args.base.of c.loop-b.value _ _ c.args.text.now _ c.loop-b-test.true k.0 c.if-d-base.true c.loop-b.invariant.says

pub returns-in_err-checked_mul : goal.returns-in_err-checked_mul
returns-in_err-checked_mul c =
    let k = some_digit _ _ c.in_ok-d.ensures in
    c.from_residual-in_err-checked_mul.ensures
    ∙ read_over c.args.base.of c.loop-b.value _ _ c.args.text.now _ c.args.base.some c.loop-b-test.true k.0 (omega (arith, c.in_err-checked_mul.ensures)) c.loop-b.invariant.says

pub returns-in_err-value : goal.returns-in_err-value
returns-in_err-value c =
    let k = some_digit _ _ c.in_ok-d.ensures in
    c.from_residual-in_err-value.ensures
    ∙ read_over c.args.base.of c.loop-b.value _ _ c.args.text.now _ c.args.base.some c.loop-b-test.true k.0 (omega (arith, c.in_ok-checked_mul.ensures, c.in_err-value.ensures)) c.loop-b.invariant.says

pub loop-b-preserved : goal.loop-b-preserved
loop-b-preserved c =
    let k = some_digit _ _ c.in_ok-d.ensures in
    let r = read_on c.args.base.of c.loop-b.value _ _ c.args.text.now _ c.loop-b-test.true k.0 c.if-d-base.false c.loop-b.invariant.says in
    let e : c.in_ok-value.value ≡ c.loop-b.value * c.args.base.of + c.in_ok-d.d = omega (arith, c.in_ok-checked_mul.ensures, c.in_ok-value.ensures) in
    record { fits = omega (arith, c.in_ok-value.ensures); says = rw e r }

pub returns : goal.returns
returns c = search (rules, read_done)
