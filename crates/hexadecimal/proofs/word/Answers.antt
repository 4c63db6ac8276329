-- The 16 bytes are there, or they are not. Assumes nothing.
use Rattle.std.proofs.Common.{arith, ◌∙◌}
use Rattle.hexadecimal.proofs.DigitLoops.{word_in, word_out}
use Rattle.hexadecimal.proofs.word.Goals as goal

pub returns-in_err-get : goal.returns-in_err-get
returns-in_err-get c = let h = c.in_err-get.ensures.lookup in c.from_residual.ensures ∙ word_out _ _ (grind (arith, h.0))

pub returns-in_err-get-2 : goal.returns-in_err-get-2
returns-in_err-get-2 c = let h = c.in_err-get-2.ensures.lookup in let k = c.in_ok-get.ensures.lookup in c.from_residual-in_err-get-2.ensures ∙ word_out _ _ (grind (arith, h.0, k.0.3))

pub returns : goal.returns
returns c =
    let h = c.in_ok-get.ensures.lookup in
    let k = c.in_ok-get-2.ensures.lookup in
    word_in _ _ _ _ _ (omega (arith, h.0.3, k.0.1)) h.0.2 k.0.2 c.spelled.ensures
