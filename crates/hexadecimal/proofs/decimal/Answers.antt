-- The bytes are there, or they are not. Assumes nothing.
use Rattle.std.proofs.Common.{◌∙◌}
use Rattle.hexadecimal.proofs.DigitLoops.{decimal_in, decimal_out}
use Rattle.hexadecimal.proofs.decimal.Goals as goal

pub returns-in_err-get : goal.returns-in_err-get
returns-in_err-get c = let h = c.in_err-get.ensures.lookup in c.from_residual.ensures ∙ decimal_out _ _ _ h.0

pub returns : goal.returns
returns c = let h = c.in_ok-get.ensures.lookup in decimal_in _ _ _ _ h.0.1 (c.counted.ensures ∙ rw h.0.2)
