-- Assumes nothing.
use Rattle.std.proofs.Common.{arith, rules}
use Rattle.hexadecimal.proofs.Printing.{printed_counts}
use Rattle.band_pass_program.proofs.ProgramText.{text_refused, text_answered}
use Rattle.band_pass_program.specs.Text.{answer}
use Rattle.band_pass_program.proofs.answer.Goals as goal

pub returns-in-Err : goal.returns-in-Err
unfolding answer
returns-in-Err c = let p = c.put_refused.ensures.text (omega arith) in (search (rules, text_refused, p), c.put_refused.ensures.within)

pub returns : goal.returns
unfolding answer
returns c = (search (rules, text_answered), search (rules, printed_counts))
