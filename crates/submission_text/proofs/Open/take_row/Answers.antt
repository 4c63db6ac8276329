-- Assumes nothing.
use Rattle.std.proofs.Common.{rules, sym, ◌∙◌}
use Rattle.submission_text.proofs.ReadLines.{row_refused}
use Rattle.submission_text.proofs.Open.take_row.Goals as goal

pub returns-in_err-row_fault : goal.returns-in_err-row_fault
returns-in_err-row_fault c = row_refused _ _ _ _ c.words_in-words.ensures.0 _ _ (sym c.row_fault.ensures ∙ c.in_err-row_fault.was) (search rules)
